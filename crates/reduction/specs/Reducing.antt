-- A run reduced: from its record, the certificates chosen for it, the job's version and a figure to its lines and its findings.
-- Certificates are a function of an index, a run, a version and a figure are values; a job's file is one source of the first three.
use Rattle.std.specs.Prelude.{Option, Some, None, ℕ, zero, suc, ◌≤◌, ◌<◌, cond, List, eqb, length}
use Rattle.readings.specs.declared.headers.Version.{Version}
use Rattle.records.specs.declared.Certificate.{Certificate}
use Rattle.records.specs.declared.Run.{Run}
use Rattle.records.specs.InRange.{RunOk}
use Rattle.lines.specs.Sheet.{sheet}
use Rattle.choosing.specs.declared.Chosen.{Chosen}
use Rattle.choosing.specs.Choosing.{chosen_for}
use Rattle.factors.specs.InRange.{CertificatesOk}
use Rattle.steps.specs.declared.Figure.{Figure}
use Rattle.findings.specs.declared.Finding.{Finding}
use Rattle.findings.specs.declared.Sought.{Sought}
use Rattle.findings.specs.declared.Sought.TheVariants.{All, Why}
use Rattle.findings.specs.Listing.{accepted, lines_for, findings_for, listed}
use Rattle.findings.specs.Seeking.{list_for, ground_kept}
use Rattle.heads.specs.Values.{certificate_place, certificate_of}
use Rattle.job.specs.declared.Job.{Job}
use Rattle.opening.specs.Opening.{version_of, certificate_count_of, run_count_of}
use Rattle.job.specs.Places.{run_of}
use Rattle.job.specs.Reading.{ClearJob}
use Rattle.reduction.specs.declared.Reduced.{Reduced}

-- From values

-- the findings that are listed of a run with those certificates, by what is sought
abbrev pub found_for : Sought → Version → Figure → Run → Chosen → List Finding
found_for All v fig r ch = findings_for v fig r ch
found_for (Why rule place) v fig r ch = list_for (Why rule place) v fig r ch (lines_for v r ch)

-- a run worked with the certificates chosen for it, in a job of that version, judged by that figure, and what is sought of its findings
abbrev pub judged : Sought → Version → Figure → Run → Chosen → Reduced
judged sought v fig r ch =
    record {
      number = r.header.number;
      accepted = accepted (found_for sought v fig r ch);
      sheet = sheet (lines_for v r ch);
      findings = listed (found_for sought v fig r ch);
      basis = ground_kept sought fig r ch (lines_for v r ch);
    }

-- the same with all of its findings
unfoldable pub worked : Version → Figure → Run → Chosen → Reduced
worked v fig r ch = judged All v fig r ch

-- A run reduced with the first n certificates, in a job of that version, by that figure
unfoldable pub reduction : Version → Figure → (ℕ → Certificate) → ℕ → Run → Reduced
reduction v fig f n r = worked v fig r (chosen_for f n r.header)

-- the run and the certificates are in range
pub record Reducible (f : ℕ → Certificate) (n : ℕ) (r : Run) : Type 0 where
  pub run : RunOk r
  pub certificates : CertificatesOk f n

-- which of the first n runs has a number
unfoldable pub run_named : (ℕ → Run) → ℕ → ℕ → Option ℕ
run_named f number zero = None
run_named f number (suc k) = cond (eqb (f k).header.number number) (Some k) (run_named f number k)

-- From a file

-- the first n certificates lie within it, and can reduce a run
pub record ReducibleFrom (s : List ℕ) (n : ℕ) (r : Run) : Type 0 where
  pub within : certificate_place (version_of s) n ≤ length s
  pub reducible : Reducible (certificate_of s) n r

-- a job read from it without trouble, and one of its runs
pub record ClearRun (s : List ℕ) (j : Job) (k : ℕ) : Type 0 where
  pub job : ClearJob s j
  pub inside : k < run_count_of s

-- the certificates chosen for run k of a job
unfoldable pub chosen_in : List ℕ → ℕ → Chosen
chosen_in s k = chosen_for (certificate_of s) (certificate_count_of s) (run_of s k).header

-- Run k of a job, by that figure
unfoldable pub reduced_run : Figure → List ℕ → ℕ → Reduced
reduced_run fig s k = reduction (version_of s) fig (certificate_of s) (certificate_count_of s) (run_of s k)

-- and what is sought of its findings
unfoldable pub judged_run : Sought → Figure → List ℕ → ℕ → Reduced
judged_run sought fig s k = judged sought (version_of s) fig (run_of s k) (chosen_in s k)
