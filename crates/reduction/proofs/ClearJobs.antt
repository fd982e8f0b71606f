-- The runs of a job without trouble: each can be reduced with the job's certificates, and has no more findings than the list holds.
use Prim.Native.Nat.{ℕ, ◌≤◌, ◌<◌}
use mathlib.Core.Path.{◌≡◌, ◌∙◌, ap, subst⁻¹}
use mathlib.Core.List.{List}
use lib.ListN.{get_or}
use Rattle.fields.specs.Trouble.{Clear}
use Rattle.records.specs.declared.Run.{Run}
use Rattle.opening.specs.Opening.{version_of, run_count_of}
use Rattle.parts.specs.Values.{run_at}
use Rattle.job.specs.declared.Job.{Job}
use Rattle.job.specs.Places.{run_of}
use Rattle.job.specs.Troubles.{job_trouble}
use Rattle.job.specs.Reading.{ClearJob}
use Rattle.job.proofs.ClearJobs.{clear_run, clear_certificate, certificates_within}
use Rattle.job.proofs.ReadJobs.{count_of_runs, count_of_certificates, start_of}
use Rattle.steps.specs.declared.Figure.{Figure}
use Rattle.findings.specs.Listing.{most_findings, listed}
use Rattle.findings.proofs.Most.{at_most_for}
use Rattle.reduction.specs.Reducing.{ReducibleFrom, ClearRun, worked, reduction, chosen_in, reduced_run}

pub workable : (s : List ℕ) (j : Job) → ClearJob s j → (k : ℕ) → k < run_count_of s → ReducibleFrom s j.certificates (run_of s k)
workable s j ok k inside =
    subst⁻¹ (λ n. ReducibleFrom s n (run_of s k)) (count_of_certificates s j ok)
    (record {
      within = certificates_within s ok.clear;
      reducible = record { run = clear_run s ok.clear k inside; certificates = record { each = clear_certificate s ok.clear } };
    })

-- one of the runs that were counted is the job's
pub is_clear : {s : List ℕ} {j : Job} {k : ℕ} → ClearJob s j → k < j.runs → ClearRun s j k
is_clear {s} {j} ok inside = record { job = ok; inside = rw (count_of_runs s j ok) at inside }

-- a run read at its place is the job's, and can be reduced
pub this_run : {s : List ℕ} {j : Job} {k : ℕ} {r : Run} → ClearRun s j k → r ≡ run_at s (get_or j.starts k 0) → r ≡ run_of s k
this_run {s} {j} {k} ok e = e ∙ ap (run_at s) (start_of s j ok.job k ok.inside)

pub ready : {s : List ℕ} {j : Job} {k : ℕ} {r : Run} → ClearRun s j k → r ≡ run_at s (get_or j.starts k 0) → ReducibleFrom s j.certificates r
ready {s} {j} {k} ok e = rw (this_run ok e) (workable s j ok.job k ok.inside)

pub found_few : (fig : Figure) (s : List ℕ) → job_trouble s ≡ Clear → (k : ℕ) → k < run_count_of s → (reduced_run fig s k).findings.count ≤ most_findings
unfolding reduced_run reduction worked chosen_in listed
found_few fig s clear k inside = at_most_for (version_of s) fig (run_of s k) (chosen_in s k) (clear_run s clear k inside)
