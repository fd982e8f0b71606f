-- The starred values of docs/RULES.md, in one list, and beside them the answer to its worked job.
use Rattle.std.specs.Prelude.{ℕ, ◌*◌, ◌≡◌, List, [], ◌∷◌, ◌++◌, map, replicate}
use Rattle.lines.specs.Starred.{Example, roots, leak, worked_lines}
use Rattle.rules.specs.Starred.{StarredFactor, starred_factors, FactorStands, StarredIsokinetic, starred_isokinetic, IsokineticStands, StarredWeighing, starred_weighings, WeighingStands}
use Rattle.distances.specs.Positions.{position, starred_positions}
use Rattle.readings.specs.declared.headers.Version.{Version}
use Rattle.readings.specs.declared.headers.Version.TheVariants.{One, Two}
use Rattle.records.specs.declared.Certificate.{Certificate}
use Rattle.records.specs.declared.Run.{Run}
use Rattle.records.specs.Worked.{worked_certificates, worked_run}
use Rattle.heads.specs.Values.{certificate_of}
use Rattle.job.specs.declared.Job.{Job}
use Rattle.job.specs.Places.{run_of}
use Rattle.job.specs.Reading.{ClearJob}
use Rattle.job.specs.Worked.{worked_job, worked_read}
use Rattle.output.specs.Bytes.{le}
use Rattle.writing.specs.Bytes.{sheet_size, finding_size}
use Rattle.output.specs.Answers.{packed}
use Rattle.handing.specs.Handing.{answer_of, lines_after, findings_after}
use Rattle.runs.specs.Outcomes.{outcome_by}
use Rattle.demands.specs.FigureFile.{Lent, no_file, supplied}

-- a starred value: numbers worked out beside those of the list, a factor, a line 18, a weighing, the positions of six points, or what a file is read as
pub data StarredValue : Type 0 where
  of_numbers : Example → StarredValue
  of_factor : StarredFactor → StarredValue
  of_percent : StarredIsokinetic → StarredValue
  of_weighing : StarredWeighing → StarredValue
  of_positions : List ℕ → StarredValue
  of_reading : List ℕ → Job → List Certificate → Run → StarredValue

-- it stands as docs/RULES.md prints it
abbrev pub Stands : StarredValue → Type 0
Stands (of_numbers e) = e.worked ≡ e.expected
Stands (of_factor f) = FactorStands f
Stands (of_percent p) = IsokineticStands p
Stands (of_weighing w) = WeighingStands w
Stands (of_positions ps) = map (position 6) (1 ∷ 2 ∷ 3 ∷ 4 ∷ 5 ∷ 6 ∷ []) ≡ ps
Stands (of_reading file job certificates run) =
    ClearJob file job × (map (certificate_of file) (0 ∷ 1 ∷ 2 ∷ 3 ∷ []) ≡ certificates) × (run_of file 0 ≡ run)

-- the worked job's file is read as its four certificates and its run, in either version
abbrev pub worked_file : Version → StarredValue
worked_file v = of_reading (worked_job v) (worked_read v) worked_certificates worked_run

-- roots, leak and the worked job's lines; the factor moved and not moved, in either version; line 18 and weighings on either side; the positions; the worked job's file in either version
abbrev pub starred : List StarredValue
starred =
    map of_numbers (roots ∷ leak ∷ worked_lines ∷ [])
    ++ (map of_factor starred_factors
    ++ (map of_percent starred_isokinetic
    ++ (map of_weighing starred_weighings
    ++ (of_positions starred_positions ∷ worked_file One ∷ worked_file Two ∷ []))))

-- lines that are present, as bytes
abbrev pub present_bytes : List ℕ → List ℕ
present_bytes [] = []
present_bytes (v ∷ vs) = (1 ∷ le 8 v) ++ present_bytes vs

-- by a figure or none, run 7 of a file into buffers that just suffice for so many findings: its answer, its lines, all of them present, and its findings as bytes
pub record PrintedAs (l : Lent) (job : List ℕ) (many result : ℕ) (values bytes : List ℕ) : Type 0 where
  pub answer : packed (answer_of (outcome_by (supplied l) job 7 sheet_size (finding_size * many))) ≡ result
  pub lines : lines_after (outcome_by (supplied l) job 7 sheet_size (finding_size * many)) (replicate sheet_size 0) ≡ present_bytes values
  pub findings : findings_after (outcome_by (supplied l) job 7 sheet_size (finding_size * many)) (replicate (finding_size * many) 0) ≡ bytes

-- The worked job, of version 1: accepted with one finding, the twenty lines, and the note of rule 11 at segment 1
abbrev pub PrintedJob : Type 0
PrintedJob = PrintedAs no_file (worked_job One) 1 65537 worked_lines.expected (11 ∷ 2 ∷ 1 ∷ 0 ∷ [])
