-- What comes of the call for one of a job's runs: decided by the figure, by the job and by the lengths of the lent outputs, before a byte
-- is written.
use Rattle.std.specs.Prelude.{Option, Some, None, ℕ, List, length}
use Rattle.fields.specs.Trouble.{Trouble, Clear, At}
use Rattle.steps.specs.declared.Figure.{Figure}
use Rattle.figures.specs.Figures.{Supplied}
use Rattle.opening.specs.Opening.{run_count_of}
use Rattle.job.specs.Places.{run_of}
use Rattle.job.specs.Troubles.{job_trouble}
use Rattle.reduction.specs.Reducing.{reduced_run, run_named}
use Rattle.output.specs.Answers.{Answer, unknown_run}
use Rattle.handing.specs.Handing.{Outcome, refused, handed, Came}

-- 10: no run of that number
abbrev pub of_run : Figure → List ℕ → Option ℕ → ℕ → ℕ → Outcome
of_run fig s None lines findings = refused unknown_run 0
of_run fig s (Some k) lines findings = handed (reduced_run fig s k) lines findings

-- the reader's 1 to 8 come first
abbrev pub of_trouble : Trouble → Figure → List ℕ → ℕ → ℕ → ℕ → Outcome
of_trouble (At number place) fig s run lines findings = refused number place
of_trouble Clear fig s run lines findings = of_run fig s (run_named (run_of s) run (run_count_of s)) lines findings

-- From a figure, the job's bytes, the run's number and the lengths of the two outputs
unfoldable pub outcome : Figure → List ℕ → ℕ → ℕ → ℕ → Outcome
outcome fig s run lines findings = of_trouble (job_trouble s) fig s run lines findings

-- 14, before the job is read
abbrev pub unless_bad_figure : Trouble → Outcome → Outcome
unless_bad_figure (At number place) o = refused number place
unless_bad_figure Clear o = o

-- From what is supplied for a figure
abbrev pub outcome_by : Supplied → List ℕ → ℕ → ℕ → ℕ → Outcome
outcome_by f s run lines findings = unless_bad_figure f.trouble (outcome f.figure s run lines findings)

-- a run asked for by its number, with these two buffers lent
abbrev pub Answers : Figure → List ℕ → ℕ → List ℕ → List ℕ → List ℕ → List ℕ → Answer → Type 0
Answers fig s run lines findings lines_out findings_out a = Came (outcome fig s run (length lines) (length findings)) lines findings lines_out findings_out a

abbrev pub AnswersBy : Supplied → List ℕ → ℕ → List ℕ → List ℕ → List ℕ → List ℕ → Answer → Type 0
AnswersBy f s run lines findings lines_out findings_out a = Came (outcome_by f s run (length lines) (length findings)) lines findings lines_out findings_out a
