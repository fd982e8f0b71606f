-- What comes of the call for one of a run's findings, explained: decided by the figure, by the job and by the length of the output, before
-- a byte of it is written.
use Rattle.std.specs.Prelude.{Option, Some, None, ℕ, List, length}
use Rattle.explaining.specs.declared.Explanation.{Explanation}
use Rattle.fields.specs.Trouble.{Trouble, Clear, At}
use Rattle.steps.specs.declared.Figure.{Figure}
use Rattle.figures.specs.Figures.{Supplied}
use Rattle.opening.specs.Opening.{run_count_of}
use Rattle.job.specs.Places.{run_of}
use Rattle.job.specs.Troubles.{job_trouble}
use Rattle.reduction.specs.Reducing.{run_named}
use Rattle.output.specs.Answers.{Answer, unknown_run, unknown_finding}
use Rattle.printed.specs.Printing.{Printing, unprinted, if_fits, unprinted_if_bad, Printed}
use Rattle.explaining.specs.Explaining.{explained_run}
use Rattle.forms.specs.Forms.{Form}
use Rattle.explanations.specs.Written.{written}

-- 15: the run does not have that finding; 9: the output is shorter than its explanation
unfoldable pub of_explained : Form → Option Explanation → ℕ → Printing
of_explained form None room = unprinted unknown_finding 0
of_explained form (Some e) room = if_fits (written form e) room

-- 10: no run of that number
abbrev pub of_named_run : Form → Figure → List ℕ → Option ℕ → ℕ → ℕ → ℕ → Printing
of_named_run form fig s None rule place room = unprinted unknown_run 0
of_named_run form fig s (Some k) rule place room = of_explained form (explained_run fig s k rule place) room

-- the reader's 1 to 8 come first
abbrev pub unless_job_trouble : Form → Trouble → Figure → List ℕ → ℕ → ℕ → ℕ → ℕ → Printing
unless_job_trouble form (At number at) fig s run rule place room = unprinted number at
unless_job_trouble form Clear fig s run rule place room = of_named_run form fig s (run_named (run_of s) run (run_count_of s)) rule place room

-- From a figure, the job's bytes, the run's number, the rule, the place and the output's length
unfoldable pub explaining : Form → Figure → List ℕ → ℕ → ℕ → ℕ → ℕ → Printing
explaining form fig s run rule place room = unless_job_trouble form (job_trouble s) fig s run rule place room

-- From what is supplied for a figure: 14 before the job is read
abbrev pub explaining_by : Form → Supplied → List ℕ → ℕ → ℕ → ℕ → ℕ → Printing
explaining_by form f s run rule place room = unprinted_if_bad f.trouble (explaining form f.figure s run rule place room)

-- a finding asked for, with that output lent
abbrev pub Explains : Form → Figure → List ℕ → ℕ → ℕ → ℕ → List ℕ → List ℕ → Answer → Type 0
Explains form fig s run rule place old new a = Printed (explaining form fig s run rule place (length old)) old new a

abbrev pub ExplainsBy : Form → Supplied → List ℕ → ℕ → ℕ → ℕ → List ℕ → List ℕ → Answer → Type 0
ExplainsBy form f s run rule place old new a = Printed (explaining_by form f s run rule place (length old)) old new a
