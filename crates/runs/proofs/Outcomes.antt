-- Each way through the call, and the outcome that it is.
use Rattle.std.specs.Prelude.{Option, Some, None}
use Prim.Native.Nat.{ℕ}
use mathlib.Core.Path.{◌≡◌, sym, ◌∙◌, ap}
use mathlib.Core.List.{List}
use Rattle.fields.specs.Trouble.{Clear, At}
use Rattle.steps.specs.declared.Figure.{Figure}
use Rattle.figures.specs.Figures.{Supplied}
use Rattle.job.specs.declared.Job.{Job}
use Rattle.opening.specs.Opening.{run_count_of}
use Rattle.job.specs.Places.{run_of}
use Rattle.job.specs.Troubles.{job_trouble}
use Rattle.job.specs.Reading.{ClearJob}
use Rattle.reduction.specs.declared.Reduced.{Reduced}
use Rattle.job.proofs.ReadJobs.{count_of_runs}
use Rattle.reduction.specs.Reducing.{reduced_run, run_named}
use Rattle.handing.specs.Handing.{refused, handed}
use Rattle.runs.specs.Outcomes.{outcome, outcome_by}

pub refused_by_reader : (fig : Figure) (s : List ℕ) {n p : ℕ} (run lines findings : ℕ) → job_trouble s ≡ At n p → outcome fig s run lines findings ≡ refused n p
unfolding outcome
refused_by_reader fig s run lines findings t = rw t

pub no_run : (fig : Figure) (s : List ℕ) (j : Job) {which : Option ℕ} (run lines findings : ℕ) → ClearJob s j → which ≡ run_named (run_of s) run j.runs → which ≡ None → outcome fig s run lines findings ≡ refused 10 0
unfolding outcome
no_run fig s j run lines findings ok ew en =
    let none : run_named (run_of s) run (run_count_of s) ≡ None = ap (run_named (run_of s) run) (sym (count_of_runs s j ok)) ∙ sym ew ∙ en in
    rw (ok.clear, none)

pub one_run : (fig : Figure) (s : List ℕ) (j : Job) {which : Option ℕ} {k : ℕ} {r : Reduced} (run lines findings : ℕ) → ClearJob s j → which ≡ run_named (run_of s) run j.runs → which ≡ Some k → r ≡ reduced_run fig s k → handed r lines findings ≡ outcome fig s run lines findings
unfolding outcome
one_run fig s j run lines findings ok ew ek er =
    let one = ap (run_named (run_of s) run) (sym (count_of_runs s j ok)) ∙ sym ew ∙ ek in
    rw (ok.clear, one, er)

-- By what is supplied for a figure: its trouble comes first, and without one the figure decides

pub refused_by_figure : (f : Supplied) (s : List ℕ) {n p : ℕ} (run lines findings : ℕ) → f.trouble ≡ At n p → outcome_by f s run lines findings ≡ refused n p
refused_by_figure f s run lines findings told = rw told

pub by_good_figure : (f : Supplied) (s : List ℕ) (run lines findings : ℕ) → f.trouble ≡ Clear → outcome f.figure s run lines findings ≡ outcome_by f s run lines findings
by_good_figure f s run lines findings clear = rw clear
