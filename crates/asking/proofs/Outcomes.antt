-- Each way through the call for a finding explained, and what came of it.
use Rattle.std.specs.Prelude.{Option, Some, None}
use Prim.Native.Nat.{ℕ}
use mathlib.Core.Path.{◌≡◌, refl, sym, ◌∙◌, ap}
use mathlib.Core.List.{List}
use lib.ListN.{length}
use Rattle.fields.specs.Trouble.{At}
use Rattle.steps.specs.declared.Figure.{Figure}
use Rattle.figures.specs.Figures.{Supplied}
use Rattle.opening.specs.Opening.{run_count_of}
use Rattle.job.specs.declared.Job.{Job}
use Rattle.job.specs.Places.{run_of}
use Rattle.job.specs.Troubles.{job_trouble}
use Rattle.job.specs.Reading.{ClearJob}
use Rattle.job.proofs.ReadJobs.{count_of_runs}
use Rattle.reduction.specs.Reducing.{run_named}
use Rattle.output.specs.Answers.{Answer, Refused}
use Rattle.printed.specs.Printing.{Printing, unprinted, printing_answer, printing_out, Printed, HandsOver}
use Rattle.explaining.specs.declared.Explanation.{Explanation}
use Rattle.explaining.specs.Explaining.{explained_run}
use Rattle.forms.specs.Forms.{Form}
use Rattle.explanations.specs.Written.{written}
use Rattle.asking.specs.Outcomes.{of_explained, explaining, Explains, ExplainsBy}

-- a refusal changes no byte
refused : {p : Printing} {number place : ℕ} (old : List ℕ) → p ≡ unprinted number place → Printed p old old (Refused number place)
unfolding printing_answer printing_out
refused old e = rw e (record { answer = refl; out = refl })

module _ (form : Form) (fig : Figure) (s : List ℕ) (run rule place : ℕ) (old : List ℕ) where
  pub refused_by_reader : {number at : ℕ} → job_trouble s ≡ At number at → Explains form fig s run rule place old old (Refused number at)
  unfolding explaining
  refused_by_reader t = refused old (rw t)

  module _ (j : Job) {which : Option ℕ} (ok : ClearJob s j) (ew : which ≡ run_named (run_of s) run j.runs) where
    named : which ≡ run_named (run_of s) run (run_count_of s)
    named = ew ∙ ap (run_named (run_of s) run) (count_of_runs s j ok)

    pub no_run : which ≡ None → Explains form fig s run rule place old old (Refused 10 0)
    unfolding explaining
    no_run en = refused old (rw (ok.clear, sym named ∙ en))

    module _ {k : ℕ} {x : Option Explanation} (ek : which ≡ Some k) (ex : x ≡ explained_run fig s k rule place) where
      whole : explaining form fig s run rule place (length old) ≡ of_explained form x (length old)
      unfolding explaining
      whole = rw (ok.clear, sym named ∙ ek, ex)

      pub no_finding_lem : x ≡ None → Explains form fig s run rule place old old (Refused 15 0)
      unfolding of_explained
      no_finding_lem en = refused old (whole ∙ rw en)

      pub one_finding : {e : Explanation} {out : List ℕ} {a : Answer} → x ≡ Some e → HandsOver (written form e) old out a → Explains form fig s run rule place old out a
      unfolding of_explained
      one_finding ee h = rw (whole, ee) h

-- By what is supplied for a figure: its trouble comes first
pub refused_by_figure : (form : Form) (f : Supplied) (s : List ℕ) (run rule place : ℕ) (old : List ℕ) {number at : ℕ} → f.trouble ≡ At number at → ExplainsBy form f s run rule place old old (Refused number at)
refused_by_figure form f s run rule place old told = refused old (rw told)
