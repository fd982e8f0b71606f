-- The same outcome: what a call promises of one file, it promises of the other.
use Prim.Native.Nat.{ℕ}
use mathlib.Core.Path.{◌≡◌, ◌∙◌, ap}
use mathlib.Core.List.{List}
use lib.ListN.{length}
use Rattle.figures.specs.Figures.{Supplied}
use Rattle.output.specs.Answers.{packed}
use Rattle.printed.specs.Printing.{printing_by, printing_answer, printing_out}
use Rattle.handing.specs.Handing.{answer_of, lines_after, findings_after}
use Rattle.runs.specs.Outcomes.{outcome_by}
use Rattle.leverbonnet.specs.Calls.{Reduces, PrintsText}

pub reduces_same : (f g : Supplied) (s t : List ℕ) {run : ℕ} {lines_in findings_in lines_out findings_out : List ℕ} {r : ℕ} → outcome_by f s run (length lines_in) (length findings_in) ≡ outcome_by g t run (length lines_in) (length findings_in) → Reduces f s run lines_in findings_in lines_out findings_out r → Reduces g t run lines_in findings_in lines_out findings_out r
reduces_same f g s t {lines_in = lines_in} {findings_in} same done =
    record {
      answer = done.answer ∙ ap (λ o. packed (answer_of o)) same;
      lines = done.lines ∙ ap (λ o. lines_after o lines_in) same;
      findings = done.findings ∙ ap (λ o. findings_after o findings_in) same;
    }

pub prints_same : (f g : Supplied) (s t : List ℕ) {old new : List ℕ} {r : ℕ} → printing_by f s (length old) ≡ printing_by g t (length old) → PrintsText f s old new r → PrintsText g t old new r
prints_same f g s t {old} same done =
    record {
      answer = done.answer ∙ ap (λ p. packed (printing_answer p)) same;
      out = done.out ∙ ap (λ p. printing_out p old) same;
    }
