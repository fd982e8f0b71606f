-- What the public calls promise: the answer as one number, and what every lent byte is afterwards.
use Rattle.std.specs.Prelude.{ℕ, ◌≡◌, List, length}
use Rattle.figures.specs.Figures.{Supplied}
use Rattle.output.specs.Answers.{packed}
use Rattle.printed.specs.Printing.{printing_by, printing_answer, printing_out}
use Rattle.layouts.specs.Outcomes.{LayoutOutcome, layout_answer, layout_out}
use Rattle.handing.specs.Handing.{answer_of, lines_after, findings_after}
use Rattle.runs.specs.Outcomes.{outcome_by}
use Rattle.forms.specs.Forms.{Form}
use Rattle.asking.specs.Outcomes.{explaining_by}

-- leverbonnet_reduce, and the same by a figure: the answer, and every byte of both buffers
pub record Reduces (f : Supplied) (s : List ℕ) (run : ℕ) (lines_in findings_in lines_out findings_out : List ℕ) (r : ℕ) : Type 0 where
  pub answer : r ≡ packed (answer_of (outcome_by f s run (length lines_in) (length findings_in)))
  pub lines : lines_out ≡ lines_after (outcome_by f s run (length lines_in) (length findings_in)) lines_in
  pub findings : findings_out ≡ findings_after (outcome_by f s run (length lines_in) (length findings_in)) findings_in

-- leverbonnet_round_layout and leverbonnet_rect_layout: the answer, and every byte of the output
pub record LaysOut (o : LayoutOutcome) (old new : List ℕ) (r : ℕ) : Type 0 where
  pub answer : r ≡ packed (layout_answer o)
  pub out : new ≡ layout_out o old

-- leverbonnet_sheet_text, and the same by a figure: the answer, and every byte of the output
pub record PrintsText (f : Supplied) (s old new : List ℕ) (r : ℕ) : Type 0 where
  pub answer : r ≡ packed (printing_answer (printing_by f s (length old)))
  pub out : new ≡ printing_out (printing_by f s (length old)) old

-- leverbonnet_explain and leverbonnet_explain_text, and the same by a figure: the answer, and every byte of the output
pub record ExplainsFinding (form : Form) (f : Supplied) (s : List ℕ) (run rule place : ℕ) (old new : List ℕ) (r : ℕ) : Type 0 where
  pub answer : r ≡ packed (printing_answer (explaining_by form f s run rule place (length old)))
  pub out : new ≡ printing_out (explaining_by form f s run rule place (length old)) old
