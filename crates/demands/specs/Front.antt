-- How much of a file matters: two files that no call tells apart.
use Rattle.std.specs.Prelude.{ℕ, ◌≡◌, List, ◌↔◌}
use Rattle.printing.specs.Jobs.{job_text}
use Rattle.counting.specs.Counting.{count_answer, number_answer}
use Rattle.steps.specs.declared.Figure.{Figure}
use Rattle.leverbonnet.specs.Calls.{Reduces, PrintsText}
use Rattle.demands.specs.FigureFile.{Lent, supplied}

-- every call on a file promises the same of both, and the same is printed of both
pub record Alike (s t : List ℕ) : Type 0 where
  pub reduce :
      (l : Lent) (run : ℕ) {lines_in findings_in lines_out findings_out : List ℕ} {r : ℕ}
      → Reduces (supplied l) s run lines_in findings_in lines_out findings_out r ↔ Reduces (supplied l) t run lines_in findings_in lines_out findings_out r
  pub run_count : count_answer s ≡ count_answer t
  pub run_number : (index : ℕ) → number_answer s index ≡ number_answer t index
  pub sheet_text : (l : Lent) {old new : List ℕ} {r : ℕ} → PrintsText (supplied l) s old new r ↔ PrintsText (supplied l) t old new r
  pub printed : (fig : Figure) → job_text fig s ≡ job_text fig t
