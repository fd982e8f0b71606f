-- The call that explains: every call is refused by a row of the table, or explains a finding that the run has; and two jobs that hold the
-- same records give the same explanation.
use Rattle.std.specs.Prelude.{ℕ, ◌≤◌, ◌<◌, ◌≡◌, List, length}
use Rattle.figures.specs.Figures.{figure_rows}
use Rattle.findings.specs.Listing.{HasFinding}
use Rattle.heads.specs.Values.{certificate_of}
use Rattle.opening.specs.Opening.{version_of, certificate_count_of, run_count_of}
use Rattle.job.specs.Places.{run_of}
use Rattle.output.specs.Answers.{Answer, Done, Refused, packed}
use Rattle.output.specs.Splice.{spliced}
use Rattle.explaining.specs.declared.Explanation.{Explanation}
use Rattle.explaining.specs.Explaining.{explanation}
use Rattle.forms.specs.Forms.{Form}
use Rattle.explanations.specs.Written.{written}
use Rattle.leverbonnet.specs.Calls.{ExplainsFinding}
use Rattle.demands.specs.FigureFile.{Lent, file, supplied, figure_in, GoodLent}
use Rattle.demands.specs.ReadingOrder.{number_of, GoodJob}
use Rattle.demands.specs.Table.{FirstBad, FileRefused}
use Rattle.demands.specs.Demands.{OnlyRun, Given, SameRun, SameFigure}
use Rattle.reviewing.specs.Shown.{findings_in}

-- A call to explain: its form, the figure, the job, the run, the rule and the place that it was given, the output before and after it, and
-- its answer
pub record Asking : Type 0 where
  pub form : Form
  pub figure : Lent
  pub job : List ℕ
  pub run : ℕ
  pub rule : ℕ
  pub place : ℕ
  pub out_in : List ℕ
  pub out_out : List ℕ
  pub answer : ℕ

-- it keeps the promise of its public call
abbrev pub KeepsPromise : Asking → Type 0
KeepsPromise a =
    ExplainsFinding a.form (supplied a.figure) a.job a.run a.rule a.place a.out_in a.out_out a.answer

-- run k of the job has the finding that it asks for
abbrev pub Asked : Asking → ℕ → Type 0
Asked a k = HasFinding (findings_in (figure_in a.figure) a.job k) a.rule a.place

-- why run k of the job has it
abbrev pub reason_of : Asking → ℕ → Explanation
reason_of a k =
    explanation (version_of a.job) (figure_in a.figure) (certificate_of a.job) (certificate_count_of a.job) (run_of a.job k) a.rule a.place

-- A row of the table applies: the figure's; where that is good, one of the job's; and behind them, where the job is good too, 10, then 15,
-- then 9
pub data RowFor (a : Asking) : ℕ → ℕ → Type 0 where
  -- 14: a figure in trouble; its first field in trouble, or the file's length
  row_for14 : (f : List ℕ) → a.figure ≡ file f → {place : ℕ} → FirstBad 14 place (figure_rows f) → RowFor a 14 place
  row_for_file : GoodLent a.figure → {number place : ℕ} → FileRefused a.job number place → RowFor a number place
  -- 10: no run of that number; 0
  row_for10 :
      GoodLent a.figure
      → GoodJob a.job
      → ((k : ℕ) → k < run_count_of a.job → number_of a.job k ≡ a.run → ⊥)
      → RowFor a 10 0
  -- 15: the run does not have that finding; 0
  row_for15 : GoodLent a.figure → GoodJob a.job → (k : ℕ) → OnlyRun a.job a.run k → (Asked a k → ⊥) → RowFor a 15 0
  -- 9: the lent output is too short; 0
  row_for9 :
      GoodLent a.figure
      → GoodJob a.job
      → (k : ℕ)
      → OnlyRun a.job a.run k
      → Asked a k
      → length a.out_in < length (written a.form (reason_of a k))
      → RowFor a 9 0

-- it is refused with that number and place, and nothing is written
pub record RefusedFor (a : Asking) (number place : ℕ) : Type 0 where
  pub answer : a.answer ≡ packed (Refused number place)
  pub out : a.out_out ≡ a.out_in

-- it explains the finding of run k: figure and job are good, the run has it, the output suffices and begins with the explanation
pub record ExplainsRun (a : Asking) (k : ℕ) : Type 0 where
  pub figure : GoodLent a.figure
  pub good : GoodJob a.job
  pub run : OnlyRun a.job a.run k
  pub finding : Asked a k
  pub room : length (written a.form (reason_of a k)) ≤ length a.out_in
  pub answer : a.answer ≡ packed (Done (length (written a.form (reason_of a k))))
  pub out : a.out_out ≡ spliced a.out_in 0 (written a.form (reason_of a k))

pub data CameOf (a : Asking) : Type 0 where
  came_by_row : (number place : ℕ) → RowFor a number place → RefusedFor a number place → CameOf a
  came_to_finding : (k : ℕ) → ExplainsRun a k → CameOf a

-- Demand 1 of the call that explains
pub record AskedAndAnswered (a : Asking) : Type 0 where
  -- it is refused by a row of the table, or it explains a finding that the run has
  pub came : CameOf a
  -- where a row applies, that is the answer
  pub row : (number place : ℕ) → RowFor a number place → RefusedFor a number place
  -- and no other answer that a call can give is that number
  pub alone : {x y : Answer} → Given x → Given y → packed x ≡ a.answer → packed y ≡ a.answer → x ≡ y

-- Demand 3, two jobs: what it answers and writes for one, it answers and writes for the other, byte for byte
abbrev pub SameReasons : Type 0
SameReasons =
    (form : Form) (l m : Lent) (s t : List ℕ) (run rule place : ℕ)
    → SameFigure l m
    → SameRun s t run
    → (out_in out_out : List ℕ) (r : ℕ)
    → ExplainsFinding form (supplied l) s run rule place out_in out_out r
    → ExplainsFinding form (supplied m) t run rule place out_in out_out r
