-- The three demands, each over a call to reduce, by a figure or without one, that keeps its promise: what it answered, and every byte
-- afterwards.
use Rattle.std.specs.Prelude.{ℕ, ◌-◌, ◌*◌, ◌^◌, ◌≤◌, ◌<◌, ◌≡◌, Bool, true, List, ◌⊎◌, ◌↔◌, length, take, drop, get_or}
use Rattle.fields.specs.Trouble.{Clear}
use Rattle.choosing.specs.Choosing.{SameForRun}
use Rattle.classes.specs.Classes.{fault, class_number, class_of}
use Rattle.findings.specs.declared.Finding.{Finding}
use Rattle.findings.specs.Listing.{most_findings, no_finding, lines_for, Breaks, HasFinding}
use Rattle.heads.specs.Values.{certificate_of}
use Rattle.opening.specs.Opening.{version_of, certificate_count_of, run_count_of}
use Rattle.job.specs.Places.{run_of}
use Rattle.job.specs.Troubles.{job_trouble}
use Rattle.reduction.specs.Reducing.{chosen_in, reduced_run}
use Rattle.lines.specs.Sheet.{line_count}
use Rattle.output.specs.Answers.{Answer, Done, Refused, packed}
use Rattle.output.specs.Splice.{spliced}
use Rattle.writing.specs.Bytes.{line_size, entry_bytes, sheet_size, sheet_bytes, finding_size, finding_bytes, findings_bytes}
use Rattle.printed.specs.Printing.{printing_by, printing_answer}
use Rattle.layouts.specs.Outcomes.{round_outcome, rectangle_outcome, layout_answer}
use Rattle.handing.specs.Handing.{success, answer_of}
use Rattle.counting.specs.Counting.{count_answer, number_answer}
use Rattle.runs.specs.Outcomes.{outcome_by}
use Rattle.forms.specs.Forms.{Form}
use Rattle.asking.specs.Outcomes.{explaining_by}
use Rattle.leverbonnet.specs.Calls.{Reduces}
use Rattle.steps.specs.declared.Figure.{Figure}
use Rattle.demands.specs.FigureFile.{Lent, supplied, figure_in, GoodLent}
use Rattle.demands.specs.ReadingOrder.{number_of, GoodJob}
use Rattle.demands.specs.Table.{CallRefused}
use Rattle.demands.specs.Equations.{equation}

-- A call to reduce: the figure, the job and the run that it was given, both buffers before and after it, and its answer
pub record Call : Type 0 where
  pub figure : Lent
  pub job : List ℕ
  pub run : ℕ
  pub lines_in : List ℕ
  pub findings_in : List ℕ
  pub lines_out : List ℕ
  pub findings_out : List ℕ
  pub answer : ℕ

-- it keeps the promise of leverbonnet_reduce, or with a figure's file that of leverbonnet_reduce_by_figure
abbrev pub Promised : Call → Type 0
Promised c = Reduces (supplied c.figure) c.job c.run c.lines_in c.findings_in c.lines_out c.findings_out c.answer

-- it succeeds: no refusal's number stands in the high 32 bits
abbrev pub Succeeds : Call → Type 0
Succeeds c = c.answer < 2 ^ 32

-- exactly one run of a job has a number: run k
pub record OnlyRun (s : List ℕ) (run k : ℕ) : Type 0 where
  pub inside : k < run_count_of s
  pub number : number_of s k ≡ run
  pub only : (j : ℕ) → j < run_count_of s → number_of s j ≡ run → j ≡ k

-- Demand 1: every call is refused by a row of the table, or reduces a run

-- a row of the table applies to the call
abbrev pub RowApplies : Call → ℕ → ℕ → Type 0
RowApplies c number place = CallRefused c.figure c.job c.run (length c.lines_in) (length c.findings_in) number place

-- it is refused with that number and place, and nothing is written
pub record RefusedWith (c : Call) (number place : ℕ) : Type 0 where
  pub answer : c.answer ≡ packed (Refused number place)
  pub lines : c.lines_out ≡ c.lines_in
  pub findings : c.findings_out ≡ c.findings_in

-- it reduces run k: the figure and the job are good, the outputs suffice, and they begin with the run's lines and findings
pub record ReducesRun (c : Call) (k : ℕ) : Type 0 where
  pub figure : GoodLent c.figure
  pub good : GoodJob c.job
  pub run : OnlyRun c.job c.run k
  pub lines_room : sheet_size ≤ length c.lines_in
  pub findings_room : finding_size * (reduced_run (figure_in c.figure) c.job k).findings.count ≤ length c.findings_in
  pub answer : c.answer ≡ packed (Done (success (reduced_run (figure_in c.figure) c.job k).findings.count (reduced_run (figure_in c.figure) c.job k).accepted))
  pub lines : c.lines_out ≡ spliced c.lines_in 0 (sheet_bytes (reduced_run (figure_in c.figure) c.job k).sheet)
  pub findings : c.findings_out ≡ spliced c.findings_in 0 (findings_bytes (reduced_run (figure_in c.figure) c.job k).findings.list (reduced_run (figure_in c.figure) c.job k).findings.count)

pub data CameTo (c : Call) : Type 0 where
  by_row : (number place : ℕ) → RowApplies c number place → RefusedWith c number place → CameTo c
  to_run : (k : ℕ) → ReducesRun c k → CameTo c

-- the answers that the twelve calls can give, whatever they are given
pub data Given : Answer → Type 0 where
  to_reduce : (l : Lent) (s : List ℕ) (run lines findings : ℕ) → Given (answer_of (outcome_by (supplied l) s run lines findings))
  to_run_count : (s : List ℕ) → Given (count_answer s)
  to_run_number : (s : List ℕ) (index : ℕ) → Given (number_answer s index)
  to_sheet_text : (l : Lent) (s : List ℕ) (room : ℕ) → Given (printing_answer (printing_by (supplied l) s room))
  to_explain : (form : Form) (l : Lent) (s : List ℕ) (run rule place room : ℕ) → Given (printing_answer (explaining_by form (supplied l) s run rule place room))
  to_round_layout : (points diameter nozzle room : ℕ) → Given (layout_answer (round_outcome points diameter nozzle room))
  to_rect_layout : (points first second room : ℕ) → Given (layout_answer (rectangle_outcome points first second room))

pub record Demand1 (c : Call) : Type 0 where
  -- it is refused by a row of the table, or it reduces a run
  pub came : CameTo c
  -- where a row applies, that is the answer
  pub row : (number place : ℕ) → RowApplies c number place → RefusedWith c number place
  -- and no other answer that a call can give is that number
  pub alone : {a b : Answer} → Given a → Given b → packed a ≡ c.answer → packed b ≡ c.answer → a ≡ b

-- Demand 2: of a call that succeeds, every line is its equation's value

-- the bytes of line i, counted from 1
abbrev pub bytes_of_line : List ℕ → ℕ → List ℕ
bytes_of_line bytes i = take line_size (drop (line_size * (i - 1)) bytes)

pub record Demand2 (c : Call) : Type 0 where
  pub index : ℕ
  -- exactly one run of the job has the asked number
  pub run : OnlyRun c.job c.run index
  -- the bytes of line i are its i-th equation's value by the job's version, or say that it is absent
  pub lines :
      (i : ℕ)
      → 1 ≤ i
      → i ≤ line_count
      → bytes_of_line c.lines_out i ≡ entry_bytes (equation i (version_of c.job) (run_of c.job index) (chosen_in c.job index))

-- Demand 3: of a call that succeeds, the findings are the rules that the run breaks

-- the bytes of the finding at an index, counted from 0
abbrev pub bytes_of_finding : List ℕ → ℕ → List ℕ
bytes_of_finding bytes i = take finding_size (drop (finding_size * i) bytes)

-- one finding stands before another: by rule, and then by place
abbrev pub Precedes : Finding → Finding → Type 0
Precedes a b = (a.rule < b.rule) ⊎ ((a.rule ≡ b.rule) × (a.place < b.place))

-- a list holds the findings of a run by a figure: in order, each once, exactly those rules that it breaks, and each with its class by the job's version
pub record FindingsOf (fig : Figure) (s : List ℕ) (k : ℕ) (list : List Finding) : Type 0 where
  pub sorted : (i j : ℕ) → i < j → j < length list → Precedes (get_or list i no_finding) (get_or list j no_finding)
  pub once :
      (i j : ℕ)
      → i < length list
      → j < length list
      → (get_or list i no_finding).rule ≡ (get_or list j no_finding).rule
      → (get_or list i no_finding).place ≡ (get_or list j no_finding).place
      → i ≡ j
  pub exactly :
      (rule place : ℕ)
      → HasFinding list rule place ↔ Breaks fig (run_of s k) (chosen_in s k) (lines_for (version_of s) (run_of s k) (chosen_in s k)) rule place
  pub class : (i : ℕ) → i < length list → (get_or list i no_finding).class ≡ class_number (class_of (version_of s) (get_or list i no_finding).rule)

pub record Demand3 (c : Call) : Type 0 where
  pub index : ℕ
  pub run : OnlyRun c.job c.run index
  pub list : List Finding
  pub findings : FindingsOf (figure_in c.figure) c.job index list
  -- the answer is their number, and 65,536 more if the run is accepted; no other count and verdict are that answer
  pub accepted : Bool
  pub answer : c.answer ≡ success (length list) accepted
  pub few : length list ≤ most_findings
  pub alone :
      (count : ℕ) (verdict : Bool)
      → count ≤ most_findings
      → c.answer ≡ success count verdict
      → (count ≡ length list) × (verdict ≡ accepted)
  -- it is accepted exactly if none of them is a fault
  pub stands : (accepted ≡ true) ↔ ((i : ℕ) → i < length list → (get_or list i no_finding).class ≡ fault → ⊥)
  -- the bytes of the i-th are the i-th of the list
  pub bytes : (i : ℕ) → i < length list → bytes_of_finding c.findings_out i ≡ finding_bytes (get_or list i no_finding)

-- Beside it: two jobs that are both read hold the same record for a run of that number, and the same certificates for the
-- meter, pitot tube and nozzle which it names
pub record SameRecords (s t : List ℕ) (run : ℕ) : Type 0 where
  pub first : job_trouble s ≡ Clear
  pub second : job_trouble t ≡ Clear
  pub index : ℕ
  pub inside : index < run_count_of s
  pub number : (run_of s index).header.number ≡ run
  pub other : ℕ
  pub within : other < run_count_of t
  pub record' : run_of s index ≡ run_of t other
  pub certificates : SameForRun (run_of s index).header (certificate_of s) (certificate_count_of s) (certificate_of t) (certificate_count_of t)

-- and they are of the same version
pub record SameRun (s t : List ℕ) (run : ℕ) : Type 0 where
  pub version : version_of s ≡ version_of t
  pub records : SameRecords s t run

-- both calls are given the same figure's file, or none
abbrev pub SameFigure : Lent → Lent → Type 0
SameFigure l m = l ≡ m

-- what the call answers and writes for one of two such jobs with one of two such figures, it answers and writes for the other, byte for
-- byte
abbrev pub SameBytes : (Lent → Lent → Type 0) → (List ℕ → List ℕ → ℕ → Type 0) → Type 0
SameBytes Figures Such =
    (l m : Lent) (s t : List ℕ) (run : ℕ)
    → Figures l m
    → Such s t run
    → (lines_in findings_in lines_out findings_out : List ℕ) (r : ℕ)
    → Reduces (supplied l) s run lines_in findings_in lines_out findings_out r
    → Reduces (supplied m) t run lines_in findings_in lines_out findings_out r
