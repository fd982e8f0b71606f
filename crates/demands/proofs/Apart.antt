-- No two answers that a call can give are one number.
use Rattle.std.specs.Prelude.{Option, Some, None}
use Rattle.explaining.specs.declared.Explanation.{Explanation}
use Prim.Native.Nat.{ℕ, ◌*◌, ◌^◌, ◌≤◌, ◌<◌}
use mathlib.Core.Path.{◌≡◌, refl, ap, ap₂}
use mathlib.Core.Bool.{Bool, true, false, cond, ◌||◌}
use mathlib.Core.List.{List}
use native.Mathlib.Nat.{mul-le-mul}
use native.Mathlib.Omega.{arith}
use borrow.Author.Tests.{leb-false}
use lib.Dec.{leb, ltb, lit≤, lit<}
use lib.ListN.{length}
use Rattle.readings.specs.Ranges.{least_run_number, greatest_run_number}
use Rattle.readings.proofs.Ranges.{within_greatest}
use Rattle.fields.specs.Trouble.{Trouble, Clear, At}
use Rattle.findings.specs.Listing.{most_findings}
use Rattle.steps.specs.declared.Figure.{Figure}
use Rattle.opening.specs.Opening.{run_count_of}
use Rattle.job.specs.Places.{run_of}
use Rattle.job.specs.Troubles.{job_trouble}
use Rattle.job.proofs.ClearJobs.{job_clear, clear_run}
use Rattle.demands.proofs.Numbers.{numbers}
use Rattle.job.proofs.Reach.{places}
use Rattle.job.proofs.WholeFile.{run_count_lem}
use Rattle.reduction.specs.declared.Reduced.{Reduced}
use Rattle.reduction.specs.Reducing.{reduced_run, run_named}
use Rattle.reduction.proofs.ClearJobs.{found_few}
use Rattle.reduction.proofs.Naming.{found_inside}
use Rattle.traverse.specs.Layout.{most_distances, round_layout, rectangle_layout}
use Rattle.distances.proofs.PositionLaws.{points_of}
use Rattle.distances.proofs.RoundLaws.{round_ok}
use Rattle.distances.proofs.RectangleLaws.{rectangle_ok, grid_ok}
use Rattle.traverse.proofs.Theorems.{round_length, rectangle_length}
use Rattle.writing.specs.Bytes.{sheet_size, finding_size}
use Rattle.printing.specs.Jobs.{job_text}
use Rattle.printing.proofs.Lengths.{text_most}
use Rattle.printed.specs.Printing.{unprinted, printed, if_fits, unless_trouble, printing, unprinted_if_bad, printing_answer}
use Rattle.layouts.specs.Outcomes.{distance_size, if_room, lent_outcome, layout_outcome, round_outcome, rectangle_outcome, layout_answer}
use Rattle.handing.specs.Handing.{refused, reduced, handed, success, answer_of}
use Rattle.counting.specs.Counting.{count_of, count_answer, number_at, number_answer}
use Rattle.runs.specs.Outcomes.{of_run, of_trouble, outcome, unless_bad_figure}
use Rattle.explaining.specs.Explaining.{explained_run}
use Rattle.forms.specs.Forms.{Form}
use Rattle.explanations.specs.Written.{written}
use Rattle.explanations.proofs.Lengths.{written_short}
use Rattle.asking.specs.Outcomes.{of_explained, of_named_run, unless_job_trouble, explaining}
use Rattle.demands.specs.FigureFile.{Lent, supplied, figure_in}
use Rattle.demands.proofs.FigureFile.{bad_lent}
use Rattle.demands.specs.Demands.{Given, to_reduce, to_run_count, to_run_number, to_sheet_text, to_explain, to_round_layout, to_rect_layout}
use Rattle.output.specs.Answers.{Answer, Done, Refused, packed}

-- a value below 2^32; a refusal with a number, at a place below 2^32
abbrev Tellable : Answer → Type 0
Tellable (Done value) = value < 2 ^ 32
Tellable (Refused number place) = (1 ≤ number) × (place < 2 ^ 32)

packed_apart : (a b : Answer) → Tellable a → Tellable b → packed a ≡ packed b → a ≡ b
unfolding packed
packed_apart (Done v) (Done w) ha hb e = ap Done e
packed_apart (Done v) (Refused n p) ha (some, small) e = absurd (omega arith)
packed_apart (Refused n p) (Done v) (some, small) hb e = absurd (omega arith)
packed_apart (Refused n p) (Refused m q) (some, small) (more, low) e =
    let number : n ≡ m = omega arith in
    let place : p ≡ q = omega arith in
    ap₂ Refused number place

-- Each call's answers can be told

reader_told : (s : List ℕ) {n p : ℕ} → job_trouble s ≡ At n p → Tellable (Refused n p)
reader_told s e = ((numbers s e).0, omega (arith, places s e))

-- a figure's 14
figure_told : (l : Lent) {n p : ℕ} → (supplied l).trouble ≡ At n p → Tellable (Refused n p)
figure_told l e = let told = bad_lent l e in (omega (arith, told.number), told.near)

success_told : (count : ℕ) (accepted : Bool) → count ≤ most_findings → success count accepted < 2 ^ 32
unfolding success
success_told count true few = omega arith
success_told count false few = omega arith

reduce_told : (fig : Figure) (s : List ℕ) (run lines findings : ℕ) → Tellable (answer_of (outcome fig s run lines findings))
unfolding outcome handed answer_of
reduce_told fig s run lines findings = by_trouble (job_trouble s) refl
  where
    by_room : (r : Reduced) (short : Bool) → r.findings.count ≤ most_findings → Tellable (answer_of (cond short (refused 9 0) (reduced r)))
    by_room r true few = (lit≤ tt, lit< tt)
    by_room r false few = success_told r.findings.count r.accepted few

    by_number : job_trouble s ≡ Clear → (which : Option ℕ) → run_named (run_of s) run (run_count_of s) ≡ which → Tellable (answer_of (of_run fig s which lines findings))
    by_number clear None e = (lit≤ tt, lit< tt)
    by_number clear (Some k) e = by_room (reduced_run fig s k) (ltb lines sheet_size || ltb findings (finding_size * (reduced_run fig s k).findings.count)) (found_few fig s clear k (found_inside (run_of s) run (run_count_of s) e))

    by_trouble : (t : Trouble) → job_trouble s ≡ t → Tellable (answer_of (of_trouble t fig s run lines findings))
    by_trouble (At n p) e = reader_told s e
    by_trouble Clear e = by_number e (run_named (run_of s) run (run_count_of s)) refl

count_told : (s : List ℕ) → Tellable (count_answer s)
unfolding count_answer
count_told s = go (job_trouble s) refl
  where
    go : (t : Trouble) → job_trouble s ≡ t → Tellable (count_of t s)
    go (At n p) e = reader_told s e
    go Clear e = omega (arith, run_count_lem s (job_clear s e).file)

number_told : (s : List ℕ) (index : ℕ) → Tellable (number_answer s index)
unfolding number_answer
number_told s index = go (job_trouble s) refl
  where
    inside : job_trouble s ≡ Clear → (past : Bool) → leb (run_count_of s) index ≡ past → Tellable (cond past (Refused 10 0) (Done (run_of s index).header.number))
    inside clear true e = (lit≤ tt, lit< tt)
    inside clear false e = omega (arith, within_greatest least_run_number greatest_run_number _ (clear_run s clear index (leb-false _ _ e)).header.number)

    go : (t : Trouble) → job_trouble s ≡ t → Tellable (number_at t s index)
    go (At n p) e = reader_told s e
    go Clear e = inside e _ refl

text_told : (fig : Figure) (s : List ℕ) (room : ℕ) → Tellable (printing_answer (printing fig s room))
unfolding printing if_fits printing_answer
text_told fig s room = go (job_trouble s) refl
  where
    by_room : (short : Bool) → Tellable (printing_answer (cond short (unprinted 9 0) (printed (job_text fig s))))
    by_room true = (lit≤ tt, lit< tt)
    by_room false = omega (arith, text_most fig s)

    go : (t : Trouble) → job_trouble s ≡ t → Tellable (printing_answer (unless_trouble t fig s room))
    go (At n p) e = reader_told s e
    go Clear e = by_room (ltb room (length (job_text fig s)))

explain_told : (form : Form) (fig : Figure) (s : List ℕ) (run rule place room : ℕ) → Tellable (printing_answer (explaining form fig s run rule place room))
unfolding explaining of_explained if_fits printing_answer
explain_told form fig s run rule place room = by_trouble (job_trouble s) refl
  where
    by_room : (text : List ℕ) (short : Bool) → length text ≤ 1024 → Tellable (printing_answer (cond short (unprinted 9 0) (printed text)))
    by_room text true few = (lit≤ tt, lit< tt)
    by_room text false few = omega (arith, few)

    by_finding : (x : Option Explanation) → Tellable (printing_answer (of_explained form x room))
    by_finding None = (lit≤ tt, lit< tt)
    by_finding (Some e) = by_room (written form e) (ltb room (length (written form e))) (written_short form e)

    by_number : (which : Option ℕ) → Tellable (printing_answer (of_named_run form fig s which rule place room))
    by_number None = (lit≤ tt, lit< tt)
    by_number (Some k) = by_finding (explained_run fig s k rule place)

    by_trouble : (t : Trouble) → job_trouble s ≡ t → Tellable (printing_answer (unless_job_trouble form t fig s run rule place room))
    by_trouble (At n p) e = reader_told s e
    by_trouble Clear e = by_number (run_named (run_of s) run (run_count_of s))

-- a layout of no more distances than there may be
layout_told : (fits : Bool) (ds : List ℕ) (room : ℕ) → (fits ≡ true → length ds ≤ most_distances) → Tellable (layout_answer (layout_outcome fits ds room))
unfolding layout_outcome lent_outcome layout_answer
layout_told false ds room few = (lit≤ tt, lit< tt)
layout_told true ds room few = by_room (leb (distance_size * length ds) room)
  where
    by_room : (enough : Bool) → Tellable (layout_answer (if_room enough ds))
    by_room true = omega (arith, few refl)
    by_room false = (lit≤ tt, lit< tt)

round_told : (points diameter nozzle room : ℕ) → Tellable (layout_answer (round_outcome points diameter nozzle room))
unfolding round_outcome
round_told points diameter nozzle room =
    layout_told _ (round_layout points diameter nozzle) room
    (λ fits. omega (arith, round_length points diameter nozzle, (points_of points (round_ok points diameter nozzle fits).points).most))

rectangle_told : (points first second room : ℕ) → Tellable (layout_answer (rectangle_outcome points first second room))
unfolding rectangle_outcome
rectangle_told points first second room =
    layout_told _ (rectangle_layout points first second) room
    (λ fits.
    let cells = grid_ok points (rectangle_ok points first second fits).points in
    omega (arith, rectangle_length points first second fits, mul-le-mul cells.rows_few cells.columns_few, cells.cells))

-- by what is given for a figure
reduce_by_told : (l : Lent) (s : List ℕ) (run lines findings : ℕ) (t : Trouble) → (supplied l).trouble ≡ t → Tellable (answer_of (unless_bad_figure t (outcome (figure_in l) s run lines findings)))
unfolding answer_of
reduce_by_told l s run lines findings (At n p) e = figure_told l e
reduce_by_told l s run lines findings Clear e = reduce_told (figure_in l) s run lines findings

text_by_told : (l : Lent) (s : List ℕ) (room : ℕ) (t : Trouble) → (supplied l).trouble ≡ t → Tellable (printing_answer (unprinted_if_bad t (printing (figure_in l) s room)))
unfolding printing_answer
text_by_told l s room (At n p) e = figure_told l e
text_by_told l s room Clear e = text_told (figure_in l) s room

explain_by_told : (form : Form) (l : Lent) (s : List ℕ) (run rule place room : ℕ) (t : Trouble) → (supplied l).trouble ≡ t → Tellable (printing_answer (unprinted_if_bad t (explaining form (figure_in l) s run rule place room)))
unfolding printing_answer
explain_by_told form l s run rule place room (At n p) e = figure_told l e
explain_by_told form l s run rule place room Clear e = explain_told form (figure_in l) s run rule place room

tellable : {a : Answer} → Given a → Tellable a
tellable (to_reduce l s run lines findings) = reduce_by_told l s run lines findings (supplied l).trouble refl
tellable (to_run_count s) = count_told s
tellable (to_run_number s index) = number_told s index
tellable (to_sheet_text l s room) = text_by_told l s room (supplied l).trouble refl
tellable (to_explain form l s run rule place room) = explain_by_told form l s run rule place room (supplied l).trouble refl
tellable (to_round_layout points diameter nozzle room) = round_told points diameter nozzle room
tellable (to_rect_layout points first second room) = rectangle_told points first second room

-- No two answers that a call can give are one number
pub answers_apart : {a b : Answer} → Given a → Given b → packed a ≡ packed b → a ≡ b
answers_apart {a} {b} ga gb e = packed_apart a b (tellable ga) (tellable gb) e
