-- What holds of a figure without trouble, where there can be trouble, and what is read.
use Prim.Native.Nat.{ℕ, ◌+◌, ◌^◌, ◌≤◌, ◌<◌}
use mathlib.Core.Path.{◌≡◌, refl, sym, ◌∙◌, subst, subst⁻¹}
use mathlib.Core.Bool.{Bool, true, false, ◌&&◌}
use mathlib.Core.List.{List, ◌++◌}
use native.Mathlib.Omega.{arith}
use borrow.Author.Tests.{leb-true, leb-false, le-leb}
use lib.Dec.{leb, eqb}
use lib.ListN.{length}
use Rattle.fields.specs.Numbers.{byte_at, u16_at}
use Rattle.std.specs.Prelude.{Result, Ok, Err, IsErrAnd}
use Rattle.fields.specs.declared.trouble.BadFile.{BadFile}
use Rattle.fields.specs.Trouble.{Trouble, Clear, At, trouble_unless, bad_figure, checks}
use Rattle.fields.proofs.FirstTrouble.{told, clear_left, clear_right, checks_clear, first_told, later_told, unless_told, up_told}
use Rattle.readings.specs.Ranges.{figure_version, step_count, greatest_step_count}
use Rattle.readings.proofs.Ranges.{both_right, within_greatest}
use Rattle.steps.specs.declared.Step.{Step}
use Rattle.steps.specs.declared.Figure.{Figure}
use Rattle.figures.proofs.Parts.{steps_in_a_row, list_parts, figure_parts}
use Rattle.figures.specs.Figures.{Supplied, field_rows, figure_marked, opening_rows, step_place, distance_good, round_good, rectangular_good, step_rows, list_rows, list_end, steps_at, last_at, next_at, longest_figure, figure_trouble, supplied_by, read_figure, told_figure}

-- No list holds more steps than there is room for

pub few_steps : (s : List ℕ) (at : ℕ) → checks Clear (list_rows s at) ≡ Clear → byte_at s at ≤ greatest_step_count
unfolding list_rows
few_steps s at e = within_greatest _ _ _ (checks_clear (list_rows s at) e).1.0

module _ (s : List ℕ) (clear : figure_trouble s ≡ Clear) where
  -- each list is clear
  pub last_clear : checks Clear (list_rows s last_at) ≡ Clear
  last_clear = clear_left _ _ (clear_right _ _ (sym (figure_parts s) ∙ clear))

  pub next_clear : checks Clear (list_rows s (next_at s)) ≡ Clear
  next_clear = clear_left _ _ (clear_right _ _ (clear_right _ _ (sym (figure_parts s) ∙ clear)))

-- Where there can be trouble

-- the number is 14, and the place no further on
abbrev pub fourteen_by : ℕ → ℕ → ℕ → Bool
fourteen_by most n p = eqb n bad_figure && leb p most

field_told : (most : ℕ) (t : Trouble) (s : List ℕ) (at width : ℕ) (good : Bool) → at + width ≤ most → told (fourteen_by most) t ≡ true → told (fourteen_by most) (checks t (field_rows s at width good)) ≡ true
unfolding checks
field_told most t s at width good near e =
    first_told (fourteen_by most) _ _
    (first_told (fourteen_by most) t _ e (ends (leb (at + width) (length s)) refl))
    (unless_told (fourteen_by most) good bad_figure at (le-leb at most (omega arith)))
  where
    ends : (whole : Bool) → leb (at + width) (length s) ≡ whole → told (fourteen_by most) (trouble_unless whole bad_figure (length s)) ≡ true
    ends true h = refl
    ends false h = le-leb (length s) most (omega (arith, leb-false (at + width) (length s) h))

step_told : (most : ℕ) (s : List ℕ) (at i : ℕ) → step_place at i + 4 ≤ most → told (fourteen_by most) (checks Clear (step_rows s at i)) ≡ true
unfolding checks
step_told most s at i near =
    let p : ℕ = step_place at i in
    let distance = field_told most Clear s p 2 (distance_good s at i) (omega arith) refl in
    let round = field_told most (checks Clear (field_rows s p 2 (distance_good s at i))) s (p + 2) 1 (round_good s at i) (omega arith) distance in
    field_told most (checks Clear (field_rows s p 2 (distance_good s at i) ++ field_rows s (p + 2) 1 (round_good s at i))) s (p + 3) 1 (rectangular_good s at i) (omega arith) round

list_told : (most : ℕ) (s : List ℕ) (at : ℕ) → at + 65 ≤ most → told (fourteen_by most) (checks Clear (list_rows s at)) ≡ true
list_told most s at near =
    subst⁻¹ (λ t. told (fourteen_by most) t ≡ true) (list_parts s at)
    (later_told (fourteen_by most) _ _
    (field_told most Clear s at 1 (step_count (byte_at s at)) (omega arith) refl)
    (λ clear.
    let few : byte_at s at ≤ greatest_step_count = within_greatest _ _ _ (checks_clear (field_rows s at 1 (step_count (byte_at s at))) clear).1.0 in
    subst⁻¹ (λ t. told (fourteen_by most) t ≡ true) (steps_in_a_row s at (byte_at s at))
    (up_told (fourteen_by most) (λ i. checks Clear (step_rows s at i)) (byte_at s at) (λ i inside. step_told most s at i (omega arith)))))

-- Every trouble of a figure is 14, at no place past the longest figure's length
pub figure_told : (s : List ℕ) → told (fourteen_by longest_figure) (figure_trouble s) ≡ true
unfolding opening_rows checks
figure_told s =
    subst⁻¹ (λ t. told (fourteen_by longest_figure) t ≡ true) (figure_parts s)
    (later_told (fourteen_by longest_figure) _ _
    (field_told longest_figure (checks Clear (field_rows s 0 3 (figure_marked s))) s 3 2 (figure_version (u16_at s 3)) (omega arith)
    (field_told longest_figure Clear s 0 3 (figure_marked s) (omega arith) refl))
    (λ opened.
    later_told (fourteen_by longest_figure) _ _
    (list_told longest_figure s last_at (omega arith))
    (λ last.
    let few : byte_at s last_at ≤ greatest_step_count = few_steps s last_at last in
    later_told (fourteen_by longest_figure) _ _
    (list_told longest_figure s (next_at s) (omega arith))
    (λ next.
    let few-next : byte_at s (next_at s) ≤ greatest_step_count = few_steps s (next_at s) next in
    unless_told (fourteen_by longest_figure) (leb (length s) (list_end s (next_at s))) bad_figure (list_end s (next_at s)) (le-leb (list_end s (next_at s)) longest_figure (omega arith))))))

-- What the code reads can be handed on: an answer has room for the place of its trouble

-- what is read of a file is in the trouble that the file is in
pub read_trouble : (s : List ℕ) → (read_figure s).trouble ≡ figure_trouble s
unfolding read_figure
read_trouble s = go (figure_trouble s)
  where
    go : (t : Trouble) → (supplied_by t s).trouble ≡ t
    go Clear = refl
    go (At n p) = refl

pub fourteen_fits : (s : List ℕ) {f : Supplied} {n p : ℕ} → f ≡ read_figure s → f.trouble ≡ At n p → p < 2 ^ 32
fourteen_fits s {n = n} {p} e met =
    let here : figure_trouble s ≡ At n p = sym (read_trouble s) ∙ rw (← e) met in
    let known : (eqb n bad_figure && leb p longest_figure) ≡ true = subst (λ t. told (fourteen_by longest_figure) t ≡ true) here (figure_told s) in
    omega (arith, leb-true p longest_figure (both_right (eqb n bad_figure) _ known))

-- What is read, put together: a trouble that a `?` hands on ..
pub is_refused : (s : List ℕ) (q : Result Figure BadFile) (e : BadFile) → IsErrAnd q (λ y. y ≡ e) → At e.number e.place ≡ figure_trouble s → told_figure q ≡ read_figure s
unfolding read_figure
is_refused s (Ok f) e same told = absurd same
is_refused s (Err y) e same told = rw (same, ← told)

-- .. or both lists
pub is_read : (s : List ℕ) {last next : List Step} → Clear ≡ figure_trouble s → last ≡ steps_at s last_at → next ≡ steps_at s (next_at s) → ◌≡◌ {A = Supplied} (record { trouble = Clear; figure = record { last = last; next = next } }) (read_figure s)
unfolding read_figure
is_read s clear first second = rw (← clear, first, second)
