-- Nothing past the first 136 bytes of a figure's file matters.
use Prim.Native.Nat.{ℕ, zero, suc, ◌+◌, ◌*◌, ◌≤◌, ◌<◌}
use mathlib.Core.Path.{◌≡◌, refl, sym, ◌∙◌, ap, ap₂}
use mathlib.Core.Bool.{Bool}
use mathlib.Core.List.{List}
use native.Mathlib.Decide.{dec_le}
use native.Mathlib.Omega.{arith}
use borrow.Author.Tests.{leb-true, le-leb, lt-leb}
use lib.Dec.{leb}
use lib.ListN.{length, take}
use lib.Seq.{take_all, get_or-take, length-take-le}
use Rattle.fields.specs.Numbers.{byte_at, u16_at}
use Rattle.fields.specs.Trouble.{Trouble, Clear, At, first, checks, up_to}
use Rattle.readings.specs.Ranges.{figure_version, step_count, greatest_step_count, step_points}
use Rattle.fields.proofs.FirstTrouble.{clear_right, unless_clear, checks_clear}
use Rattle.readings.proofs.Ranges.{within_greatest}
use Rattle.steps.specs.declared.Step.{Step}
use Rattle.figures.specs.declared.lists.Limits.{Limits}
use Rattle.figures.specs.Figures.{field_rows, figure_marked, opening_rows, step_place, step_at, limits_at, step_rows, steps_rows, list_rows, list_end, last_at, next_at, longest_figure, figure_trouble, read_figure, supplied_by}
use Rattle.figures.proofs.Parts.{steps_in_a_row, list_parts, figure_parts}
use Rattle.figures.proofs.Clear.{few_steps, last_clear, next_clear}

-- the same trouble, and where it is clear the same later one
first_same : {a b u w : Trouble} → a ≡ b → (b ≡ Clear → u ≡ w) → first a u ≡ first b w
unfolding first
first_same {a} {b} {u} {w} e f = rw e (go b refl)
  where
    go : (t : Trouble) → b ≡ t → first t u ≡ first t w
    go Clear clear = f clear
    go (At n p) told = refl

up_same : (f g : ℕ → Trouble) (n : ℕ) → ((i : ℕ) → i < n → f i ≡ g i) → up_to f n ≡ up_to g n
unfolding up_to
up_same f g zero same = refl
up_same f g (suc n) same = ap₂ first (up_same f g n (λ i inside. same i (omega arith))) (same n (omega arith))

-- Two files that are longer than any figure and begin alike

module _ (s t : List ℕ) (long : longest_figure < length s) (other : longest_figure < length t) (alike : (i : ℕ) → i < longest_figure → byte_at s i ≡ byte_at t i) where
  number_same : (at : ℕ) → at + 2 ≤ longest_figure → u16_at s at ≡ u16_at t at
  unfolding u16_at
  number_same at near = ap₂ (λ (low high : ℕ). low + 256 * high) (alike at (omega arith)) (alike (at + 1) (omega arith))

  field_same : {u w : Trouble} (at width : ℕ) {a b : Bool} → u ≡ w → at + width ≤ longest_figure → a ≡ b → checks u (field_rows s at width a) ≡ checks w (field_rows t at width b)
  unfolding checks
  field_same at width e near same =
      rw (e, le-leb (at + width) (length s) (omega arith), le-leb (at + width) (length t) (omega arith), same)

  step_same : (at i : ℕ) → step_place at i + 4 ≤ longest_figure → step_at s at i ≡ step_at t at i
  step_same at i near =
      rw (number_same (step_place at i) (omega arith), alike (step_place at i + 2) (omega arith), alike (step_place at i + 3) (omega arith))

  limits_same : (at i : ℕ) → step_place at i + 4 ≤ longest_figure → limits_at s at i ≡ limits_at t at i
  limits_same at zero near = refl
  limits_same at (suc i) near =
      ap (λ (p : Step). record { least = p.least + 1; round = p.round; rectangular = p.rectangular }) (step_same at i (omega arith))

  rows_same : (at i : ℕ) → step_place at i + 4 ≤ longest_figure → checks Clear (step_rows s at i) ≡ checks Clear (step_rows t at i)
  unfolding checks
  rows_same at i near =
      let p : ℕ = step_place at i in
      let limits = limits_same at i near in
      let step = step_same at i near in
      let near-round : p + 2 + 1 ≤ longest_figure = omega arith in
      let near-rectangular : p + 3 + 1 ≤ longest_figure = omega arith in
      let distance = field_same p 2 refl (omega arith) (ap₂ (λ (l : Limits) (q : Step). leb l.least q.least) limits step) in
      let round = field_same (p + 2) 1 distance near-round (ap₂ (λ (l : Limits) (q : Step). step_points l.round q.round) limits step) in
      field_same (p + 3) 1 round near-rectangular (ap₂ (λ (l : Limits) (q : Step). step_points l.rectangular q.rectangular) limits step)

  list_same : (at : ℕ) → at + 65 ≤ longest_figure → checks Clear (list_rows s at) ≡ checks Clear (list_rows t at)
  list_same at near =
      list_parts s at
      ∙ first_same (field_same at 1 refl (omega arith) (ap step_count count)) (λ clear.
      let few : byte_at t at ≤ greatest_step_count = within_greatest _ _ _ (checks_clear (field_rows t at 1 (step_count (byte_at t at))) clear).1.0 in
      ap (λ (n : ℕ). checks Clear (steps_rows s at n)) count
      ∙ steps_in_a_row s at (byte_at t at)
      ∙ up_same _ _ (byte_at t at) (λ i inside. rows_same at i (omega arith))
      ∙ sym (steps_in_a_row t at (byte_at t at)))
      ∙ sym (list_parts t at)
    where
      count : byte_at s at ≡ byte_at t at
      count = alike at (omega arith)

  -- are in the same trouble, and in trouble: at least of bytes left over
  trouble_same : figure_trouble s ≡ figure_trouble t
  unfolding opening_rows checks
  trouble_same =
      figure_parts s
      ∙ first_same
      (field_same 3 2 (field_same 0 3 refl (omega arith) mark) (omega arith) (ap figure_version (number_same 3 (omega arith))))
      (λ opened.
      first_same (list_same last_at (omega arith)) (λ last.
      let few : byte_at t last_at ≤ greatest_step_count = few_steps t last_at last in
      let next : next_at s ≡ next_at t = ap (step_place last_at) (alike last_at (omega arith)) in
      rw next
      (first_same (list_same (next_at t) (omega arith)) (λ clear.
      let few-next : byte_at t (next_at t) ≤ greatest_step_count = few_steps t (next_at t) clear in
      rw (alike (next_at t) (omega arith), lt-leb (length s) (list_end t (next_at t)) (omega arith), lt-leb (length t) (list_end t (next_at t)) (omega arith))))))
      ∙ sym (figure_parts t)
    where
      mark : figure_marked s ≡ figure_marked t
      mark = rw (alike 0 (omega arith), alike 1 (omega arith), alike 2 (omega arith))

-- a figure that is read is no longer than the longest
read_length : (f : List ℕ) → figure_trouble f ≡ Clear → length f ≤ longest_figure
read_length f clear =
    let behind = clear_right _ _ (clear_right _ _ (sym (figure_parts f) ∙ clear)) in
    let end = leb-true (length f) (list_end f (next_at f)) (unless_clear _ _ _ (clear_right _ _ behind)) in
    omega (arith, end, few_steps f last_at (last_clear f clear), few_steps f (next_at f) (next_clear f clear))

-- The first 136 bytes of a figure's file decide
pub figure_front : (f : List ℕ) (m : ℕ) → longest_figure < m → read_figure (take m f) ≡ read_figure f
unfolding read_figure
figure_front f m long = go (dec_le (length f) m)
  where
    in_trouble : m < length f → (t : Trouble) → figure_trouble f ≡ t → figure_trouble (take m f) ≡ figure_trouble f → supplied_by (figure_trouble (take m f)) (take m f) ≡ supplied_by (figure_trouble f) f
    in_trouble longer (At n p) e same = rw (same, e)
    in_trouble longer Clear e same = absurd (omega (arith, read_length f e))

    go : Dec (length f ≤ m) → supplied_by (figure_trouble (take m f)) (take m f) ≡ supplied_by (figure_trouble f) f
    go (yes short) = rw (take_all m f short)
    go (no longer) =
        in_trouble (omega (arith, longer)) (figure_trouble f) refl
        (trouble_same (take m f) f (omega (arith, longer, length-take-le m f (omega (arith, longer)))) (omega (arith, longer)) (λ i inside. get_or-take m f i 0 (omega arith)))
