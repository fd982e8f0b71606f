-- The trouble of a figure, part by part: what the code answers early, and what it goes on to.
use Prim.Native.Nat.{ℕ, zero, suc, ◌+◌}
use mathlib.Core.Path.{◌≡◌, refl, ◌∙◌, ap}
use mathlib.Core.List.{List, [], ◌∷◌, ◌++◌}
use lib.Dec.{leb}
use lib.ListN.{length}
use Rattle.fields.specs.Trouble.{Clear, Row, bad_figure, first, trouble_unless, checks, up_to}
use Rattle.fields.proofs.FirstTrouble.{checks_both, checks_parts}
use Rattle.fields.specs.Numbers.{byte_at}
use Rattle.readings.specs.Ranges.{step_count}
use Rattle.figures.specs.Figures.{field_rows, opening_rows, step_place, distance_good, round_good, rectangular_good, step_rows, steps_rows, list_rows, list_end, last_at, next_at, figure_trouble}

-- a step: its distance, its round points and its rectangular points
pub step_parts :
    (s : List ℕ) (at i : ℕ)
    → checks Clear (step_rows s at i)
    ≡ first (checks Clear (field_rows s (step_place at i) 2 (distance_good s at i)))
    (first (checks Clear (field_rows s (step_place at i + 2) 1 (round_good s at i))) (checks Clear (field_rows s (step_place at i + 3) 1 (rectangular_good s at i))))
step_parts s at i =
    let round : List Row = field_rows s (step_place at i + 2) 1 (round_good s at i) in
    let rectangular : List Row = field_rows s (step_place at i + 3) 1 (rectangular_good s at i) in
    checks_parts (field_rows s (step_place at i) 2 (distance_good s at i)) (round ++ rectangular) ∙ ap (first _) (checks_parts round rectangular)

-- the steps one after the other
pub steps_in_a_row : (s : List ℕ) (at n : ℕ) → checks Clear (steps_rows s at n) ≡ up_to (λ i. checks Clear (step_rows s at i)) n
unfolding steps_rows up_to checks
steps_in_a_row s at zero = refl
steps_in_a_row s at (suc n) =
    checks_parts (steps_rows s at n) (step_rows s at n) ∙ ap (λ t. first t (checks Clear (step_rows s at n))) (steps_in_a_row s at n)

-- a list: its count, and then its steps
pub list_parts : (s : List ℕ) (at : ℕ) → checks Clear (list_rows s at) ≡ first (checks Clear (field_rows s at 1 (step_count (byte_at s at)))) (checks Clear (steps_rows s at (byte_at s at)))
unfolding list_rows
list_parts s at = checks_parts (field_rows s at 1 (step_count (byte_at s at))) (steps_rows s at (byte_at s at))

-- the file: mark and version, both lists, and nothing behind them
pub figure_parts :
    (s : List ℕ)
    → figure_trouble s
    ≡ first (checks Clear (opening_rows s))
    (first (checks Clear (list_rows s last_at))
    (first (checks Clear (list_rows s (next_at s))) (trouble_unless (leb (length s) (list_end s (next_at s))) bad_figure (list_end s (next_at s)))))
unfolding figure_trouble checks
figure_parts s =
    let end : List Row = record { number = bad_figure; place = list_end s (next_at s); ok = leb (length s) (list_end s (next_at s)) } ∷ [] in
    let later : List Row = list_rows s (next_at s) ++ end in
    checks_parts (opening_rows s) (list_rows s last_at ++ later)
    ∙ ap (first (checks Clear (opening_rows s))) (checks_parts (list_rows s last_at) later ∙ ap (first (checks Clear (list_rows s last_at))) (checks_both Clear (list_rows s (next_at s)) end))
