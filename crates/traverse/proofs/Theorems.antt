-- What is proved of the layouts beyond their contracts.
use Prim.Native.Nat.{ℕ, ◌+◌, ◌-◌, ◌*◌, ◌%◌, ◌≤◌, ◌<◌}
use mathlib.Core.Path.{◌≡◌, refl, ◌∙◌}
use mathlib.Core.Bool.{Bool, true, cond, ◌&&◌}
use mathlib.Core.List.{[], ◌∷◌}
use native.Mathlib.Nat.{mul-one, mul_assoc, add-zero}
use native.Mathlib.Omega.{arith}
use lib.Dec.{eqb, lit<}
use lib.ListN.{length, get_or}
use Rattle.distances.specs.Positions.{position}
use Rattle.distances.specs.Round.{round_fits, margin, measured, distance}
use Rattle.distances.specs.Rectangle.{rectangle_fits, first_cells, second_cells, center}
use Rattle.distances.proofs.RoundLaws.{round_ok, distance_least, distance_most, distance_mono, distance_mirror}
use Rattle.distances.proofs.RectangleLaws.{rectangle_ok, cells_ok, Spread, spread}
use Rattle.traverse.specs.Layout.{round_layout, rectangle_layout}
use Rattle.traverse.proofs.ListLaws.{each_length, each_at}
use Rattle.traverse.proofs.RowLaws.{row, row_length, rows_at}

-- A round layout has a distance for each point, in order
pub round_length : (n d z : ℕ) → length (round_layout n d z) ≡ n
unfolding round_layout
round_length n d z = each_length (λ i. distance n d z i ∷ []) 1 (λ i. refl) n ∙ mul-one n

pub round_at : (n d z i : ℕ) → i < n → get_or (round_layout n d z) i 0 ≡ distance n d z (i + 1)
unfolding round_layout
round_at n d z i inside = simp (mul-one, add-zero) at (each_at (λ i. distance n d z i ∷ []) 1 (λ i. refl) n i 0 inside (lit< tt))

-- both distances of a point and its mirror image were rounded up from a half, and neither was moved by the margin
unfoldable pub both_halves : ℕ → ℕ → ℕ → ℕ → Bool
both_halves n d z i =
    eqb (position n i * d % 10) 5
    && (eqb (distance n d z i) (measured n d i) && eqb (distance n d z (n + 1 - i)) (measured n d (n + 1 - i)))

module _ (n d z : ℕ) (fits : round_fits n d z ≡ true) where
  -- Every distance is at least the margin from both walls
  pub round_within : (i : ℕ) → i < n → (margin d z ≤ get_or (round_layout n d z) i 0) × (get_or (round_layout n d z) i 0 ≤ 100 * d - margin d z)
  round_within i inside = rw (round_at n d z i inside) (distance_least n d z (round_ok n d z fits) (i + 1), distance_most n d z (round_ok n d z fits) (i + 1))

  -- Distances never decrease across the diameter
  pub round_rises : (i j : ℕ) → i ≤ j → j < n → get_or (round_layout n d z) i 0 ≤ get_or (round_layout n d z) j 0
  round_rises i j inward inside =
      let before : i < n = omega arith in
      rw (round_at n d z i before, round_at n d z j inside) (distance_mono n d z (round_ok n d z fits) (i + 1) (j + 1) (omega arith) (omega arith) (omega arith))

  -- A point and its mirror image make up the width of the stack; one thousandth more exactly where both were rounded up from a half
  pub round_mirrors : (i : ℕ) → 1 ≤ i → i ≤ n → distance n d z i + distance n d z (n + 1 - i) ≡ 100 * d + cond (both_halves n d z i) 1 0
  unfolding both_halves distance measured
  round_mirrors i some inside = distance_mirror n d z (round_ok n d z fits) i some inside

module _ (n first second : ℕ) where
  abbrev columns : ℕ
  columns = first_cells n first second

  abbrev rows : ℕ
  rows = second_cells n first second

  -- A rectangular layout has two distances for each point
  pub rectangle_length : rectangle_fits n first second ≡ true → length (rectangle_layout n first second) ≡ 2 * n
  unfolding rectangle_layout
  rectangle_length fits =
      let ok = cells_ok n first second (rectangle_ok n first second fits).points in
      let swap : rows * columns * 2 ≡ rows * (columns * 2) = mul_assoc rows columns 2 in
      each_length (row first second columns rows) (columns * 2) (row_length first second columns rows) rows ∙ omega (arith, ok.cells)

  -- The point of cell i along the first side and j along the second, both counted from 0: the first side's cell is the fastest count ..
  pub rectangle_first : (i j : ℕ) → i < columns → j < rows → get_or (rectangle_layout n first second) (2 * (j * columns + i)) 0 ≡ center first columns (i + 1)
  unfolding rectangle_layout
  rectangle_first i j along across = simp add-zero at (rows_at first second columns rows i j 0 along across (lit< tt))

  -- .. and the second side's distance follows the first side's
  pub rectangle_second : (i j : ℕ) → i < columns → j < rows → get_or (rectangle_layout n first second) (2 * (j * columns + i) + 1) 0 ≡ center second rows (j + 1)
  unfolding rectangle_layout
  rectangle_second i j along across = rows_at first second columns rows i j 1 along across (lit< tt)

  -- Along both sides the centers lie between the walls and strictly rise
  pub rectangle_spread : rectangle_fits n first second ≡ true → Spread first columns × Spread second rows
  rectangle_spread fits =
      let ok = rectangle_ok n first second fits in
      let cells = cells_ok n first second ok.points in
      (spread first columns ok.first_least cells.columns_some cells.columns_few, spread second rows ok.second_least cells.rows_some cells.rows_few)
