-- Cells and centers of a rectangular stack: what a layout inside its ranges offers, and where the centers lie.
use Prim.Native.Nat.{ℕ, ◌+◌, ◌-◌, ◌*◌, ◌/◌, ◌≤◌, ◌<◌}
use mathlib.Core.Path.{◌≡◌, refl, sym, ap, ◌∙◌}
use mathlib.Core.Bool.{Bool, true, ◌&&◌}
use native.Mathlib.Nat.{add-mul, mul_comm, mul_assoc, mul-mul-mul_comm, mul-le-mul, mul-le-mul_right, mul-div_left, le_refl, le_antisymm, lt_of_not-le, lt_of_lt_of_le}
use native.Mathlib.Decide.{dec_le}
use native.Mathlib.Omega.{arith}
use borrow.Author.Tests.{leb-true, ltb-true, eqb-true, le-leb, lt-leb}
use lib.Dec.{leb, ltb, eqb}
use Rattle.arith.specs.Rounding.{round_div}
use Rattle.arith.proofs.Rounding.{round_is, round_le, le_round}
use Rattle.readings.specs.Ranges.{side, least_side, greatest_side}
use Rattle.grids.specs.Grids.{grid_numbers, grid_points}
use Rattle.readings.proofs.Ranges.{both_left, both_right, within_least, within_greatest}
use Rattle.distances.specs.Rectangle.{rectangle_fits, wide_enough, grid_of, first_cells, second_cells, center}
use Rattle.distances.proofs.Tests.{all_of, all_of_lem}

-- a rectangular layout inside its ranges
pub record RectangleOk (n first second : ℕ) : Type 0 where
  pub points : grid_points n ≡ true
  pub first_least : least_side ≤ first
  pub first_most : first ≤ greatest_side
  pub second_least : least_side ≤ second
  pub second_most : second ≤ greatest_side

pub rectangle_ok : (n first second : ℕ) → rectangle_fits n first second ≡ true → RectangleOk n first second
unfolding rectangle_fits
rectangle_ok n first second e =
    let wide : Bool = wide_enough first second in
    let sides = both_right (grid_points n) (side first && (side second && wide)) e in
    let a : side first ≡ true = both_left (side first) (side second && wide) sides in
    let b : side second ≡ true = both_left (side second) wide (both_right (side first) (side second && wide) sides) in
    record {
      points = both_left (grid_points n) (side first && (side second && wide)) e;
      first_least = within_least least_side greatest_side first a;
      first_most = within_greatest least_side greatest_side first a;
      second_least = within_least least_side greatest_side second b;
      second_most = within_greatest least_side greatest_side second b;
    }

-- a grid has n cells, and few of them on a side
pub record CellsOk (n columns rows : ℕ) : Type 0 where
  pub cells : rows * columns ≡ n
  pub columns_some : 1 ≤ columns
  pub columns_few : columns ≤ 7
  pub rows_some : 1 ≤ rows
  pub rows_few : rows ≤ 7

-- the same as a test, with the larger count as the columns
right : ℕ → Bool
right n =
    eqb ((grid_of n).smaller * (grid_of n).larger) n
    && (leb 1 (grid_of n).larger
    && (leb (grid_of n).larger 7 && (leb 1 (grid_of n).smaller && leb (grid_of n).smaller 7)))

all_right : all_of right grid_numbers ≡ true
unfolding right grid_of
all_right = refl

pub grid_ok : (n : ℕ) → grid_points n ≡ true → CellsOk n (grid_of n).larger (grid_of n).smaller
unfolding right
grid_ok n e =
    let a : ℕ = (grid_of n).larger in
    let b : ℕ = (grid_of n).smaller in
    let all = all_of_lem right grid_numbers all_right n e in
    let after1 = both_right (eqb (b * a) n) (leb 1 a && (leb a 7 && (leb 1 b && leb b 7))) all in
    let after2 = both_right (leb 1 a) (leb a 7 && (leb 1 b && leb b 7)) after1 in
    let after3 = both_right (leb a 7) (leb 1 b && leb b 7) after2 in
    record {
      cells = eqb-true _ _ (both_left (eqb (b * a) n) (leb 1 a && (leb a 7 && (leb 1 b && leb b 7))) all);
      columns_some = leb-true _ _ (both_left (leb 1 a) (leb a 7 && (leb 1 b && leb b 7)) after1);
      columns_few = leb-true _ _ (both_left (leb a 7) (leb 1 b && leb b 7) after2);
      rows_some = leb-true _ _ (both_left (leb 1 b) (leb b 7) after3);
      rows_few = leb-true _ _ (both_right (leb 1 b) (leb b 7) after3);
    }

-- The smaller count is what the larger leaves
pub smaller_is : (n : ℕ) → grid_points n ≡ true → n / (grid_of n).larger ≡ (grid_of n).smaller
smaller_is n e =
    let ok = grid_ok n e in
    ap (λ m. m / (grid_of n).larger) (sym ok.cells) ∙ mul-div_left (grid_of n).smaller ok.columns_some

-- The larger count is along the longer side, along the first where they are equal
module _ (n first second : ℕ) where
  pub first_longer : second ≤ first → first_cells n first second ≡ (grid_of n).larger
  unfolding first_cells
  first_longer h = rw (le-leb second first h)

  pub first_shorter : first < second → first_cells n first second ≡ (grid_of n).smaller
  unfolding first_cells
  first_shorter h = rw (lt-leb second first h)

  pub second_shorter : second ≤ first → second_cells n first second ≡ (grid_of n).smaller
  unfolding second_cells
  second_shorter h = rw (le-leb second first h)

  pub second_longer : first < second → second_cells n first second ≡ (grid_of n).larger
  unfolding second_cells
  second_longer h = rw (lt-leb second first h)

  pub cells_ok : grid_points n ≡ true → CellsOk n (first_cells n first second) (second_cells n first second)
  cells_ok e = go (dec_le second first)
    where
      ok : CellsOk n (grid_of n).larger (grid_of n).smaller
      ok = grid_ok n e

      go : Dec (second ≤ first) → CellsOk n (first_cells n first second) (second_cells n first second)
      go (yes h) = rw (first_longer h, second_shorter h) ok
      go (no f) =
          let h : first < second = lt_of_not-le f in
          rw (first_shorter h, second_longer h)
          (record {
            cells = mul_comm (grid_of n).larger (grid_of n).smaller ∙ ok.cells;
            columns_some = ok.rows_some;
            columns_few = ok.rows_few;
            rows_some = ok.columns_some;
            rows_few = ok.columns_few;
          })

-- n lies above the square of one cell less than the larger count, and not above that of the larger count
squared : ℕ → Bool
squared n = ltb (((grid_of n).larger - 1) * ((grid_of n).larger - 1)) n && leb n ((grid_of n).larger * (grid_of n).larger)

all_squared : all_of squared grid_numbers ≡ true
unfolding squared grid_of
all_squared = refl

-- The larger count is the least whose square is not below n: one whose square is below n is below it ..
pub count_below : (n c : ℕ) → grid_points n ≡ true → c * c < n → c < (grid_of n).larger
unfolding squared
count_below n c e below = go (dec_le (grid_of n).larger c)
  where
    top : n ≤ (grid_of n).larger * (grid_of n).larger
    top = leb-true _ _ (both_right (ltb (((grid_of n).larger - 1) * ((grid_of n).larger - 1)) n) _ (all_of_lem squared grid_numbers all_squared n e))

    go : Dec ((grid_of n).larger ≤ c) → c < (grid_of n).larger
    go (yes h) = let square = mul-le-mul h h in absurd (omega (arith, top, square))
    go (no f) = lt_of_not-le f

-- .. and one no larger whose square is not below n is it
pub count_reached : (n c : ℕ) → grid_points n ≡ true → c ≤ (grid_of n).larger → n ≤ c * c → c ≡ (grid_of n).larger
unfolding squared
count_reached n c e few reached = go (dec_le (grid_of n).larger c)
  where
    low : ((grid_of n).larger - 1) * ((grid_of n).larger - 1) < n
    low = ltb-true _ _ (both_left _ (leb n ((grid_of n).larger * (grid_of n).larger)) (all_of_lem squared grid_numbers all_squared n e))

    go : Dec ((grid_of n).larger ≤ c) → c ≡ (grid_of n).larger
    go (yes h) = le_antisymm few h
    go (no f) =
        let less : c ≤ (grid_of n).larger - 1 = omega arith in
        let square = mul-le-mul less less in
        absurd (omega (arith, low, square))

-- A center, within what the code can hold
pub center_product : {side i cells : ℕ} → side ≤ greatest_side → i ≤ cells → cells ≤ 7 → (2 * i - 1) * 100 * side ≤ 1300 * greatest_side
center_product {side} {i} {cells} narrow inside few =
    let odd : (2 * i - 1) * 100 ≤ 1300 = omega arith in
    mul-le-mul odd narrow

-- Quotients that are a whole unit apart are not rounded to the same number
round_apart : (n m d : ℕ) → 0 < d → n + d ≤ m → round_div n d < round_div m d
round_apart n m d some apart = go (dec_le (round_div m d) (round_div n d))
  where
    go : Dec (round_div m d ≤ round_div n d) → round_div n d < round_div m d
    go (no f) = lt_of_not-le f
    go (yes t) =
        let times : round_div m d * d ≤ round_div n d * d = mul-le-mul_right d t in
        absurd (omega (arith, (round_is n d some).low, (round_is m d some).high))

-- A center is at least half a cell from both walls, and a cell from the next: more than rounding takes away
module _ (side cells : ℕ) (wide : 1 ≤ side) (some : 1 ≤ cells) (few : cells ≤ 7) where
  center_rises : (i : ℕ) → 1 ≤ i → center side cells i < center side cells (i + 1)
  unfolding center
  center_rises i first =
      let odd : (2 * (i + 1) - 1) * 100 ≡ (2 * i - 1) * 100 + 200 = omega arith in
      let next : (2 * (i + 1) - 1) * 100 * side ≡ (2 * i - 1) * 100 * side + 200 * side = rw odd (add-mul ((2 * i - 1) * 100) 200 side) in
      round_apart ((2 * i - 1) * 100 * side) ((2 * (i + 1) - 1) * 100 * side) (2 * cells) (omega arith) (omega arith)

  center_low : (i : ℕ) → 1 ≤ i → 0 < center side cells i
  unfolding center
  center_low i first =
      let odd : 100 ≤ (2 * i - 1) * 100 = omega arith in
      let times : 100 * side ≤ (2 * i - 1) * 100 * side = mul-le-mul_right side odd in
      let enough : 1 * (2 * cells) ≤ (2 * i - 1) * 100 * side = omega arith in
      le_round ((2 * i - 1) * 100 * side) (2 * cells) 1 (omega arith) enough

  pub center_high : (i : ℕ) → 1 ≤ i → i ≤ cells → center side cells i < 100 * side
  unfolding center
  center_high i first inside =
      let odd : (2 * i - 1) * 100 + 100 ≤ 200 * cells = omega arith in
      let times : ((2 * i - 1) * 100 + 100) * side ≤ 200 * cells * side = mul-le-mul_right side odd in
      let spread : ((2 * i - 1) * 100 + 100) * side ≡ (2 * i - 1) * 100 * side + 100 * side = add-mul ((2 * i - 1) * 100) 100 side in
      let whole : 200 * cells * side ≡ 100 * side * (2 * cells) = mul_assoc 200 cells side ∙ ap (λ x. 200 * x) (mul_comm cells side) ∙ sym (mul-mul-mul_comm 100 side 2 cells) in
      lt_of_lt_of_le (round_apart ((2 * i - 1) * 100 * side) (100 * side * (2 * cells)) (2 * cells) (omega arith) (omega arith))
      (round_le (100 * side * (2 * cells)) (2 * cells) (100 * side) (omega arith) (le_refl _))

-- centers lie between the walls, on none of them, and strictly rise along the side
pub record Spread (side cells : ℕ) : Type 0 where
  pub low : (i : ℕ) → 1 ≤ i → 0 < center side cells i
  pub high : (i : ℕ) → 1 ≤ i → i ≤ cells → center side cells i < 100 * side
  pub rises : (i : ℕ) → 1 ≤ i → center side cells i < center side cells (i + 1)

pub spread : (side cells : ℕ) → 1 ≤ side → 1 ≤ cells → cells ≤ 7 → Spread side cells
spread side cells wide some few =
    record {
      low = center_low side cells wide some few;
      high = center_high side cells wide some few;
      rises = center_rises side cells wide some few;
    }
