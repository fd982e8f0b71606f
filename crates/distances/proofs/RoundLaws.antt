-- Distances in a round stack: what a layout inside its ranges offers, and what the margin does to a distance.
use Prim.Native.Nat.{ℕ, ◌+◌, ◌-◌, ◌*◌, ◌/◌, ◌%◌, ◌≤◌, ◌<◌, min, max}
use mathlib.Core.Path.{◌≡◌, ap}
use mathlib.Core.Bool.{Bool, true, cond, ◌&&◌}
use native.Mathlib.Nat.{add-mul, mul-le-mul_right, lt_of_not-le}
use native.Mathlib.Decide.{dec_le, ℕ_discrete}
use native.Mathlib.Omega.{arith}
use borrow.Author.Tests.{le-leb, lt-leb, eq-eqb, ne_eqb}
use lib.Dec.{eqb, lit<}
use Rattle.arith.specs.Rounding.{round_div, IsRounded}
use Rattle.arith.proofs.Rounding.{round_is, round_mono}
use Rattle.readings.specs.Ranges.{diameter_points, layout_diameter, least_layout_diameter, greatest_layout_diameter, nozzle_diameter, least_nozzle_diameter, greatest_nozzle_diameter}
use Rattle.readings.proofs.Ranges.{both_left, both_right, within_least, within_greatest}
use Rattle.distances.specs.Positions.{position}
use Rattle.distances.specs.Round.{round_fits, margin, kept, measured, distance}
use Rattle.distances.proofs.PositionLaws.{points_of, position_mono, position_mirror}

-- a round layout inside its ranges
pub record RoundOk (n diameter nozzle : ℕ) : Type 0 where
  pub points : diameter_points n ≡ true
  pub diameter_least : least_layout_diameter ≤ diameter
  pub diameter_most : diameter ≤ greatest_layout_diameter
  pub nozzle_most : nozzle ≤ greatest_nozzle_diameter

pub round_ok : (n d z : ℕ) → round_fits n d z ≡ true → RoundOk n d z
unfolding round_fits
round_ok n d z e =
    let rest : (layout_diameter d && nozzle_diameter z) ≡ true = both_right (diameter_points n) (layout_diameter d && nozzle_diameter z) e in
    let wide : layout_diameter d ≡ true = both_left (layout_diameter d) (nozzle_diameter z) rest in
    record {
      points = both_left (diameter_points n) (layout_diameter d && nozzle_diameter z) e;
      diameter_least = within_least least_layout_diameter greatest_layout_diameter d wide;
      diameter_most = within_greatest least_layout_diameter greatest_layout_diameter d wide;
      nozzle_most = within_greatest least_nozzle_diameter greatest_nozzle_diameter z (both_right (layout_diameter d) (nozzle_diameter z) rest);
    }

-- The two margins
pub margin_narrow : (d z : ℕ) → d ≤ 240 → margin d z ≡ max z 500
unfolding margin
margin_narrow d z narrow = rw (le-leb d 240 narrow)

pub margin_wide : (d z : ℕ) → 240 < d → margin d z ≡ max z 1000
unfolding margin
margin_wide d z wide = rw (lt-leb d 240 wide)

-- A margin is at most 1 in, so no more than half a stack
pub margin_most : (d z : ℕ) → z ≤ greatest_nozzle_diameter → margin d z ≤ 1000
margin_most d z small = go (dec_le d 240)
  where
    go : Dec (d ≤ 240) → margin d z ≤ 1000
    go (yes narrow) = omega (arith, margin_narrow d z narrow)
    go (no not_narrow) = omega (arith, margin_wide d z (lt_of_not-le not_narrow))

pub margin_half : {n d z : ℕ} → RoundOk n d z → 2 * margin d z ≤ 100 * d
margin_half {n} {d} {z} ok = omega (arith, margin_most d z ok.nozzle_most, ok.diameter_least)

-- Two numbers that make up a width in tenths, each rounded: one too many where both are a half
module _ (x y width : ℕ) (whole : x + y ≡ 10 * width) where
  pub rounded_half : x % 10 ≡ 5 → round_div x 10 + round_div y 10 ≡ width + 1
  rounded_half half =
      let a = round_is x 10 (lit< tt) in
      let b = round_is y 10 (lit< tt) in
      let near : round_div x 10 ≡ x / 10 + 1 = omega arith in
      let far : round_div y 10 + x / 10 ≡ width = omega arith in
      omega arith

  pub rounded_whole : (x % 10 ≡ 5 → ⊥) → round_div x 10 + round_div y 10 ≡ width
  rounded_whole no-half = go (dec_le (round_div x 10 + round_div y 10) width)
    where
      a : IsRounded x 10 (round_div x 10)
      a = round_is x 10 (lit< tt)

      b : IsRounded y 10 (round_div y 10)
      b = round_is y 10 (lit< tt)

      go : Dec (round_div x 10 + round_div y 10 ≤ width) → round_div x 10 + round_div y 10 ≡ width
      go (yes t) = omega (arith, a.low, a.high, b.low, b.high)
      go (no f) =
          let more : width < round_div x 10 + round_div y 10 = lt_of_not-le f in
          let half : x + 5 ≡ 10 * round_div x 10 = omega (arith, a.low, a.high, b.low, b.high) in
          absurd (no-half (omega arith))

-- the two are a half each, and neither is moved by the margin
abbrev pub one_too_many : ℕ → ℕ → ℕ → ℕ → Bool
one_too_many m width x y =
    eqb (x % 10) 5
    && (eqb (kept m width (round_div x 10)) (round_div x 10) && eqb (kept m width (round_div y 10)) (round_div y 10))

-- What is kept from the walls lies between the margins, keeps its order, and the walls may be taken in either order
module _ (m width : ℕ) (half : 2 * m ≤ width) where
  pub kept_least : (x : ℕ) → m ≤ kept m width x
  unfolding kept
  kept_least x = omega arith

  pub kept_most : (x : ℕ) → kept m width x ≤ width - m
  unfolding kept
  kept_most x = omega arith

  pub kept_mono : (x y : ℕ) → x ≤ y → kept m width x ≤ kept m width y
  unfolding kept
  kept_mono x y h = omega arith

  pub kept_either_wall_first : (x : ℕ) → kept m width x ≡ max (min x (width - m)) m
  unfolding kept
  kept_either_wall_first x = omega arith

  -- The same two, kept from the walls as well: one too many only where neither was moved
  module _ (x y : ℕ) (whole : x + y ≡ 10 * width) where
    mirror_whole : (x % 10 ≡ 5 → ⊥) → kept m width (round_div x 10) + kept m width (round_div y 10) ≡ width
    unfolding kept
    mirror_whole no-half = omega (arith, rounded_whole x y width whole no-half)

    mirror_near : (kept m width (round_div x 10) ≡ round_div x 10 → ⊥) → kept m width (round_div x 10) + kept m width (round_div y 10) ≡ width
    unfolding kept round_div
    mirror_near moved = omega arith

    mirror_far : (kept m width (round_div y 10) ≡ round_div y 10 → ⊥) → kept m width (round_div x 10) + kept m width (round_div y 10) ≡ width
    unfolding kept round_div
    mirror_far moved = omega arith

    pub kept_mirror : kept m width (round_div x 10) + kept m width (round_div y 10) ≡ width + cond (one_too_many m width x y) 1 0
    kept_mirror = go (ℕ_discrete (x % 10) 5) (ℕ_discrete (kept m width (round_div x 10)) (round_div x 10)) (ℕ_discrete (kept m width (round_div y 10)) (round_div y 10))
      where
        go : Dec (x % 10 ≡ 5) → Dec (kept m width (round_div x 10) ≡ round_div x 10) → Dec (kept m width (round_div y 10) ≡ round_div y 10) → kept m width (round_div x 10) + kept m width (round_div y 10) ≡ width + cond (one_too_many m width x y) 1 0
        go (no a) b c = rw (ne_eqb _ _ a) (omega (arith, mirror_whole a))
        go (yes a) (no b) c = rw (eq-eqb _ _ a, ne_eqb _ _ b) (omega (arith, mirror_near b))
        go (yes a) (yes b) (no c) = rw (eq-eqb _ _ a, eq-eqb _ _ b, ne_eqb _ _ c) (omega (arith, mirror_far c))
        go (yes a) (yes b) (yes c) = rw (eq-eqb _ _ a, eq-eqb _ _ b, eq-eqb _ _ c) (omega (arith, rounded_half x y width whole a))

-- The distances of a layout inside its ranges, point i counted from 1
module _ (n d z : ℕ) (ok : RoundOk n d z) where
  pub distance_least : (i : ℕ) → margin d z ≤ distance n d z i
  unfolding distance
  distance_least i = kept_least (margin d z) (100 * d) (margin_half ok) (measured n d i)

  pub distance_most : (i : ℕ) → distance n d z i ≤ 100 * d - margin d z
  unfolding distance
  distance_most i = kept_most (margin d z) (100 * d) (margin_half ok) (measured n d i)

  pub distance_mono : (i j : ℕ) → 1 ≤ i → i ≤ j → j ≤ n → distance n d z i ≤ distance n d z j
  unfolding distance measured
  distance_mono i j some inward inside =
      kept_mono (margin d z) (100 * d) (margin_half ok) (measured n d i) (measured n d j)
      (round_mono (position n i * d) (position n j * d) 10 (lit< tt) (mul-le-mul_right d (position_mono (points_of n ok.points) some inward inside)))

  -- Point i and its mirror image make up the width, or one thousandth more
  pub distance_mirror : (i : ℕ) → 1 ≤ i → i ≤ n → distance n d z i + distance n d z (n + 1 - i) ≡ 100 * d + cond (one_too_many (margin d z) (100 * d) (position n i * d) (position n (n + 1 - i) * d)) 1 0
  unfolding distance measured
  distance_mirror i some inside =
      let whole : position n i + position n (n + 1 - i) ≡ 1000 = position_mirror (points_of n ok.points) some inside in
      let spread : (position n i + position n (n + 1 - i)) * d ≡ position n i * d + position n (n + 1 - i) * d = add-mul (position n i) (position n (n + 1 - i)) d in
      let width : (position n i + position n (n + 1 - i)) * d ≡ 1000 * d = ap (λ p. p * d) whole in
      kept_mirror (margin d z) (100 * d) (margin_half ok) (position n i * d) (position n (n + 1 - i) * d) (omega arith)
