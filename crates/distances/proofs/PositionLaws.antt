-- The positions of a diameter: the definition satisfies the rule at every number of points, by one test that is computed over all of them,
-- and no other number does. Everything above relies on the rule and not on how a position is worked.
use Prim.Native.Nat.{ℕ, ◌+◌, ◌-◌, ◌*◌, ◌/◌, ◌%◌, ◌^◌, ◌≤◌, ◌<◌}
use mathlib.Core.Path.{◌≡◌, refl, ◌∙◌}
use mathlib.Core.Bool.{Bool, true, ◌&&◌}
use mathlib.Core.List.{[], ◌∷◌, map}
use native.Mathlib.Nat.{add_comm, mul-le-mul, mul-le-mul_right, lt_of_not-le, le_antisymm, div-le_of_le-mul}
use native.Mathlib.Decide.{dec_le}
use native.Mathlib.Omega.{arith}
use borrow.Author.Tests.{leb-true, ltb-true, eqb-true, le-leb, lt-leb}
use lib.Dec.{leb, ltb, eqb}
use Rattle.arith.specs.Root.{grown, floor_root, nearest_root}
use Rattle.arith.proofs.Root.{nearest_is, root_le}
use Rattle.readings.specs.Ranges.{within, diameter_points, least_diameter_points, greatest_diameter_points}
use Rattle.readings.proofs.Ranges.{both_left, both_right, within_least, within_greatest}
use Rattle.distances.specs.Positions.{IsPosition, near_position, position, starred_positions}
use Rattle.distances.proofs.Tests.{all_below, all_below_lem}

-- n points on a diameter
pub record Points (n : ℕ) : Type 0 where
  pub even : n % 2 ≡ 0
  pub least : 2 ≤ n
  pub most : n ≤ 24

pub points_of : (n : ℕ) → diameter_points n ≡ true → Points n
points_of n e =
    let range : within 2 24 n ≡ true = both_right (eqb (n % 2) 0) (within 2 24 n) e in
    record {
      even = eqb-true _ _ (both_left (eqb (n % 2) 0) (within 2 24 n) e);
      least = within_least least_diameter_points greatest_diameter_points n range;
      most = within_greatest least_diameter_points greatest_diameter_points n range;
    }

-- A point further in stands no nearer to the wall: of one point, the rule leaves one number
pub position_le : {n i j p r : ℕ} → IsPosition n i p → IsPosition n j r → i ≤ j → p ≤ r
position_le {n} {i} {j} {p} {r} a b inward = go (dec_le p r)
  where
    go : Dec (p ≤ r) → p ≤ r
    go (yes t) = t
    go (no f) =
        let less : r < p = lt_of_not-le f in
        let odd : 1001 - 2 * p ≤ 999 - 2 * r = omega arith in
        let square : (1001 - 2 * p) * (1001 - 2 * p) * n ≤ (999 - 2 * r) * (999 - 2 * r) * n = mul-le-mul_right n (mul-le-mul odd odd) in
        omega (arith, a.high, b.low)

pub position_unique : {n i p r : ℕ} → IsPosition n i p → IsPosition n i r → p ≡ r
position_unique {n} {i} a b = le_antisymm (position_le a b (omega arith)) (position_le b a (omega arith))

-- the rule as a test
right : ℕ → ℕ → ℕ → Bool
right n i p =
    leb p 499
    && (ltb ((999 - 2 * p) * (999 - 2 * p) * n) (10 ^ 6 * (n - 2 * i + 1))
    && ltb (10 ^ 6 * (n - 2 * i + 1)) ((1001 - 2 * p) * (1001 - 2 * p) * n))

is_right : (n i p : ℕ) → right n i p ≡ true → IsPosition n i p
unfolding right
is_right n i p e =
    let low : Bool = ltb ((999 - 2 * p) * (999 - 2 * p) * n) (10 ^ 6 * (n - 2 * i + 1)) in
    let high : Bool = ltb (10 ^ 6 * (n - 2 * i + 1)) ((1001 - 2 * p) * (1001 - 2 * p) * n) in
    let both : (low && high) ≡ true = both_right (leb p 499) (low && high) e in
    record {
      near = leb-true _ _ (both_left (leb p 499) (low && high) e);
      low = ltb-true _ _ (both_left low high both);
      high = ltb-true _ _ (both_right low high both);
    }

-- the test of point k + 1 of 2m + 2
tested : ℕ → ℕ → Bool
tested m k = right (2 * m + 2) (k + 1) (near_position (2 * m + 2) (k + 1))

all_right : all_below (λ m. all_below (tested m) (m + 1)) 12 ≡ true
unfolding tested right near_position nearest_root floor_root grown
all_right = refl

-- Of each point of the near half there is a position, and it is the definition's
pub near_is : {n i : ℕ} → Points n → 1 ≤ i → 2 * i ≤ n → IsPosition n i (near_position n i)
unfolding tested
near_is {n} {i} ok some near =
    let m : ℕ = n / 2 - 1 in
    let k : ℕ = i - 1 in
    let double : 2 * m + 2 ≡ n = omega (arith, ok.even) in
    let next : k + 1 ≡ i = omega arith in
    let row = all_below_lem (λ m. all_below (tested m) (m + 1)) 12 all_right m (omega (arith, ok.most)) in
    is_right n i (near_position n i) (rw (double, next) at (all_below_lem (tested m) (m + 1) row k (omega arith)))

-- The root is at most half the diameter
pub root_most : {n i : ℕ} → Points n → 1 ≤ i → 2 * i ≤ n → nearest_root (10 ^ 6 * (n - 2 * i + 1) / n) ≤ 500
root_most {n} {i} ok some near =
    let y : ℕ = 10 ^ 6 * (n - 2 * i + 1) / n in
    let small : y ≤ 1000000 = div-le_of_le-mul n (omega (arith, ok.least)) in
    let fits : y < 2 ^ 64 = omega arith in
    root_le (nearest_root y) 500 (nearest_is y fits).low (omega arith)

pub near_at : (n i : ℕ) → 2 * i ≤ n → position n i ≡ near_position n i
unfolding position
near_at n i near = rw (le-leb (2 * i) n near)

pub far_at : (n i : ℕ) → n < 2 * i → position n i ≡ 1000 - near_position n (n + 1 - i)
unfolding position
far_at n i far = rw (lt-leb (2 * i) n far)

-- The rule of the near half, and the far half its mirror image
pub position_is : {n i : ℕ} → Points n → 1 ≤ i → 2 * i ≤ n → IsPosition n i (position n i)
position_is {n} {i} ok some near = rw (near_at n i near) (near_is ok some near)

-- Two mirrored points, from either wall
pub position_mirror : {n i : ℕ} → Points n → 1 ≤ i → i ≤ n → position n i + position n (n + 1 - i) ≡ 1000
position_mirror {n} {i} ok some inside = go (dec_le (2 * i) n)
  where
    pair : (j k : ℕ) → 1 ≤ j → 2 * j ≤ n → j + k ≡ n + 1 → position n j + position n k ≡ 1000
    pair j k first near other =
        let back : n + 1 - k ≡ j = omega arith in
        let far : position n k ≡ 1000 - near_position n j = rw (far_at n k (omega arith), back) in
        omega (arith, near_at n j near, (near_is ok first near).near)

    go : Dec (2 * i ≤ n) → position n i + position n (n + 1 - i) ≡ 1000
    go (yes near) = pair i (n + 1 - i) some near (omega arith)
    go (no not-near) =
        let far : n < 2 * i = lt_of_not-le not-near in
        add_comm (position n i) (position n (n + 1 - i)) ∙ pair (n + 1 - i) i (omega arith) (omega (arith, ok.even)) (omega arith)

-- Positions never decrease across the diameter
pub position_mono : {n i j : ℕ} → Points n → 1 ≤ i → i ≤ j → j ≤ n → position n i ≤ position n j
position_mono {n} {i} {j} ok some inward inside = go (dec_le (2 * i) n) (dec_le (2 * j) n)
  where
    -- the mirror images of two points of the far half, in the near half
    mirrored : n < 2 * i → position n (n + 1 - j) ≤ position n (n + 1 - i)
    mirrored far = position_le (position_is ok (omega arith) (omega (arith, ok.even))) (position_is ok (omega arith) (omega (arith, ok.even))) (omega arith)

    go : Dec (2 * i ≤ n) → Dec (2 * j ≤ n) → position n i ≤ position n j
    go (yes a) (yes b) = position_le (position_is ok some a) (position_is ok (omega arith) b) inward
    go (yes a) (no b) =
        let far : n < 2 * j = lt_of_not-le b in
        omega (arith, (position_is ok some a).near, position_mirror ok (omega arith) inside, (position_is {n = n} {i = n + 1 - j} ok (omega arith) (omega (arith, ok.even))).near)
    go (no a) (yes b) = absurd (a (omega arith))
    go (no a) (no b) = omega (arith, position_mirror ok some (omega arith), position_mirror ok (omega arith) inside, mirrored (lt_of_not-le a))

-- Of each point of the near half the rule has one number, which is its position
pub one_position : (n i : ℕ) → diameter_points n ≡ true → 1 ≤ i → 2 * i ≤ n → IsPosition n i (position n i) × ((p : ℕ) → IsPosition n i p → p ≡ position n i)
one_position n i e some near =
    let is : IsPosition n i (position n i) = position_is (points_of n e) some near in
    (is, λ p other. position_unique other is)

-- The positions for 6 points
pub starred_positions_lem : map (position 6) (1 ∷ 2 ∷ 3 ∷ 4 ∷ 5 ∷ 6 ∷ []) ≡ starred_positions
unfolding starred_positions position near_position nearest_root floor_root grown
starred_positions_lem = refl
