-- The laws of the nearest root: the definition satisfies its two inequalities, only one number does, and both roots of docs/RULES.md are it.
use Prim.Native.Nat.{ℕ, zero, suc, ◌+◌, ◌-◌, ◌*◌, ◌/◌, ◌^◌, ◌≤◌, ◌<◌}
use mathlib.Core.Path.{◌≡◌}
use native.Mathlib.Nat.{mul-add, add_assoc, mul_assoc, two-mul, mul-le-mul, pow-suc, le_trans, le_of_lt, lt_of_lt_of_le, lt_of_not-le, not-le_of_lt, le-div_iff_mul-le, le_antisymm}
use native.Mathlib.Decide.{dec_le}
use native.Mathlib.Omega.{arith}
use borrow.Author.Tests.{le-leb, lt-leb}
use lib.Dec.{leb}
use Rattle.arith.specs.Root.{grown, floor_root, whole_root, nearest_root, IsRoot, Largest, NearestRootOf}

-- the square of a double
pub square_double : (a : ℕ) → 2 * a * (2 * a) ≡ 4 * (a * a)
square_double a =
    let e : 2 * a * (2 * a) ≡ 2 * (a * (2 * a)) = mul_assoc 2 a (2 * a) in
    let f : a * (2 * a) ≡ a * a + a * a = rw (two-mul a, mul-add a a a) in
    omega arith

pub square_mono : {a b : ℕ} → a ≤ b → a * a ≤ b * b
square_mono h = mul-le-mul h h

-- a number whose square is at most y is below one whose square is above it
pub square_lt : {y : ℕ} (a b : ℕ) → a * a ≤ y → y < b * b → a < b
square_lt {y} a b low high = go (dec_le b a)
  where
    go : Dec (b ≤ a) → a < b
    go (yes h) = absurd (not-le_of_lt high (le_trans (square_mono h) low))
    go (no f) = lt_of_not-le f

-- r is the whole part of the square root of y
pub record IsWhole (y r : ℕ) : Type 0 where
  pub low : r * r ≤ y
  pub high : y < (r + 1) * (r + 1)

grown_is : (y r : ℕ) → r * r ≤ y → y < (r + 2) * (r + 2) → IsWhole y (grown (leb ((r + 1) * (r + 1)) y) r)
unfolding grown
grown_is y r l h = go (dec_le ((r + 1) * (r + 1)) y)
  where
    go : Dec ((r + 1) * (r + 1) ≤ y) → IsWhole y (grown (leb ((r + 1) * (r + 1)) y) r)
    go (yes t) = rw (le-leb _ _ t) (record { low = t; high = rw (add_assoc r 1 1) h })
    go (no f) = rw (lt-leb _ _ (lt_of_not-le f)) (record { low = l; high = lt_of_not-le f })

-- one more base-4 digit: the root of the digits before it, doubled, or one more
pub digit_low : (y s : ℕ) → s * s ≤ y / 4 → 2 * s * (2 * s) ≤ y
digit_low y s h =
    let d : 2 * s * (2 * s) ≡ 4 * (s * s) = square_double s in
    omega arith

pub digit_high : (y s : ℕ) → y / 4 < (s + 1) * (s + 1) → y < (2 * s + 2) * (2 * s + 2)
digit_high y s h =
    let d : 2 * (s + 1) * (2 * (s + 1)) ≡ 4 * ((s + 1) * (s + 1)) = square_double (s + 1) in
    let e : 2 * s + 2 ≡ 2 * (s + 1) = omega arith in
    rw e (rw d (omega arith))

floor_is : (k y : ℕ) → y < 4 ^ k → IsWhole y (floor_root k y)
unfolding floor_root
floor_is zero y h = record { low = omega arith; high = omega (arith, h) }
floor_is (suc k) y h =
    let p : 4 ^ suc k ≡ 4 ^ k * 4 = pow-suc 4 k in
    let i : IsWhole (y / 4) (floor_root k (y / 4)) = floor_is k (y / 4) (omega arith) in
    grown_is y (2 * floor_root k (y / 4)) (digit_low y _ i.low) (digit_high y _ i.high)

pub whole_is : (y : ℕ) → y < 2 ^ 64 → IsWhole y (whole_root y)
whole_is y h = floor_is 32 y h

-- only one number is the whole part
whole_le : {y r s : ℕ} → IsWhole y r → IsWhole y s → r ≤ s
whole_le {y} {r} {s} i j = let below : r < s + 1 = square_lt r (s + 1) i.low j.high in omega arith

pub whole_unique : {y r s : ℕ} → IsWhole y r → IsWhole y s → r ≡ s
whole_unique i j = le_antisymm (whole_le i j) (whole_le j i)

-- from the whole part s of the square root of y to the number nearest its half
halved_is : (y s : ℕ) → IsWhole y s → IsRoot y ((s + 1) / 2)
halved_is y s f =
    let q : ℕ = (s + 1) / 2 in
    let a : 2 * q - 1 ≤ s = omega arith in
    let b : s + 1 ≤ 2 * q + 1 = omega arith in
    record { low = le_trans (square_mono a) f.low; high = lt_of_lt_of_le f.high (square_mono b) }

-- The definition is the root
pub nearest_is : (y : ℕ) → y < 2 ^ 64 → IsRoot y (nearest_root y)
unfolding nearest_root
nearest_is y h = halved_is y (whole_root y) (whole_is y h)

-- What lies at or above its lower inequality is no higher than what its upper inequality lies below
pub root_le : {y : ℕ} (q m : ℕ) → (2 * q - 1) * (2 * q - 1) ≤ y → y < (2 * m + 1) * (2 * m + 1) → q ≤ m
root_le q m low high = let below : 2 * q - 1 < 2 * m + 1 = square_lt (2 * q - 1) (2 * m + 1) low high in omega arith

-- Only one number is the root
pub root_unique : {y p q : ℕ} → IsRoot y p → IsRoot y q → p ≡ q
root_unique {y} {p} {q} i j = le_antisymm (root_le p q i.low j.high) (root_le q p j.low i.high)

-- Line 14's own words: the largest q with (2q - 1)² d at most n
pub root_largest : (n d : ℕ) → 0 < d → n / d < 2 ^ 64 → Largest (λ q. (2 * q - 1) * (2 * q - 1) * d ≤ n) (nearest_root (n / d))
root_largest n d h fits =
    let i : IsRoot (n / d) (nearest_root (n / d)) = nearest_is (n / d) fits in
    record {
      holds = (le-div_iff_mul-le h).0 i.low;
      most = λ p t. root_le p _ ((le-div_iff_mul-le h).1 t) i.high;
    }

-- Line 13's own words: the whole number nearest the square root of x
pub root_nearest : (x : ℕ) → 4 * x < 2 ^ 64 → NearestRootOf x (nearest_root (4 * x))
root_nearest x fits p =
    let i : IsRoot (4 * x) (nearest_root (4 * x)) = nearest_is (4 * x) fits in
    let q : ℕ = nearest_root (4 * x) in (
      (λ below. le_trans (square_mono (below_odd p q below)) i.low),
      (λ above. le_trans (le_of_lt i.high) (square_mono (above_odd p q above))),
    )
  where
    below_odd : (p q : ℕ) → p < q → p + q ≤ 2 * q - 1
    below_odd p q h = omega arith

    above_odd : (p q : ℕ) → q < p → 2 * q + 1 ≤ p + q
    above_odd p q h = omega arith
