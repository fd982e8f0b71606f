-- What the search for a root goes by: it begins at a bound that the length in bits gives, goes from bound to closer bound by a mean, and ends
-- at the whole part of the root, from which the nearest root is one step.
use Prim.Native.Nat.{ℕ, ◌+◌, ◌-◌, ◌*◌, ◌/◌, ◌^◌, ◌≤◌, ◌<◌}
use mathlib.Core.Path.{◌≡◌, ◌∙◌}
use native.Mathlib.Nat.{mul-add, add-mul, add_comm, mul_comm, mul-one, le_trans, le_of_lt, lt_of_lt_of_le, lt_of_not-le, lt-div-mul-add, div-lt_iff_lt-mul}
use native.Mathlib.Decide.{dec_le}
use native.Mathlib.Omega.{arith}
use lib.Count.{leading_length}
use lib.Pow.{pow_mono, pow_pos, shr_lt}
use Rattle.arith.specs.Root.{whole_root, nearest_root, bit_length, mean_bound, first_bound}
use Rattle.arith.proofs.Root.{square_double, square_mono, square_lt, digit_low, digit_high, IsWhole, whole_is, whole_unique, nearest_is, root_unique}

-- Four times a product is at most the square of the sum
sum_squared : (a k : ℕ) → 4 * (a * (a + k)) ≤ (a + (a + k)) * (a + (a + k))
sum_squared a k = simp (mul-add, add-mul) (omega (arith, mul_comm k a))

ordered : (a b : ℕ) → a ≤ b → 4 * (a * b) ≤ (a + b) * (a + b)
ordered a b h =
    let parts : a + (b - a) ≡ b = omega arith in
    rw parts at (sum_squared a (b - a))

product_le : (a b : ℕ) → 4 * (a * b) ≤ (a + b) * (a + b)
product_le a b = go (dec_le a b)
  where
    go : Dec (a ≤ b) → 4 * (a * b) ≤ (a + b) * (a + b)
    go (yes h) = ordered a b h
    go (no f) = rw (mul_comm a b, add_comm a b) (ordered b a (le_of_lt (lt_of_not-le f)))

-- Where b is not 0, the mean of b and of x divided by it is no lower than the whole part of the root
pub mean_above : (x b : ℕ) → 0 < b → x < (mean_bound x b + 1) * (mean_bound x b + 1)
mean_above x b some =
    let d : ℕ = x / b in
    let m : ℕ = mean_bound x b in
    let rest : x < d * b + b = lt-div-mul-add some in
    let more : b * (d + 1) ≡ d * b + b = mul-add b d 1 ∙ rw (mul_comm b d, mul-one) in
    let twice : b + (d + 1) ≤ 2 * (m + 1) = omega arith in
    let wide : 4 * (b * (d + 1)) ≤ 2 * (m + 1) * (2 * (m + 1)) = le_trans (product_le b (d + 1)) (square_mono twice) in
    let square : 2 * (m + 1) * (2 * (m + 1)) ≡ 4 * ((m + 1) * (m + 1)) = square_double (m + 1) in
    omega arith

-- and where b is above the root it is closer
pub mean_below : (x b : ℕ) → x < b * b → (0 < b) × ((x / b < b) × (mean_bound x b < b))
mean_below x b above =
    let some : 0 < b = square_lt 0 b (omega arith) above in
    let share : x / b < b = (div-lt_iff_lt-mul some).1 above in
    (some, (share, omega arith))

-- b is no lower than the whole part of the root of x, and no higher than the search can square
pub record Bound (x b : ℕ) : Type 0 where
  pub above : x < (b + 1) * (b + 1)
  pub small : b ≤ 4294967295

-- what the length of x in bits says of x
bit_length_lem : (x : ℕ) → x < 2 ^ 64 → (bit_length x ≤ 64) × (x < 2 ^ bit_length x)
bit_length_lem x fits =
    let long = leading_length 64 x fits in
    let length : bit_length x ≡ long.0 = omega (arith, long.1) in
    (omega (arith, long.1), rw length long.2)

-- and of the two numbers whose mean the first bound is: a power of two, and x divided by it
pub half_length : (x : ℕ) → x < 2 ^ 64 → (2 ^ (bit_length x / 2) ≤ 4294967296) × (x / 2 ^ (bit_length x / 2) < 4294967296)
half_length x fits =
    let half : ℕ = bit_length x / 2 in
    let few : half ≤ 32 = omega (arith, (bit_length_lem x fits).0) in
    let rest : bit_length x ≤ 32 + half = omega (arith, (bit_length_lem x fits).0) in
    let short : x < 2 ^ (32 + half) = lt_of_lt_of_le (bit_length_lem x fits).1 (pow_mono rest) in
    (pow_mono few, shr_lt 32 half short)

-- The search begins at a bound
pub first_bounds : (x : ℕ) → x < 2 ^ 64 → Bound x (first_bound x)
unfolding first_bound
first_bounds x fits =
    let short = half_length x fits in
    record { above = mean_above x _ (pow_pos (bit_length x / 2)); small = omega (arith, short.0, short.1) }

-- and goes from bound to bound
pub next_bounds : (x b : ℕ) → Bound x b → x < b * b → Bound x (mean_bound x b)
next_bounds x b i above =
    let closer = mean_below x b above in
    record { above = mean_above x b closer.0; small = omega (arith, closer.1.1, i.small) }

-- A bound that is not above the root is the whole part of it
pub bound_is : (x b : ℕ) → x < 2 ^ 64 → Bound x b → b * b ≤ x → b ≡ whole_root x
bound_is x b fits i low = whole_unique (record { low = low; high = i.above }) (whole_is x fits)

-- From the whole part w of half the root of y to the whole number nearest that half: w, or one more from the middle between the two on
module _ (y w : ℕ) (fits : y < 2 ^ 64) (e : w ≡ whole_root (y / 4)) where
  half_is : IsWhole (y / 4) w
  half_is = rw e (whole_is (y / 4) (omega arith))

  pub half_most : w ≤ 2147483647
  half_most =
      let quarter : y / 4 < 2147483648 * 2147483648 = omega arith in
      let below : w < 2147483648 = square_lt w 2147483648 half_is.low quarter in
      omega arith

  pub nearest_up : (2 * w + 1) * (2 * w + 1) ≤ y → w + 1 ≡ nearest_root y
  nearest_up reached =
      let odd : 2 * (w + 1) - 1 ≡ 2 * w + 1 = omega arith in
      let wider : (2 * w + 2) * (2 * w + 2) ≤ (2 * (w + 1) + 1) * (2 * (w + 1) + 1) = square_mono (omega arith) in
      root_unique
      (record { low = rw odd reached; high = lt_of_lt_of_le (digit_high y w half_is.high) wider })
      (nearest_is y fits)

  pub nearest_down : y < (2 * w + 1) * (2 * w + 1) → w ≡ nearest_root y
  nearest_down short =
      let narrower : (2 * w - 1) * (2 * w - 1) ≤ 2 * w * (2 * w) = square_mono (omega arith) in
      root_unique (record { low = le_trans narrower (digit_low y w half_is.low); high = short }) (nearest_is y fits)
