-- The bounds of the products of lines 10, 14 and 15.
use Prim.Native.Nat.{ℕ, ◌-◌, ◌*◌, ◌≤◌}
use native.Mathlib.Nat.{le_refl, mul-le-mul, mul-le-mul_left}
use Rattle.readings.specs.Ranges.{greatest_coefficient}
use Rattle.stack.specs.Promise.{greatest_root, greatest_density_root}

-- Line 10
pub wet_most : {dry : ℕ} (w : ℕ) → dry ≤ 44000 → dry * (100000 - w) ≤ 44000 * (100000 - w)
wet_most w h = mul-le-mul h (le_refl (100000 - w))

pub wet_least : {dry : ℕ} (w : ℕ) → 28000 ≤ dry → 28000 * (100000 - w) ≤ dry * (100000 - w)
wet_least w h = mul-le-mul h (le_refl (100000 - w))

-- Line 14
pub density_divisor : {p w : ℕ} → 177941 ≤ p → 18000 ≤ w → 3202938000 ≤ p * w
density_divisor hp hw = mul-le-mul hp hw

-- Line 15
pub velocity_product : {k mean : ℕ} → k ≤ greatest_coefficient → mean ≤ greatest_root → 8549 * k * mean ≤ 8549 * greatest_coefficient * greatest_root
velocity_product hk hm = mul-le-mul (mul-le-mul_left 8549 hk) hm

pub velocity_numerator : {k mean q : ℕ} → k ≤ greatest_coefficient → mean ≤ greatest_root → q ≤ greatest_density_root → 8549 * k * mean * q ≤ 8549 * greatest_coefficient * greatest_root * greatest_density_root
velocity_numerator hk hm hq = mul-le-mul (velocity_product hk hm) hq
