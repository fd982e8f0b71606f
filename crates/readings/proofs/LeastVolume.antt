-- Why no line 6 is 0: the ranges of the factor, the barometer and the meter's temperature leave more than half a unit.
use Prim.Native.Nat.{ℕ, ◌+◌, ◌*◌, ◌^◌, ◌≤◌}
use mathlib.Core.Path.{◌≡◌}
use mathlib.Core.Bool.{true}
use native.Mathlib.Nat.{mul-le-mul}
use native.Mathlib.Omega.{arith}
use lib.IntN.{pos}
use Rattle.readings.specs.Ranges.{meter_factor, barometer, meter_fahrenheit}
use Rattle.readings.proofs.Ranges.{within_least, signed_greatest}

-- A unit of line 3 at the factor y, a pressure of 100·pb and a temperature of 4,600 + t is half a unit of line 6, or more
pub half_a_unit : (y pb t : ℕ) → meter_factor y ≡ true → barometer pb ≡ true → meter_fahrenheit (pos t) ≡ true → 10 ^ 9 * (4600 + t) ≤ 2 * 1764 * y * (100 * pb)
half_a_unit y pb t factor pressure temperature =
    let product = mul-le-mul (within_least _ _ y factor) (within_least _ _ pb pressure) in
    omega (arith, product, signed_greatest _ _ t temperature)
