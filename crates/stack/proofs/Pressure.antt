-- Line 11's sum, 13,600·Pb + 1,000·Pg: not below zero, and in range.
use Prim.Native.Nat.{ℕ, ◌+◌, ◌-◌, ◌*◌, ◌≤◌}
use mathlib.Core.Path.{◌≡◌}
use mathlib.Core.Bool.{true}
use native.Mathlib.Omega.{arith}
use lib.Dec.{lit≤, lit<}
use lib.IntN.{ℤ, nat_abs}
use mir.Syntax.{w16}
use mir.Val.{to_z, of_z}
use Rattle.readings.specs.Ranges.{least_barometer, greatest_barometer, least_static_pressure, static_pressure}
use Rattle.values.specs.Signed.{NotBelowZero, add_scaled}
use Rattle.values.proofs.Signs.{signed_bits_lem, scaled_ok, scaled_least, scaled_most}

module _ (pb : ℕ) (low : least_barometer ≤ pb) (high : pb ≤ greatest_barometer) where
  base_fits_lem : 13600 * pb ≤ 100000000
  base_fits_lem = omega arith

  reach : 1000 * nat_abs least_static_pressure ≤ 13600 * pb
  reach = omega arith

  pub pressure_ok : (pg : ℤ) → static_pressure pg ≡ true → NotBelowZero (13600 * pb) 1000 pg
  pressure_ok = scaled_ok (13600 * pb) 1000 least_static_pressure _ base_fits_lem (lit≤ tt) reach

  pub pressure_least_lem : (pg : ℤ) → static_pressure pg ≡ true → 13600 * pb - 3000000 ≤ add_scaled (13600 * pb) 1000 pg
  pressure_least_lem = scaled_least (13600 * pb) 1000 least_static_pressure _ base_fits_lem (lit≤ tt) reach

  pub pressure_most_lem : (pg : ℤ) → static_pressure pg ≡ true → add_scaled (13600 * pb) 1000 pg ≤ 13600 * pb + 3000000
  pressure_most_lem = scaled_most (13600 * pb) 1000 least_static_pressure _ base_fits_lem (lit≤ tt) reach

-- the static pressure is read back from its bits as it is
pub pressure_bits : (pg : ℤ) → static_pressure pg ≡ true → to_z w16 (of_z w16 pg) ≡ pg
pressure_bits = signed_bits_lem least_static_pressure _ (lit≤ tt) (lit< tt)
