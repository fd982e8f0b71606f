-- Line 6 is never 0: of a run and a factor in range, where line 3 is at least 1, it is at least 1.
use Rattle.std.specs.Prelude.{Some}
use Prim.Native.Nat.{ℕ, ◌*◌, ◌^◌, ◌≤◌}
use mathlib.Core.Path.{◌≡◌, refl}
use native.Mathlib.Nat.{mul-le-mul}
use native.Mathlib.Omega.{arith}
use lib.IntN.{nat_abs}
use Rattle.arith.specs.Rounding.{round_div}
use Rattle.arith.proofs.Rounding.{le_round_exact}
use Rattle.readings.specs.Ranges.{within, signed_within, least_factor, least_barometer, greatest_meter_temperature}
use Rattle.readings.proofs.LeastVolume.{half_a_unit}
use Rattle.records.specs.declared.Run.{Run}
use Rattle.records.specs.InRange.{RunOk}
use Rattle.values.specs.Signed.{add_scaled}
use Rattle.metering.specs.Metering.{mean_orifice, meter_temperature, metering}
use Rattle.metering.specs.Promise.{least_meter_pressure, least_meter_rankine, greatest_meter_rankine, least_dry_volume}
use Rattle.metering.proofs.Cases.{dry_known}
use Rattle.metering.proofs.Passes.{is_orifice, is_meter_pressure, is_meter_temperature}
use Rattle.metering.proofs.RunInRange.{points_ok, pb_range}

-- its equation: the numerator is half the denominator at least in the corner of the ranges where it is smallest, and so anywhere
pub dry_least : {corrected y pressure temperature : ℕ} → 1 ≤ corrected → least_factor ≤ y → least_meter_pressure ≤ pressure → least_meter_rankine ≤ temperature → temperature ≤ greatest_meter_rankine → least_dry_volume ≤ round_div (1764 * corrected * y * pressure) (10 ^ 9 * temperature)
unfolding within signed_within add_scaled
dry_least some factor low cold warm =
    let corner = half_a_unit least_factor least_barometer (nat_abs greatest_meter_temperature) refl refl refl in
    le_round_exact _ _ least_dry_volume (omega (arith, cold)) (omega (arith, corner, warm, mul-le-mul some (mul-le-mul factor low)))

-- line 6 of a run
pub dry_some : (r : Run) (y : ℕ) → RunOk r → least_factor ≤ y → 1 ≤ (metering r (Some y)).corrected → (d : ℕ) × (((metering r (Some y)).dry ≡ Some d) × (least_dry_volume ≤ d))
unfolding metering mean_orifice meter_temperature
dry_some r y ok factor some =
    let pb = pb_range r ok in
    let orifice = is_orifice r.points _ _ (points_ok r ok) refl refl in
    let pressure = is_meter_pressure r.header.pb _ pb.0 pb.1 orifice.high refl in
    let temperature = is_meter_temperature r.points _ _ (points_ok r ok) refl refl in
    (_, (dry_known _ _ _ refl (λ none. omega arith), dry_least some factor pressure.low temperature.low temperature.high))
