-- The lines that rules 11, 15, 16 and 20 show are in range, of a run and certificates in range: line by line, from the definitions.
use Rattle.std.specs.Prelude.{Option, Some, None}
use Prim.Native.Nat.{ℕ, zero, suc, ◌+◌, ◌*◌, ◌^◌, ◌≤◌, ◌<◌}
use mathlib.Core.Path.{◌≡◌, refl}
use mathlib.Core.Bool.{true}
use mathlib.Core.List.{List}
use mathlib.Core.Logic.{◌⊎◌, inl, inr}
use native.Mathlib.Nat.{mul-le-mul_left, sub-le, mod-lt, div-le_of_le-mul}
use native.Mathlib.Omega.{arith}
use lib.Dec.{lit<}
use lib.IntN.{ℤ}
use lib.ListN.{get_or}
use Rattle.arith.specs.Rounding.{division}
use Rattle.arith.proofs.Rounding.{le_round, round_le, round_le_exact}
use Rattle.readings.specs.Ranges.{least_factor, greatest_factor, least_coefficient, greatest_coefficient, least_barometer, greatest_barometer, static_pressure, greatest_with_co2, greatest_above_first, greatest_water, least_seconds, greatest_total_seconds, greatest_weight}
use Rattle.readings.proofs.Ranges.{within_greatest}
use Rattle.records.specs.declared.Acetone.{Acetone}
use Rattle.records.specs.declared.Run.{Run}
use Rattle.records.specs.declared.Segment.{Segment}
use Rattle.records.specs.declared.Weighing.{Weighing}
use Rattle.records.specs.InRange.{RunOk, AcetoneOk}
use Rattle.records.specs.Records.{no_weighing}
use Rattle.records.proofs.Sums.{sum_le}
use Rattle.values.specs.declared.Diameters.{Diameters}
use Rattle.values.specs.Promise.{Between, DiametersOk, unless_zero}
use Rattle.values.specs.Signed.{add_scaled}
use Rattle.values.proofs.Promise.{missing_between, known_between}
use Rattle.metering.specs.Metering.{time, metered_volume, leak_losses, corrected_volume, mean_orifice, meter_temperature, dry_volume, water_vapor, moisture, metering}
use Rattle.metering.specs.Promise.{least_meter_pressure, least_meter_rankine, greatest_meter_rankine, least_dry_volume, greatest_dry_volume}
use Rattle.metering.proofs.Cases.{dry_known}
use Rattle.metering.proofs.Products.{dry_numerator}
use Rattle.metering.proofs.DryVolume.{dry_least}
use Rattle.metering.proofs.Passes.{is_time, is_orifice, is_meter_pressure, is_meter_temperature}
use Rattle.metering.proofs.RunInRange.{points_ok, time_most_lem, readings_apart, pb_range, water_most}
use Rattle.stack.specs.Stack.{dry_weight, wet_weight, stack_pressure, stack_temperature, mean_root, density_root, velocity, stack}
use Rattle.stack.specs.Promise.{greatest_root, greatest_density_root, greatest_velocity}
use Rattle.stack.proofs.Passes.{is_stack_temperature, is_mean_root}
use Rattle.stack.proofs.Pressure.{pressure_least_lem}
use Rattle.stack.proofs.Products.{wet_most, wet_least, velocity_numerator}
use Rattle.stack.proofs.Roots.{density_most}
use Rattle.sampling.specs.Sampling.{nozzle_area, drawn_gas, isokinetic, final_weights, tares, catch, sampling}
use Rattle.sampling.specs.Promise.{WeighingsOk, CatchOk}
use Rattle.sampling.proofs.Difference.{catch_ok}
use Rattle.sampling.proofs.Percent.{WorkedFrom, worked_or_not}
use Rattle.sampling.proofs.Products.{sum_range, is_area, drawn_numerator, divisor_time_most, divisor_least, deduction_most}
use Rattle.sampling.proofs.RunInRange.{weighings_ok}
use Rattle.lines.specs.Promise.{RunWithValues}
use Rattle.lines.specs.Sheet.{lines}
use Rattle.lines.proofs.RunInRange.{traverse_ok, gas_range}
use Rattle.reviewing.proofs.FitsGrounds.{RatioFits}

-- Lines 3, 6, 7 and 8

-- no more is left than was metered
corrected_most : (t v : ℕ) (segments : List Segment) (n : ℕ) → least_seconds ≤ t → v ≤ greatest_above_first → corrected_volume t v segments n ≤ greatest_above_first
unfolding corrected_volume
corrected_most t v segments n some few =
    round_le _ (300 * t) greatest_above_first (omega arith)
    (omega (arith, mul-le-mul_left (300 * t) few, sub-le (300 * t * v) (leak_losses t v segments n)))

-- line 6 is never 0, and small
dry_range : (corrected : ℕ) (y : Option ℕ) (p t : ℕ) → corrected ≤ greatest_above_first → Between least_factor greatest_factor y → least_meter_pressure ≤ p → p ≤ 334706 → least_meter_rankine ≤ t → t ≤ greatest_meter_rankine → Between least_dry_volume greatest_dry_volume (dry_volume corrected y p t)
unfolding add_scaled dry_volume unless_zero
dry_range corrected None p t few factor low high cold warm = missing_between
dry_range zero (Some f) p t few factor low high cold warm = missing_between
dry_range (suc n) (Some f) p t few factor low high cold warm =
    let own = factor.known f refl in
    let some : 1 ≤ suc n = omega arith in
    let numerator = dry_numerator few own.1 high in
    rw (dry_known {f = f} (suc n) p t refl (omega arith))
    (known_between (dry_least some own.0 low cold warm)
    (round_le _ (10 ^ 9 * t) greatest_dry_volume (omega (arith, cold)) (omega (arith, numerator, cold))))

-- so much vapor at most from so much water
vapor_most : (water : ℕ) → water ≤ greatest_water → water_vapor water ≤ 94140
unfolding water_vapor
vapor_most water few = round_le _ 1000 94140 (lit< tt) (omega arith)

-- a share of the whole
moisture_range : (dry : Option ℕ) (vapor : ℕ) → Between least_dry_volume greatest_dry_volume dry → Between 0 100000 (moisture dry vapor)
unfolding moisture
moisture_range None vapor range = missing_between
moisture_range (Some d) vapor range =
    let some = (range.known d refl).0 in
    known_between (omega arith) (round_le _ (d + vapor) 100000 (omega arith) (omega arith))

-- Lines 9, 10, 11, 14 and 15

-- from nitrogen alone to carbon dioxide alone
dry_weight_range : (co2 o2 : ℕ) → co2 + o2 ≤ greatest_with_co2 → (28000 ≤ dry_weight co2 o2) × (dry_weight co2 o2 ≤ 44000)
unfolding dry_weight
dry_weight_range co2 o2 few = (omega arith, omega arith)

-- from water alone up to the dry weight
wet_weight_range : (dry : ℕ) (m : Option ℕ) → 28000 ≤ dry → dry ≤ 44000 → Between 0 100000 m → Between 18000 44000 (wet_weight dry m)
unfolding wet_weight
wet_weight_range dry None least most range = missing_between
wet_weight_range dry (Some w) least most range =
    let few = (range.known w refl).1 in
    known_between
    (le_round _ 100000 18000 (lit< tt) (omega (arith, wet_least w least)))
    (round_le _ 100000 44000 (lit< tt) (omega (arith, wet_most w most)))

-- the least barometer with the least static pressure
stack_pressure_least : (pb : ℕ) (pg : ℤ) → least_barometer ≤ pb → pb ≤ greatest_barometer → static_pressure pg ≡ true → 177941 ≤ stack_pressure pb pg
unfolding stack_pressure
stack_pressure_least pb pg low high ok =
    le_round _ 136 177941 (lit< tt) (omega (arith, pressure_least_lem pb low high pg ok))

-- the hottest, lightest gas at the least pressure
density_range : (wet : Option ℕ) (p t : ℕ) → Between 18000 44000 wet → 177941 ≤ p → t ≤ 24600 → Between 0 greatest_density_root (density_root wet p t)
unfolding density_root
density_range None p t range low warm = missing_between
density_range (Some w) p t range low warm = known_between (omega arith) (density_most low (range.known w refl).0 warm)

-- a coefficient and both roots at their greatest
velocity_range : (cp : Option ℕ) (mean : ℕ) (density : Option ℕ) → Between least_coefficient greatest_coefficient cp → mean ≤ greatest_root → Between 0 greatest_density_root density → Between 0 greatest_velocity (velocity cp mean density)
unfolding velocity
velocity_range None mean density coefficient few range = missing_between
velocity_range (Some k) mean None coefficient few range = missing_between
velocity_range (Some k) mean (Some q) coefficient few range =
    let numerator = velocity_numerator (coefficient.known k refl).1 few (range.known q refl).1 in
    known_between (omega arith) (round_le_exact _ (10 ^ 11) greatest_velocity (lit< tt) (omega (arith, numerator)))

-- Lines 16 to 19

-- three diameters in range
area_range : (d : Option Diameters) → DiametersOk d → Between 5454 545417 (nozzle_area d)
unfolding nozzle_area
area_range None ok = missing_between
area_range (Some d) ok =
    let (least, most) = sum_range d ok refl in
    let is = is_area least most refl in
    known_between is.low is.high

-- the most gas, hottest and at the least pressure
drawn_range : (dry : Option ℕ) (vapor p t : ℕ) → Between least_dry_volume greatest_dry_volume dry → vapor ≤ 94140 → 177941 ≤ p → t ≤ 24600 → Between 0 19675261 (drawn_gas dry vapor p t)
unfolding drawn_gas
drawn_range None vapor p t range few low warm = missing_between
drawn_range (Some d) vapor p t range few low warm =
    let most = (range.known d refl).1 in
    let together : d + vapor ≤ 1506016 = omega arith in
    known_between (omega arith)
    (round_le _ (10 * p) 19675261 (omega arith) (omega (arith, drawn_numerator warm together)))

-- the quotient is small since the divisor is at least 5454, and the remainder since the divisor is small
isokinetic_fits : (drawn speed area : Option ℕ) (t : ℕ) → Between 0 19675261 drawn → Between 0 greatest_velocity speed → Between 5454 545417 area → least_seconds ≤ t → t ≤ greatest_total_seconds → RatioFits (isokinetic drawn speed area t)
unfolding division
isokinetic_fits drawn speed area t gas moving opening some few = go (worked_or_not drawn speed area t)
  where
    go : (isokinetic drawn speed area t ≡ None) ⊎ WorkedFrom drawn speed area t → RatioFits (isokinetic drawn speed area t)
    go (inl not) = rw not tt
    go (inr w) =
        let g = (gas.known _ w.is_drawn).1 in
        let s = (moving.known _ w.is_velocity).1 in
        let a = opening.known _ w.is_area in
        let least = divisor_least w.moving a.0 some in
        let most = divisor_time_most s a.1 few in
        let some : 0 < w.speed * w.opening * t = omega arith in
        let enough : 6 * 10 ^ 11 * w.gas ≤ w.speed * w.opening * t * 2164495159515953 = omega (arith, mul-le-mul_left 2164495159515953 least) in
        rw w.is (omega (arith, div-le_of_le-mul (w.speed * w.opening * t) enough), omega (arith, mod-lt (6 * 10 ^ 11 * w.gas) some))

-- eight weighings at most, each in range
weights_most : (weighings : List Weighing) (n : ℕ) → WeighingsOk weighings n → (final_weights weighings n ≤ 32000000) × (tares weighings n ≤ 32000000)
unfolding final_weights tares
weights_most weighings n ok =
    let few = ok.few in (
      omega (arith, sum_le (λ i. (get_or weighings i no_weighing).second) greatest_weight n (λ i inside. within_greatest _ _ _ (ok.each i inside).second)),
      omega (arith, sum_le (λ i. (get_or weighings i no_weighing).tare) greatest_weight n (λ i inside. within_greatest _ _ _ (ok.each i inside).tare)),
    )

-- and at most 99 taken off for the acetone
catch_range : (weighings : List Weighing) (n : ℕ) (a : Acetone) → WeighingsOk weighings n → AcetoneOk a → CatchOk (catch weighings n a)
unfolding catch
catch_range weighings n a ok acetone =
    let (finals, tared) = weights_most weighings n ok in
    catch_ok _ _ finals (omega (arith, deduction_most a acetone))

-- Of a run and the values that its certificates give it, all in range

module _ (r : Run) (y cp : Option ℕ) (nozzle : Option Diameters) (ok : RunWithValues r y cp nozzle) where
  run : RunOk r
  run = ok.run

  line_1 : (least_seconds ≤ time r.points r.header.counts.points) × (time r.points r.header.counts.points ≤ greatest_total_seconds)
  unfolding time
  line_1 = let is = is_time r.points _ _ (points_ok r run) (time_most_lem r run) refl in (is.low, is.high)

  line_2 : metered_volume r.header.first r.header.last ≤ greatest_above_first
  unfolding metered_volume
  line_2 = omega (arith, readings_apart r run)

  line_6 : Between least_dry_volume greatest_dry_volume (metering r y).dry
  unfolding metering mean_orifice meter_temperature
  line_6 =
      let pb = pb_range r run in
      let orifice = is_orifice r.points _ _ (points_ok r run) refl refl in
      let pressure = is_meter_pressure r.header.pb _ pb.0 pb.1 orifice.high refl in
      let temperature = is_meter_temperature r.points _ _ (points_ok r run) refl refl in
      let corrected = corrected_most _ _ r.segments r.header.counts.segments line_1.0 line_2 in
      dry_range _ y _ _ corrected ok.factor pressure.low pressure.high temperature.low temperature.high

  line_11 : 177941 ≤ stack_pressure r.header.pb r.header.pg
  line_11 = stack_pressure_least _ _ (pb_range r run).0 (pb_range r run).1 run.header.pg

  line_12 : stack_temperature r.points r.header.counts.points ≤ 24600
  unfolding stack_temperature
  line_12 = (is_stack_temperature r.points _ _ (traverse_ok r run) refl refl).high

  line_13 : mean_root r.points r.header.counts.points ≤ greatest_root
  unfolding mean_root
  line_13 = (is_mean_root r.points _ _ (traverse_ok r run) refl refl).high

  line_15 : Between 0 greatest_velocity (lines r y cp nozzle).stack.velocity
  unfolding lines stack metering
  line_15 =
      let weight = dry_weight_range r.header.co2 r.header.o2 (gas_range r run) in
      let wet = wet_weight_range _ _ weight.0 weight.1 (moisture_range _ _ line_6) in
      velocity_range cp _ _ ok.coefficient line_13 (density_range _ _ _ wet line_11 line_12)

  -- line 1
  pub time_few : (lines r y cp nozzle).metering.time ≤ greatest_total_seconds
  unfolding lines metering
  time_few = line_1.1

  -- line 18, before it is rounded
  pub percent_fits : RatioFits (lines r y cp nozzle).sampling.isokinetic
  unfolding lines sampling stack metering
  percent_fits =
      let drawn = drawn_range _ _ _ _ line_6 (vapor_most _ (water_most r run)) line_11 line_12 in
      isokinetic_fits _ _ _ _ drawn line_15 (area_range nozzle ok.diameters) line_1.0 line_1.1

  -- line 19
  pub catch_in_range : CatchOk (lines r y cp nozzle).sampling.catch
  unfolding lines sampling
  catch_in_range = catch_range _ _ _ (weighings_ok r run) run.header.acetone
