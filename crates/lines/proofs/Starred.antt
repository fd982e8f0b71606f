-- The starred values of the lines hold, by computation.
use mathlib.Core.Path.{◌≡◌, refl}
use Rattle.arith.specs.Rounding.{round_div, division}
use Rattle.arith.specs.Root.{nearest_root, floor_root, grown}
use Rattle.records.specs.Records.{sum_to}
use Rattle.values.specs.Promise.{unless_zero}
use Rattle.values.specs.Signed.{add_scaled}
use Rattle.metering.specs.Metering.{time, metered_volume, allowance, leak_loss, leak_losses, corrected_volume, mean_orifice, meter_pressure, meter_temperature, dry_volume, water_vapor, moisture, metering}
use Rattle.stack.specs.Stack.{dry_weight, wet_weight, stack_pressure, stack_temperature, point_root, mean_root, density_root, velocity, stack}
use Rattle.sampling.specs.Sampling.{nozzle_area, drawn_gas, isokinetic, deduction, final_weights, tares, catch, concentration, sampling}
use Rattle.lines.specs.Sheet.{lines, sheet}
use Rattle.lines.specs.Starred.{roots, leak, worked_lines}

pub roots_hold : roots.worked ≡ roots.expected
unfolding nearest_root floor_root grown point_root roots
roots_hold = refl

pub leak_holds : leak.worked ≡ leak.expected
unfolding round_div sum_to allowance leak_loss leak_losses corrected_volume leak
leak_holds = refl

pub worked_lines_hold : worked_lines.worked ≡ worked_lines.expected
unfolding round_div division nearest_root floor_root grown sum_to unless_zero add_scaled time metered_volume allowance leak_loss leak_losses corrected_volume mean_orifice meter_pressure meter_temperature dry_volume water_vapor moisture dry_weight wet_weight stack_pressure stack_temperature point_root mean_root density_root velocity nozzle_area drawn_gas isokinetic deduction final_weights tares catch concentration metering stack sampling lines sheet worked_lines
worked_lines_hold = refl
