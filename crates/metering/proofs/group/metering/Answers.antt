-- Lines 1 to 8 together: each call's promise, and the ranges that the next one asks.
use native.Mathlib.Omega.{arith}
use Rattle.std.proofs.Common.{◌≤◌, length, length-take, ◌∙◌}
use Rattle.metering.proofs.RunInRange.{points_ok, segments_ok, time_most_lem}
use Rattle.metering.proofs.Taken.{points_taken, segments_taken, time_taken, orifice_taken, temperature_taken, corrected_taken}
use Rattle.metering.proofs.Together.{is_metering}
use Rattle.metering.proofs.group.metering.Goals as goal

pub meter_points-time-requires : goal.meter_points-time-requires
meter_points-time-requires c =
    let ok = points_ok _ c.requires.run in
    let whole : c.args.run.now.header.counts.points ≤ length c.args.run.now.points = omega (arith, length-take c.args.run.now.header.counts.points c.args.run.now.points) in
    record { points = points_taken _ _ whole ok; seconds = rw (time_taken _ _ whole) (time_most_lem _ c.requires.run) }

pub corrected_volume-corrected-requires-clause-segments : goal.corrected_volume-corrected-requires-clause-segments
corrected_volume-corrected-requires-clause-segments c =
    let ok = segments_ok _ c.requires.run in segments_taken _ _ (omega (arith, length-take c.args.run.now.header.counts.segments c.args.run.now.segments)) ok

pub returns : goal.returns
returns c =
    let vapor = c.water_vapor-vapor.ensures in
    let dry = c.dry_volume-dry.ensures in
    let pressure = c.meter_pressure-pressure.ensures in
    let corrected = c.corrected_volume-corrected.ensures in
    let v = c.metered_volume-volume.ensures in
    let points = c.meter_points-time.ensures in
    let t = points.time in
    let temperature = points.temperature in
    let whole : c.args.run.now.header.counts.points ≤ length c.args.run.now.points = omega (arith, length-take c.args.run.now.header.counts.points c.args.run.now.points) in
    let all : c.args.run.now.header.counts.segments ≤ length c.args.run.now.segments = omega (arith, length-take c.args.run.now.header.counts.segments c.args.run.now.segments) in (
      is_metering _ _ (t.is ∙ time_taken _ _ whole) v.is (corrected.is ∙ corrected_taken _ _ all _ _) (points.orifice.is ∙ orifice_taken _ _ whole) (rw c.of.ensures at pressure.is) (temperature.is ∙ temperature_taken _ _ whole) dry.is vapor.is c.moisture.ensures.is,
      record {
        time_least = t.low;
        time_most = t.high;
        volume = v.high;
        corrected = corrected.high;
        pressure = pressure.high;
        temperature = temperature.high;
        dry = dry.range;
        vapor = vapor.high;
        moisture = c.moisture.ensures.range;
      },
    )
