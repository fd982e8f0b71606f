-- Lines 9 to 15 together: each call's promise, and the ranges that the next one asks.
use mathlib.Core.Path.{◌∙◌, ap}
use Rattle.stack.specs.Stack.{stack_pressure}
use Rattle.stack.proofs.Pressure.{pressure_bits}
use Rattle.stack.proofs.Together.{is_stack}
use Rattle.stack.proofs.group.stack.Goals as goal

pub returns : goal.returns
returns c =
    let density = c.density_root-density.ensures in
    let points = c.stack_points-temperature.ensures in
    let root = points.root in
    let temperature = points.temperature in
    let pressure = c.stack_pressure-pressure.ensures in
    let wet = c.wet_weight-wet.ensures in
    let dry = c.dry_weight-dry.ensures in
    let ground = c.requires.static_pressure in (
      is_stack _ _ _ _ _ _ _ _ dry.is wet.is (pressure.is ∙ ap (stack_pressure _) (pressure_bits _ ground)) temperature.is root.is density.is c.velocity.ensures.is,
      record {
        dry = dry.high;
        wet = wet.range;
        pressure_least = pressure.low;
        pressure_most = pressure.high;
        temperature_least = temperature.low;
        temperature_most = temperature.high;
        root = root.high;
        density = density.range;
        velocity = c.velocity.ensures.range;
      },
    )
