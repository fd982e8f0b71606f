-- Lines 16 to 20 together: each call's promise, and the ranges that the next one asks.
use mathlib.Core.Path.{subst⁻¹}
use native.Mathlib.Omega.{arith}
use mir.Facts.{to_z-of_z}
use Rattle.std.proofs.Common.{◌≤◌, length, length-take, ◌∙◌}
use Rattle.sampling.specs.Promise.{CatchOk}
use Rattle.sampling.proofs.Difference.{catch_fits}
use Rattle.sampling.proofs.RunInRange.{weighings_ok}
use Rattle.sampling.proofs.Taken.{weighings_taken, catch_taken}
use Rattle.sampling.proofs.Together.{is_sampling}
use Rattle.sampling.proofs.group.sampling.Goals as goal

pub catch-caught-requires-clause-weighings : goal.catch-caught-requires-clause-weighings
catch-caught-requires-clause-weighings c =
    weighings_taken _ _ (omega (arith, length-take c.args.run.now.header.counts.weighings c.args.run.now.weighings)) (weighings_ok _ c.requires.run)

pub returns : goal.returns
returns c =
    let caught = c.catch-caught.ensures in
    let back = to_z-of_z (catch_fits _ caught.range) in
    let drawn = c.drawn_gas-drawn.ensures in
    let area = c.nozzle_area-area.ensures in
    let percent = c.isokinetic.ensures in
    let grains = c.concentration.ensures in
    let whole : c.args.run.now.header.counts.weighings ≤ length c.args.run.now.weighings = omega (arith, length-take c.args.run.now.header.counts.weighings c.args.run.now.weighings) in (
      is_sampling _ _ _ _ area.is drawn.is (back ∙ (caught.is ∙ catch_taken _ _ whole _)) percent.is grains.is,
      record {
        area = area.range;
        drawn = drawn.range;
        isokinetic = percent.range;
        catch = subst⁻¹ CatchOk back caught.range;
        concentration = grains.range;
      },
    )
