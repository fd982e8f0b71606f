-- One pass that sums second final weights and tares by index.
use native.Mathlib.Omega.{arith}
use Rattle.readings.proofs.Ranges.{within_greatest}
use Rattle.values.proofs.Sums.{summed_none, summed_more, summed_all}
use Rattle.sampling.specs.Sampling.{final_weights, tares}
use Rattle.sampling.proofs.weighing_sums.Goals as goal

pub loop-w-init : goal.loop-w-init
loop-w-init c = (summed_none _ _ _, summed_none _ _ _)

pub loop-w-preserved : goal.loop-w-preserved
loop-w-preserved c =
    let inside = c.loop-w-test.true in
    let sums = c.loop-w.invariant in
    let ok = c.requires.each _ inside in (
      summed_more sums.0 inside (within_greatest _ _ _ ok.second),
      summed_more sums.1 inside (within_greatest _ _ _ ok.tare),
    )

pub returns : goal.returns
unfolding final_weights tares
returns c =
    let sums = c.loop-w.invariant in
    let few = c.requires.few in
    let end = c.loop-w-test.false in
    record {
      finals = record { is = summed_all sums.0 end; low = omega arith; high = omega (arith, sums.0.most, sums.0.past, few) };
      tares = record { is = summed_all sums.1 end; low = omega arith; high = omega (arith, sums.1.most, sums.1.past, few) };
    }
