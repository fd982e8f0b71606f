-- `whole_root` is the whole part of the root. The invariant: the bound is one, and not too high to square. The measure is the bound, which falls.
use native.Mathlib.Nat.{mul-le-mul}
use native.Mathlib.Omega.{arith}
use Rattle.arith.proofs.Search.{first_bounds, next_bounds, mean_below, bound_is}
use Rattle.arith.proofs.whole_root.Goals as goal

pub loop-bound-init : goal.loop-bound-init
loop-bound-init c = rw c.first_bound-bound.ensures (first_bounds _ c.ranges.x.fits)

pub overflow_mul-bound : goal.overflow_mul-bound
overflow_mul-bound c = omega (arith, mul-le-mul c.loop-bound.invariant.small c.loop-bound.invariant.small)

pub nonzero_div-bound : goal.nonzero_div-bound
nonzero_div-bound c = (mean_below _ _ c.loop-bound-test.true).0

pub overflow_add-bound : goal.overflow_add-bound
overflow_add-bound c = omega (arith, (mean_below _ _ c.loop-bound-test.true).1.0)

pub loop-bound-smaller : goal.loop-bound-smaller
loop-bound-smaller c = (mean_below _ _ c.loop-bound-test.true).1.1

pub loop-bound-preserved : goal.loop-bound-preserved
loop-bound-preserved c = next_bounds _ _ c.loop-bound.invariant c.loop-bound-test.true

pub returns : goal.returns
returns c = bound_is _ _ c.ranges.x.fits c.loop-bound.invariant c.loop-bound-test.false
