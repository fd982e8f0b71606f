-- `whole_root` is the whole part of the root. The invariant: the bound is one, and not too high to square. The measure is the bound, which falls.
use Rattle.arith.proofs.Search.{Bound}
use Rattle.arith.proofs.whole_root.Given as goal

abbrev pub invariant-loop-bound : goal.invariant-loop-bound
invariant-loop-bound l =
    Bound l.x l.bound

abbrev pub decreases-loop-bound : goal.decreases-loop-bound
decreases-loop-bound l =
    l.bound
