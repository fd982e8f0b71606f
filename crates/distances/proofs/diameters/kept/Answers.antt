-- The margin is no more than the width without it, so the two choices may stand in either order.
use native.Mathlib.Omega.{arith}
use Rattle.distances.specs.Round.{kept}
use Rattle.distances.proofs.diameters.kept.Goals as goal

pub returns : goal.returns
unfolding kept
returns c = rw c.clamp.ensures (omega arith)
