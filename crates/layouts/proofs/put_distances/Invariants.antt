-- The loop writes one distance a turn, just after those before it.
use Prim.Native.Nat.{◌≤◌}
use lib.ListN.{length}
use Rattle.output.proofs.Records.{Put}
use Rattle.layouts.specs.Outcomes.{distance_size}
use Rattle.layouts.proofs.Distances.{distance_at}
use Rattle.layouts.proofs.put_distances.Given as goal

abbrev pub invariant-loop-i : goal.invariant-loop-i
invariant-loop-i l =
    (l.i ≤ length l.distances) × Put (distance_at l.distances) distance_size l.initial.out l.out l.i
