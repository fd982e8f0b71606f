-- The count rises until its square is not below the number of points; it never passes the larger count.
use Prim.Native.Nat.{◌-◌, ◌≤◌}
use Rattle.distances.specs.Rectangle.{grid_of}
use Rattle.distances.proofs.cells.larger_count.Given as goal

abbrev pub invariant-loop-count : goal.invariant-loop-count
invariant-loop-count l =
    l.count ≤ (grid_of l.points).larger

abbrev pub decreases-loop-count : goal.decreases-loop-count
decreases-loop-count l =
    (grid_of l.points).larger - l.count
