-- The numbers of points one after another; those below n are passed.
use Prim.Native.Nat.{◌≤◌}
use Rattle.grids.specs.Grids.{grid_numbers}
use Rattle.grids.proofs.Grids.{Passed}
use Rattle.grids.proofs.GridPoints.next.Given as goal

abbrev pub invariant-loop-grid : goal.invariant-loop-grid
invariant-loop-grid l =
    (l.grid-index ≤ 9) × Passed grid_numbers l.n l.grid-index
