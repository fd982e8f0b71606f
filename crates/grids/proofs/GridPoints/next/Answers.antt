-- The numbers of points one after another; those below n are passed.
use mathlib.Core.Path.{◌≡◌, sym}
use native.Mathlib.Omega.{arith}
use Rattle.grids.specs.Grids.{grid_numbers, next_of, next_grid}
use Rattle.grids.proofs.Grids.{Passed, passed_none, passed_more, next_found}
use Rattle.grids.proofs.GridPoints.next.Goals as goal

pub loop-grid-init : goal.loop-grid-init
loop-grid-init c = (omega arith, passed_none _ _)

pub returns-then-n-grid : goal.returns-then-n-grid
unfolding next_grid
returns-then-n-grid c = next_found grid_numbers _ _ c.loop-grid-test.true c.loop-grid.invariant.1 c.if-n-grid.true

pub loop-grid-preserved : goal.loop-grid-preserved
loop-grid-preserved c =
    (omega arith, passed_more grid_numbers _ _ c.loop-grid-test.true c.loop-grid.invariant.1 c.if-n-grid.false)

pub returns : goal.returns
unfolding next_grid next_of
returns c =
    let end : c.loop-grid.grid-index ≡ 9 = omega arith in
    let past : Passed grid_numbers _ 9 = rw end at c.loop-grid.invariant.1 in
    sym past.next
