-- Two loops, along the second side and, inside it, along the first: each turn of the inner one stores a point's two distances.
use Prim.Native.Nat.{◌≤◌, ◌<◌}
use native.Mathlib.Omega.{arith}
use Rattle.arrays.proofs.Filled.{filled_none}
use Rattle.distances.proofs.RectangleLaws.{rectangle_ok, CellsOk, cells_ok}
use Rattle.traverse.proofs.RowLaws.{rows_none, row_none, row_room, row_more, row_all, rows_all}
use Rattle.traverse.proofs.rectangle.Goals as goal
use Rattle.traverse.proofs.rectangle.Goals.{After-cells_of-columns, In-loop-i}

cells : (c : After-cells_of-columns) → CellsOk c.args.points c.cells_of-columns.result.first c.cells_of-columns.result.second
cells c =
    rw (c.cells_of-columns.ensures.1, c.cells_of-columns.ensures.0) (cells_ok _ _ _ ((rectangle_ok _ _ _ c.requires)).points)

-- in a turn of the inner loop there is room for both distances
room : (c : In-loop-i) → c.loop-i.at ≤ 96
room c =
    let below : c.loop-j.j < c.cells_of-columns.result.second = omega arith in
    let inside : c.loop-i.i < c.cells_of-columns.result.first = omega arith in
    let fits = row_room (cells c.before.before.before.before) c.loop-i.invariant below inside in
    omega arith

pub cells_of-columns-requires : goal.cells_of-columns-requires
cells_of-columns-requires c = ((rectangle_ok _ _ _ c.requires)).points

pub loop-j-init : goal.loop-j-init
loop-j-init c = rows_none (filled_none _ _)

pub loop-i-init : goal.loop-i-init
loop-i-init c = row_none c.loop-j.invariant

pub overflow_add-i : goal.overflow_add-i
overflow_add-i c = omega (arith, (cells (goal.at.overflow_add-i c).After-cells_of-columns).columns_few)

pub center-requires : goal.center-requires
center-requires c =
    let ok = cells (goal.at.center-requires c).After-cells_of-columns in
    let all = (rectangle_ok _ _ _ c.requires) in
    omega arith

pub overflow_cast-distances : goal.overflow_cast-distances
overflow_cast-distances c = omega (arith, c.center.ensures.high)

pub offset_bounds-distances-at : goal.offset_bounds-distances-at
offset_bounds-distances-at c = omega (arith, room (goal.at.offset_bounds-distances-at c).In-loop-i)

pub bounds-distances-at : goal.bounds-distances-at
bounds-distances-at c = omega (arith, room (goal.at.bounds-distances-at c).In-loop-i)

pub overflow_add-j : goal.overflow_add-j
overflow_add-j c = omega (arith, (cells (goal.at.overflow_add-j c).After-cells_of-columns).rows_few)

pub center-requires-in-loop-i : goal.center-requires-in-loop-i
center-requires-in-loop-i c =
    let ok = cells (goal.at.center-requires-in-loop-i c).After-cells_of-columns in
    let all = (rectangle_ok _ _ _ c.requires) in
    omega arith

pub overflow_cast-distances-in-loop-i : goal.overflow_cast-distances-in-loop-i
overflow_cast-distances-in-loop-i c = omega (arith, c.center-in-loop-i.ensures.high)

pub overflow_add-distances : goal.overflow_add-distances
overflow_add-distances c = omega (arith, room (goal.at.overflow_add-distances c).In-loop-i)

pub offset_bounds-distances-at-in-loop-i : goal.offset_bounds-distances-at-in-loop-i
offset_bounds-distances-at-in-loop-i c = omega (arith, room (goal.at.offset_bounds-distances-at-in-loop-i c).In-loop-i)

pub bounds-distances-at-in-loop-i : goal.bounds-distances-at-in-loop-i
bounds-distances-at-in-loop-i c = omega (arith, room (goal.at.bounds-distances-at-in-loop-i c).In-loop-i)

pub overflow_add-at : goal.overflow_add-at
overflow_add-at c = omega (arith, room (goal.at.overflow_add-at c).In-loop-i)

pub loop-i-preserved : goal.loop-i-preserved
loop-i-preserved c =
    row_more (cells (goal.at.loop-i-preserved c).After-cells_of-columns) c.loop-i.invariant c.loop-j-test.true c.loop-i-test.true c.center.ensures.is c.center-in-loop-i.ensures.is

pub loop-j-preserved : goal.loop-j-preserved
loop-j-preserved c = row_all c.loop-i.invariant c.loop-j-test.true c.loop-i-test.false

pub returns : goal.returns
returns c =
    rows_all _ c.cells_of-columns.ensures.0 c.cells_of-columns.ensures.1 c.loop-j.invariant c.loop-j-test.false
