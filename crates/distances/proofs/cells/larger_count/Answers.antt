-- The count rises until its square is not below the number of points; it never passes the larger count.
use Prim.Native.Nat.{ℕ, ◌*◌, ◌≤◌}
use mathlib.Core.Path.{◌≡◌}
use mathlib.Core.Bool.{true}
use native.Mathlib.Nat.{mul-le-mul}
use native.Mathlib.Omega.{arith}
use Rattle.grids.specs.Grids.{grid_points}
use Rattle.distances.specs.Rectangle.{grid_of}
use Rattle.distances.proofs.RectangleLaws.{grid_ok, count_below, count_reached}
use Rattle.distances.proofs.cells.larger_count.Goals as goal

-- no count is too high to square
few : (n c : ℕ) → grid_points n ≡ true → c ≤ (grid_of n).larger → c ≤ 7
few n c e h = omega (arith, (grid_ok n e).columns_few)

pub loop-count-init : goal.loop-count-init
loop-count-init c = (grid_ok _ c.requires).columns_some

pub overflow_mul-count : goal.overflow_mul-count
overflow_mul-count c =
    let small = few _ _ c.requires c.loop-count.invariant in
    let square : c.loop-count.count * c.loop-count.count ≤ 7 * 7 = mul-le-mul small small in
    omega arith

pub overflow_add-count : goal.overflow_add-count
overflow_add-count c = omega (arith, few _ _ c.requires c.loop-count.invariant)

pub loop-count-smaller : goal.loop-count-smaller
loop-count-smaller c = omega (arith, (count_below _ _ c.requires c.loop-count-test.true))

pub loop-count-preserved : goal.loop-count-preserved
loop-count-preserved c = omega (arith, (count_below _ _ c.requires c.loop-count-test.true))

pub returns : goal.returns
returns c = count_reached _ _ c.requires c.loop-count.invariant c.loop-count-test.false
