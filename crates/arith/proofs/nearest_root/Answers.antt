-- `nearest_root` is the root: the odd number in the middle between the whole part of the half and one more decides, by `nearest_up` and `nearest_down`.
use Prim.Native.Nat.{◌+◌, ◌*◌, ◌≤◌}
use native.Mathlib.Nat.{mul-le-mul}
use native.Mathlib.Omega.{arith}
use Rattle.arith.proofs.Search.{half_most, nearest_up, nearest_down}
use Rattle.arith.proofs.nearest_root.Goals as goal

pub overflow_mul-odd : goal.overflow_mul-odd
overflow_mul-odd c = omega (arith, half_most _ _ c.ranges.y.fits c.whole_root-whole.ensures)

pub overflow_add-odd : goal.overflow_add-odd
overflow_add-odd c = omega (arith, half_most _ _ c.ranges.y.fits c.whole_root-whole.ensures)

pub overflow_mul-odd-2 : goal.overflow_mul-odd-2
overflow_mul-odd-2 c =
    let odd : 2 * c.whole_root-whole.result + 1 ≤ 4294967295 = omega (arith, half_most _ _ c.ranges.y.fits c.whole_root-whole.ensures) in
    omega (arith, mul-le-mul odd odd)

pub returns-then-odd-y : goal.returns-then-odd-y
returns-then-odd-y c = nearest_up _ _ c.ranges.y.fits c.whole_root-whole.ensures c.if-odd-y.true

pub returns-else-odd-y : goal.returns-else-odd-y
returns-else-odd-y c = nearest_down _ _ c.ranges.y.fits c.whole_root-whole.ensures c.if-odd-y.false
