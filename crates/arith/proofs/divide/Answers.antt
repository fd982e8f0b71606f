-- `divide` divides and rounds: the remainder against what is left of the divisor decides, by `round_up` and `round_down`.
use Prim.Native.Nat.{ℕ, ◌+◌, ◌-◌, ◌*◌, ◌/◌, ◌%◌, ◌≤◌, ◌<◌}
use mathlib.Core.Path.{◌≡◌}
use native.Mathlib.Nat.{mod-lt, le_of_lt, div-add-mod', le-mul_of_pos_right}
use native.Mathlib.Omega.{arith}
use Rattle.arith.specs.Rounding.{division}
use Rattle.arith.proofs.Rounding.{round_up, round_down}
use Rattle.arith.proofs.divide.Goals as goal

-- where the half is reached the remainder is not 0, so one more is still at most n
next_le : (n d : ℕ) → 0 < d → d - n % d ≤ n % d → n / d + 1 ≤ n
next_le n d h up =
    let parts : n / d * d + n % d ≡ n = div-add-mod' n d in
    let whole : n / d ≤ n / d * d = le-mul_of_pos_right (n / d) h in
    omega arith

pub overflow_sub-d : goal.overflow_sub-d
overflow_sub-d c = le_of_lt (mod-lt _ c.requires)

pub overflow_add-rounded : goal.overflow_add-rounded
overflow_add-rounded c = omega (arith, next_le _ _ c.requires c.if-d-remainder.true)

pub returns-then-d-remainder : goal.returns-then-d-remainder
unfolding division
returns-then-d-remainder c = rw (round_up _ _ c.requires c.if-d-remainder.true)

pub returns-else-d-remainder : goal.returns-else-d-remainder
unfolding division
returns-else-d-remainder c = rw (round_down _ _ c.requires c.if-d-remainder.false)
