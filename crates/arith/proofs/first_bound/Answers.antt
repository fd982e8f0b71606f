-- `first_bound` is `first_bound`: the shift to the left is a power of two, which fits, and the shift to the right divides by it.
use Prim.Native.Nat.{ℕ, ◌*◌, ◌/◌, ◌%◌, ◌^◌, ◌<◌}
use mathlib.Core.Path.{◌≡◌}
use native.Mathlib.Nat.{one-mul, mod-eq_of_lt}
use native.Mathlib.Omega.{arith}
use lib.Count.{leading_le}
use Rattle.arith.specs.Root.{bit_length, first_bound}
use Rattle.arith.proofs.Search.{half_length}
use Rattle.arith.proofs.first_bound.Goals as goal

-- the power of two as the code works it
power : (x : ℕ) → x < 2 ^ 64 → 1 * 2 ^ (bit_length x / 2) % 2 ^ 64 ≡ 2 ^ (bit_length x / 2)
power x fits =
    let inside : 2 ^ (bit_length x / 2) < 2 ^ 64 = omega (arith, (half_length x fits).0) in
    rw (one-mul, mod-eq_of_lt inside)

pub overflow_sub-half : goal.overflow_sub-half
overflow_sub-half c = leading_le 64 _

pub overflow_add-result : goal.overflow_add-result
overflow_add-result c =
    let x = c.args.x in
    let fits = c.ranges.x.fits in
    omega (arith, power x fits, (half_length x fits).0, (half_length x fits).1)

pub returns : goal.returns
unfolding first_bound
returns c = rw (power c.args.x c.ranges.x.fits)
