-- The larger count on the side that is no shorter, the first of two equal ones, and what it leaves on the other.
use Prim.Native.Nat.{◌≤◌, ◌<◌}
use mathlib.Core.Path.{◌∙◌, sym}
use native.Mathlib.Omega.{arith}
use Rattle.distances.proofs.RectangleLaws.{grid_ok, smaller_is, first_longer, first_shorter, second_longer, second_shorter}
use Rattle.distances.proofs.cells.cells_of.Goals as goal

pub nonzero_div-smaller : goal.nonzero_div-smaller
nonzero_div-smaller c = rw c.larger_count-larger.ensures (grid_ok _ c.requires).columns_some

pub returns-then-second-first : goal.returns-then-second-first
returns-then-second-first c =
    let longer : c.args.second ≤ c.args.first = omega arith in
    (c.larger_count-larger.ensures ∙ sym (first_longer _ _ _ longer), rw c.larger_count-larger.ensures (smaller_is _ c.requires ∙ sym (second_shorter _ _ _ longer)))

pub returns-else-second-first : goal.returns-else-second-first
returns-else-second-first c =
    let shorter : c.args.first < c.args.second = omega arith in
    (rw c.larger_count-larger.ensures (smaller_is _ c.requires ∙ sym (first_shorter _ _ _ shorter)), c.larger_count-larger.ensures ∙ sym (second_longer _ _ _ shorter))
