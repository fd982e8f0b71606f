-- The definition's own root, which is at most half the diameter; that the result is at most 499 is part of the rule.
use native.Mathlib.Omega.{arith}
use Rattle.distances.specs.Positions.{near_position}
use Rattle.distances.proofs.PositionLaws.{points_of, near_is, root_most}
use Rattle.distances.proofs.diameters.near_position.Goals as goal

pub overflow_mul-n : goal.overflow_mul-n
overflow_mul-n c = omega (arith, (points_of c.args.n c.requires.points).most)

pub overflow_sub-result : goal.overflow_sub-result
overflow_sub-result c =
    let p = c.requires in
    omega (arith, c.nearest_root.ensures, root_most (points_of c.args.n p.points) p.near.0 p.near.1)

pub returns : goal.returns
unfolding near_position
returns c =
    let p = c.requires in
    record {
      is = rw c.nearest_root.ensures;
      high = rw c.nearest_root.ensures (near_is (points_of _ p.points) p.near.0 p.near.1).near;
    }
