-- Near or far, as the definition asks. A point of the far half has its mirror image in the near half because n is even.
use Prim.Native.Nat.{◌-◌}
use mathlib.Core.Path.{◌∙◌, sym, ap}
use native.Mathlib.Omega.{arith}
use Rattle.distances.proofs.PositionLaws.{points_of, near_at, far_at}
use Rattle.distances.proofs.diameters.position.Goals as goal

pub overflow_mul-i : goal.overflow_mul-i
overflow_mul-i c = omega (arith, (points_of c.args.n c.requires.points).most)

pub returns-then-i-n : goal.returns-then-i-n
returns-then-i-n c =
    let near = c.near_position.ensures in
    record { is = near.is ∙ sym (near_at _ _ c.if-i-n.true); high = omega (arith, near.high) }

pub overflow_add-n : goal.overflow_add-n
overflow_add-n c = omega (arith, (points_of c.args.n c.requires.points).most)

pub near_position-requires-2 : goal.near_position-requires-2
near_position-requires-2 c =
    let p = c.requires in
    record { points = p.points; near = (omega arith, omega (arith, (points_of c.args.n p.points).even)) }

pub returns : goal.returns
returns c =
    record {
      is = ap (λ p. 1000 - p) c.near_position-2.ensures.is ∙ sym (far_at _ _ c.if-i-n.false);
      high = omega arith;
    }
