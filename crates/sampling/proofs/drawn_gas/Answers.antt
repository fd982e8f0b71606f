-- Line 17. Missing without line 6; else the rounded quotient.
use native.Mathlib.Omega.{arith}
use Rattle.values.proofs.Promise.{rounded, is_missing, is_known}
use Rattle.sampling.proofs.Cases.{drawn_missing, drawn_known}
use Rattle.sampling.proofs.Products.{drawn_numerator}
use Prim.Native.Nat.{◌+◌, ◌*◌, ◌≤◌}
use Rattle.sampling.proofs.drawn_gas.Goals as goal
use Rattle.sampling.proofs.drawn_gas.Goals.{In_ok-volume}

numerator_most : (c : In_ok-volume) → 945 * c.args.temperature * (c.in_ok-volume.volume + c.args.vapor) ≤ 35010353952000
numerator_most c =
    drawn_numerator c.requires.ranges.3 (omega (arith, ((c.requires.dry.known _ c.in_ok-volume.was).1), c.requires.ranges.0))

pub returns-in_err-volume : goal.returns-in_err-volume
returns-in_err-volume c = is_missing (drawn_missing _ _ _ c.in_err-volume.was) c.from_residual.ensures

pub returns : goal.returns
returns c =
    is_known
    (rounded 0 19675261 (omega arith) c.round_div.ensures (omega arith) (omega (arith, numerator_most (goal.at.returns c).In_ok-volume)))
    (drawn_known _ _ _ c.in_ok-volume.was)
