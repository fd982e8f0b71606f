-- Line 18. Unworked where a line that it needs is missing, and where line 15 is 0; else the division.
use mathlib.Core.Path.{refl, ap}
use native.Mathlib.Omega.{arith}
use Rattle.arith.specs.Rounding.{division}
use Rattle.values.proofs.Promise.{rounded, is_unworked, is_exact}
use Rattle.sampling.proofs.Cases.{isokinetic_no_gas, isokinetic_no_velocity, isokinetic_no_area, isokinetic_still, isokinetic_known}
use Rattle.sampling.proofs.Products.{divisor_least}
use native.Mathlib.Nat.{mul-le-mul_left}
use Prim.Native.Nat.{◌*◌, ◌≤◌}
use Rattle.sampling.proofs.isokinetic.Goals as goal
use Rattle.sampling.proofs.isokinetic.Goals.{Else-speed-eq0}

gas_most : (c : Else-speed-eq0) → c.in_ok-gas.gas ≤ 19675261
gas_most c =
    (c.requires.drawn.known _ c.in_ok-gas.was).1

least : (c : Else-speed-eq0) → 5454 ≤ c.in_ok-speed.speed * c.in_ok-opening.opening * c.args.time
least c =
    divisor_least (omega (arith, c.if-speed-eq0.false)) ((c.requires.area.known _ c.in_ok-opening.was)).0 c.requires.time.0

pub returns-in_err-gas : goal.returns-in_err-gas
returns-in_err-gas c = is_unworked (isokinetic_no_gas _ _ _ c.in_err-gas.was) c.from_residual.ensures

pub returns-in_err-speed : goal.returns-in_err-speed
returns-in_err-speed c = is_unworked (isokinetic_no_velocity _ _ _ c.in_err-speed.was) c.from_residual-in_err-speed.ensures

pub returns-in_err-opening : goal.returns-in_err-opening
returns-in_err-opening c = is_unworked (isokinetic_no_area _ _ _ c.in_err-opening.was) c.from_residual-in_err-opening.ensures

pub returns-then-speed-eq0 : goal.returns-then-speed-eq0
returns-then-speed-eq0 c = is_unworked (isokinetic_still _ _ _ c.in_ok-speed.was c.if-speed-eq0.true) refl

pub returns : goal.returns
unfolding division
returns c =
    let enough = mul-le-mul_left 2164495159515952 (least (goal.at.returns c).Else-speed-eq0) in
    let divided = c.divide.ensures in
    is_exact divided
    (rounded 0 2164495159515952 (omega (arith, least (goal.at.returns c).Else-speed-eq0)) (ap (λ x. x.rounded) divided) (omega arith) (omega (arith, gas_most (goal.at.returns c).Else-speed-eq0, enough)))
    (isokinetic_known _ c.in_ok-gas.was c.in_ok-speed.was c.in_ok-opening.was c.if-speed-eq0.false)
