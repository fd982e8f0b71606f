-- Line 20. Missing without line 6 and where the catch is negative; else the rounded quotient.
use native.Mathlib.Omega.{arith}
use Rattle.metering.specs.Promise.{least_dry_volume}
use Rattle.values.proofs.Promise.{rounded, is_missing, is_known}
use Rattle.sampling.proofs.Cases.{concentration_no_volume, concentration_negative, concentration_known}
use Rattle.sampling.proofs.Difference.{caught, lost}
use mathlib.Core.Path.{refl, ◌∙◌, ap}
use lib.IntN.{nat_abs}
use Prim.Native.Nat.{◌*◌, ◌≤◌}
use native.Mathlib.Nat.{mul-le-mul_left}
use Rattle.arith.specs.Rounding.{round_div}
use Rattle.sampling.proofs.concentration.Goals as goal
use Rattle.sampling.proofs.concentration.Goals.{Else-caught-lt0}

volume_least : (c : Else-caught-lt0) → least_dry_volume ≤ c.in_ok-volume.volume
volume_least c =
    omega (arith, c.requires.1.known _ c.in_ok-volume.was)

pub returns-in_err-volume : goal.returns-in_err-volume
returns-in_err-volume c = is_missing (concentration_no_volume _ c.in_err-volume.was) c.from_residual.ensures

pub returns-then-caught-lt0 : goal.returns-then-caught-lt0
returns-then-caught-lt0 c = is_missing (concentration_negative _ (lost _ c.requires.0 c.if-caught-lt0.true).is) refl

pub returns : goal.returns
returns c =
    let s = (caught _ c.requires.0 c.if-caught-lt0.false) in
    let enough = mul-le-mul_left 4937600000000 (volume_least (goal.at.returns c).Else-caught-lt0) in
    is_known
    (rounded 0 4937600000000 (volume_least (goal.at.returns c).Else-caught-lt0) (c.round_div.ensures ∙ ap (λ z. round_div (154300 * nat_abs z) c.in_ok-volume.volume) s.shown) (omega arith) (omega (arith, (c.requires.0.most _ ((caught _ c.requires.0 c.if-caught-lt0.false)).is), enough)))
    (concentration_known s.is c.in_ok-volume.was)
