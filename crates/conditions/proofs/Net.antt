-- The larger of 500 and a net is the same where the tare is taken off down to 0 and no further.
use Prim.Native.Nat.{ℕ, ◌-◌, ◌*◌, max}
use mathlib.Core.Path.{◌≡◌, refl}
use native.Mathlib.Omega.{arith}
use lib.IntN.{sub_ℕ}
use Rattle.arith.proofs.Differences.{either_sign}
use Rattle.conditions.specs.Conditions.{greatest_difference, steady_limit}

pub limit_of_net : (a b : ℕ) → steady_limit (sub_ℕ a b) ≡ max (100 * greatest_difference) (a - b)
unfolding steady_limit
limit_of_net a b =
    either_sign (λ z. steady_limit z ≡ max (100 * greatest_difference) (a - b)) a b (λ some. refl) (λ lost. omega (arith, lost))
