-- Lines 10, 14 and 15 case by case.
use Rattle.std.specs.Prelude.{Option, Some, None}
use Prim.Native.Nat.{ℕ, ◌+◌, ◌-◌, ◌*◌, ◌/◌, ◌^◌}
use mathlib.Core.Path.{◌≡◌, refl}
use Rattle.arith.specs.Rounding.{round_div}
use Rattle.arith.specs.Root.{nearest_root}
use Rattle.stack.specs.Stack.{wet_weight, density_root, velocity}

-- Line 10
pub wet_missing : {m : Option ℕ} (dry : ℕ) → m ≡ None → wet_weight dry m ≡ None
unfolding wet_weight
wet_missing dry e = rw e

pub wet_known : {m : Option ℕ} {w : ℕ} (dry : ℕ) → m ≡ Some w → wet_weight dry m ≡ Some (round_div (dry * (100000 - w) + 18000 * w) 100000)
unfolding wet_weight
wet_known dry e = rw e

-- Line 14
pub density_missing : {wet : Option ℕ} (p t : ℕ) → wet ≡ None → density_root wet p t ≡ None
unfolding density_root
density_missing p t e = rw e

pub density_known : {wet : Option ℕ} {w : ℕ} (p t : ℕ) → wet ≡ Some w → density_root wet p t ≡ Some (nearest_root (4 * 10 ^ 14 * t / (p * w)))
unfolding density_root
density_known p t e = rw e

-- Line 15
pub velocity_no_cp : {cp : Option ℕ} (mean : ℕ) (density : Option ℕ) → cp ≡ None → velocity cp mean density ≡ None
unfolding velocity
velocity_no_cp mean density e = rw e

pub velocity_no_density : {density : Option ℕ} (cp : Option ℕ) (mean : ℕ) → density ≡ None → velocity cp mean density ≡ None
unfolding velocity
velocity_no_density None mean d = refl
velocity_no_density (Some k) mean d = rw d

pub velocity_known : {cp density : Option ℕ} {k q : ℕ} (mean : ℕ) → cp ≡ Some k → density ≡ Some q → velocity cp mean density ≡ Some (round_div (8549 * k * mean * q) (10 ^ 11))
unfolding velocity
velocity_known mean e d = rw (e, d)
