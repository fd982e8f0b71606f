-- Lines 6 and 8 case by case.
use Rattle.std.specs.Prelude.{Option, Some, None}
use Prim.Native.Nat.{ℕ, ◌+◌, ◌*◌, ◌^◌}
use mathlib.Core.Path.{◌≡◌, refl}
use Rattle.arith.specs.Rounding.{round_div}
use Rattle.values.proofs.Promise.{unless_zero_lem, unless_some}
use Rattle.metering.specs.Metering.{dry_volume, moisture}

-- Line 6
pub dry_missing : {y : Option ℕ} (corrected p t : ℕ) → y ≡ None → dry_volume corrected y p t ≡ None
unfolding dry_volume
dry_missing corrected p t e = rw e

pub dry_zero : {corrected : ℕ} (y : Option ℕ) (p t : ℕ) → corrected ≡ 0 → dry_volume corrected y p t ≡ None
unfolding dry_volume
dry_zero None p t z = refl
dry_zero (Some f) p t z = unless_zero_lem _ z

pub dry_known : {y : Option ℕ} {f : ℕ} (corrected p t : ℕ) → y ≡ Some f → (corrected ≡ 0 → ⊥) → dry_volume corrected y p t ≡ Some (round_div (1764 * corrected * f * p) (10 ^ 9 * t))
unfolding dry_volume
dry_known corrected p t e some = rw e (unless_some corrected _ some)

-- Line 8
pub moisture_missing : {dry : Option ℕ} (vapor : ℕ) → dry ≡ None → moisture dry vapor ≡ None
unfolding moisture
moisture_missing vapor e = rw e

pub moisture_known : {dry : Option ℕ} {v : ℕ} (vapor : ℕ) → dry ≡ Some v → moisture dry vapor ≡ Some (round_div (100000 * vapor) (v + vapor))
unfolding moisture
moisture_known vapor e = rw e
