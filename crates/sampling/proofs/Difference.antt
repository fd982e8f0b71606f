-- A difference of two numbers that may be negative, as the machine's signed numbers hold it.
use Prim.Native.Nat.{ℕ, zero, suc, ◌-◌, ◌^◌, ◌≤◌, ◌<◌}
use mathlib.Core.Path.{◌≡◌, refl, sym, ◌∙◌, ap₂}
use mathlib.Core.Bool.{true, false}
use native.Mathlib.Nat.{add-zero, sub-zero}
use native.Mathlib.Omega.{arith}
use borrow.Author.Tests.{le-ltb}
use lib.IntN.{ℤ, pos, negsuc, sub_ℕ, pos-ne-negsuc, ◌-ℤ◌}
use lib.Signed.{lt_z}
use mir.Facts.{to_z_pos}
use mir.Syntax.{w64}
use mir.Val.{SFits, to_z, of_z}
use Rattle.arith.proofs.Differences.{either_sign}
use Rattle.arith.proofs.Signs.{Negative, NotNegative, negative, not_negative}
use Rattle.sampling.specs.Promise.{CatchOk}

-- The difference of two numbers is taken as signed numbers are
sub_signed : (a b : ℕ) → pos a -ℤ pos b ≡ sub_ℕ a b
sub_signed a zero = rw (add-zero, le-ltb a 0 (omega arith), sub-zero)
sub_signed a (suc b) = refl

pub difference : (a b : ℕ) → a < 2 ^ 63 → b < 2 ^ 63 → to_z w64 a -ℤ to_z w64 b ≡ sub_ℕ a b
difference a b ha hb = ap₂ ◌-ℤ◌ (to_z_pos w64 ha) (to_z_pos w64 hb) ∙ sub_signed a b

-- and lies in the catch's range where both do
pub catch_ok : (a b : ℕ) → a ≤ 32000000 → b ≤ 32000099 → CatchOk (sub_ℕ a b)
catch_ok a b ha hb = either_sign CatchOk a b above below
  where
    above : b ≤ a → CatchOk (pos (a - b))
    above h =
        record {
          most = λ n e. let same : a - b ≡ n = cc in omega arith;
          least = λ n e. absurd (pos-ne-negsuc _ n e);
        }

    below : a < b → CatchOk (negsuc (b - suc a))
    below h =
        record {
          most = λ n e. absurd (pos-ne-negsuc n _ (sym e));
          least = λ n e. let same : b - suc a ≡ n = cc in omega arith;
        }

pub catch_fits : (z : ℤ) → CatchOk z → SFits w64 z
catch_fits (pos n) ok = record { sfits = omega (arith, ok.most n refl) }
catch_fits (negsuc n) ok = record { sfits = omega (arith, ok.least n refl) }

-- a catch that is below zero, and one that is not
pub lost : (z : ℤ) → CatchOk z → lt_z (to_z w64 (of_z w64 z)) (pos 0) ≡ true → Negative w64 z
lost z ok e = negative w64 z (catch_fits z ok) e

pub caught : (z : ℤ) → CatchOk z → lt_z (to_z w64 (of_z w64 z)) (pos 0) ≡ false → NotNegative w64 z
caught z ok e = not_negative w64 z (catch_fits z ok) e
