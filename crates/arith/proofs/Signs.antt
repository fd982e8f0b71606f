-- A signed number of any width as its bits show it: below zero by its complement, otherwise as it is.
use Prim.Native.Nat.{ℕ, suc, ◌-◌, ◌^◌, ◌≤◌, ◌<◌}
use mathlib.Core.Path.{◌≡◌, refl}
use mathlib.Core.Bool.{true, false, true≢false}
use native.Mathlib.Nat.{lt_of_lt_of_le}
use native.Mathlib.Omega.{arith}
use borrow.Author.Tests.{ltb-true}
use lib.Dec.{lit≤}
use lib.IntN.{ℤ, pos, negsuc}
use lib.Signed.{lt_z}
use mir.Facts.{to_z-of_z, to_z_pos}
use mir.Syntax.{Width, w8, w16, w32, w64, w128}
use mir.Val.{SFits, bits, hbits, to_z, of_z}

-- z is below zero by n + 1, and n is what complementing its bits gives
pub record Negative (w : Width) (z : ℤ) : Type 0 where
  pub size : ℕ
  pub is : z ≡ negsuc size
  pub shown : to_z w (2 ^ bits w - 1 - of_z w z) ≡ pos size
  pub back : 2 ^ bits w - 1 - size ≡ of_z w z
  pub small : size < 2 ^ hbits w

-- z is n
pub record NotNegative (w : Width) (z : ℤ) : Type 0 where
  pub size : ℕ
  pub is : z ≡ pos size
  pub shown : to_z w (of_z w z) ≡ pos size
  pub back : size ≡ of_z w z
  pub small : size < 2 ^ hbits w

half_le : (w : Width) → 2 ^ hbits w ≤ 2 ^ bits w
half_le w8 = lit≤ tt
half_le w16 = lit≤ tt
half_le w32 = lit≤ tt
half_le w64 = lit≤ tt
half_le w128 = lit≤ tt

below : (w : Width) (z : ℤ) → SFits w z → lt_z z (pos 0) ≡ true → Negative w z
below w (pos n) fits e = let h : n < 0 = ltb-true n 0 e in absurd (omega arith)
below w (negsuc n) fits e =
    let inside : n < 2 ^ bits w = lt_of_lt_of_le fits.sfits (half_le w) in
    let twice : 2 ^ bits w - 1 - (2 ^ bits w - suc n) ≡ n = omega arith in
    record { size = n; is = refl; shown = rw twice (to_z_pos w fits.sfits); back = omega arith; small = fits.sfits }

not_below : (w : Width) (z : ℤ) → SFits w z → lt_z z (pos 0) ≡ false → NotNegative w z
not_below w (pos n) fits e = record { size = n; is = refl; shown = to_z-of_z fits; back = refl; small = fits.sfits }
not_below w (negsuc n) fits e = absurd (true≢false e)

-- what the machine's test says of a signed number
pub negative : (w : Width) (z : ℤ) → SFits w z → lt_z (to_z w (of_z w z)) (pos 0) ≡ true → Negative w z
negative w z fits e = below w z fits (rw (to_z-of_z fits) at e)

pub not_negative : (w : Width) (z : ℤ) → SFits w z → lt_z (to_z w (of_z w z)) (pos 0) ≡ false → NotNegative w z
not_negative w z fits e = not_below w z fits (rw (to_z-of_z fits) at e)
