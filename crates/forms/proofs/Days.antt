-- A certificate day that is not used has no entry, and one that is used is written by what was found.
use Rattle.std.specs.Prelude.{Option, Some, None}
use Prim.Native.Nat.{ℕ}
use mathlib.Core.Path.{◌≡◌, refl}
use mathlib.Core.List.{[], ◌∷◌, ◌++◌}
use Rattle.dates.specs.declared.Day.TheVariants.{Unused}
use Rattle.output.specs.Bytes.{le}
use Rattle.reasons.specs.Bytes.{day_bytes}
use Rattle.reasons.specs.Text.{dated_text, day_text}
use Rattle.forms.specs.Forms.{Form, Bytes, Text, day_in, nearest}

pub unused : (form : Form) (kind side : ℕ) → day_in form kind side Unused ≡ []
unfolding day_in day_bytes day_text
unused Bytes kind side = refl
unused Text kind side = refl

pub dated_bytes : (kind side : ℕ) {found : Option ℕ} {day : ℕ} → found ≡ Some day → day_bytes kind side (nearest found) ≡ (kind ∷ side ∷ []) ++ (1 ∷ []) ++ le 2 day
unfolding day_bytes
dated_bytes kind side e = rw e

pub undated_bytes : (kind side : ℕ) {found : Option ℕ} → found ≡ None → day_bytes kind side (nearest found) ≡ (kind ∷ side ∷ []) ++ (0 ∷ []) ++ le 2 0
unfolding day_bytes
undated_bytes kind side e = rw e

-- the bytes of a day, by whether one was found
pub ruleset as_bytes = (dated_bytes, undated_bytes)

pub as_text : (kind side : ℕ) (day : Option ℕ) → day_text kind side (nearest day) ≡ dated_text kind side day
unfolding day_text
as_text kind side None = refl
as_text kind side (Some day) = refl
