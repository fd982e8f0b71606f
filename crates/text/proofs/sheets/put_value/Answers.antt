-- By the two cases of a line.
use Rattle.std.specs.Prelude.{Option, Some}
use Prim.Native.Nat.{◌^◌, ◌<◌}
use mathlib.Core.Path.{◌≡◌}
use native.Mathlib.Omega.{arith}
use lib.IntN.{ℤ}
use lib.Signed.{mag}
use mir.Facts.{to_z-of_z}
use mir.Syntax.{w64}
use mir.Val.{to_z, of_z}
use Rattle.characters.specs.Numbers.{signed_decimal}
use Rattle.text.specs.Sheets.{value_text}
use Rattle.text.proofs.sheets.put_value.Goals as goal

-- the text of a line that is there
present_text : {line : Option ℤ} {z : ℤ} → line ≡ Some z → mag z < 2 ^ 63 → value_text line ≡ signed_decimal (to_z w64 (of_z w64 z))
unfolding value_text
present_text e small = rw (e, to_z-of_z {w = w64} (record { sfits = small }))

pub word-requires : goal.word-requires
unfolding value_text
word-requires c = rw c.in-None.is at c.requires

pub returns-in-None : goal.returns-in-None
unfolding value_text
returns-in-None c = rw c.in-None.is c.word.ensures

pub signed-requires : goal.signed-requires
signed-requires c = rw (present_text c.in-Some.is (omega arith)) at c.requires

pub returns-in-Some : goal.returns-in-Some
returns-in-Some c =
    rw (present_text c.in-Some.is (omega arith)) c.signed.ensures
