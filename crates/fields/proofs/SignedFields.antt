-- A signed field read back from its bits.
use Prim.Native.Nat.{◌<◌}
use mathlib.Core.Path.{◌≡◌, ◌∙◌}
use borrow.Author.Rules.{sfits_of}
use lib.IntN.{ℤ}
use lib.Signed.{mag}
use mir.Syntax.{w16}
use mir.Val.{to_z, of_z}
use mir.Facts.{to_z-of_z}

pub read_back : {z y : ℤ} → mag z < 32768 → z ≡ y → to_z w16 (of_z w16 z) ≡ y
read_back h e = to_z-of_z {w = w16} (sfits_of h) ∙ e
