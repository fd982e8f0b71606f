-- By the sign: a dash and the magnitude, or the magnitude alone.
use Rattle.std.proofs.Common.{◌≡◌, ◌<◌, [], ◌∷◌, ◌++◌, ℤ, pos, negsuc, true, false, refl, add-one, unsigned_abs, arith}
use lib.Signed.{lt_z}
use borrow.Author.Tests.{ltb-true}
use mir.Facts.{to_z-of_z}
use Rattle.characters.specs.Numbers.{decimal, signed_decimal}
use Rattle.characters.proofs.Texts.{room_front, room_behind, wrote_more}
use Rattle.characters.proofs.Writer.signed.Goals as goal
use Rattle.characters.proofs.Writer.signed.Goals.{then-value-lt0, else-value-lt0}

-- the text of each sign
dashed : (z : ℤ) → lt_z z (pos 0) ≡ true → signed_decimal z ≡ (45 ∷ []) ++ decimal (unsigned_abs z)
unfolding signed_decimal
dashed (pos k) e = let none : k < 0 = ltb-true k 0 e in absurd (omega arith)
dashed (negsuc k) e = rw add-one

plain : (z : ℤ) → lt_z z (pos 0) ≡ false → signed_decimal z ≡ decimal (unsigned_abs z)
unfolding signed_decimal
plain (pos k) e = refl
plain (negsuc k) e = cc

pub byte-requires : goal.byte-requires
byte-requires c =
    room_front _ _ (rw (dashed c.args.value (rw (to_z-of_z c.ranges.value) at c.if-value-lt0.true)) at c.requires)

pub decimal-requires : goal.decimal-requires
decimal-requires c =
    let fits = c.ranges.value in
    let size = rw (to_z-of_z fits) at c.unsigned_abs.ensures.value in
    elim c.if-value-lt0.branch [
      | then-value-lt0 w ↦
          let text = dashed c.args.value (rw (to_z-of_z fits) at w.if-value-lt0.true) in
          rw (w.self-is, size) (room_behind _ w.byte.ensures (rw text at c.requires))
      | else-value-lt0 w ↦
          let text = plain c.args.value (rw (to_z-of_z fits) at w.if-value-lt0.false) in
          rw (w.self-is, size) (rw text at c.requires)
    ]

pub returns : goal.returns
returns c =
    let fits = c.ranges.value in
    let size = rw (to_z-of_z fits) at c.unsigned_abs.ensures.value in
    elim c.if-value-lt0.branch [
      | then-value-lt0 w ↦
          let text = dashed c.args.value (rw (to_z-of_z fits) at w.if-value-lt0.true) in
          rw text (wrote_more w.byte.ensures (rw (w.self-is, size) at c.decimal.ensures) (rw text at c.requires))
      | else-value-lt0 w ↦
          let text = plain c.args.value (rw (to_z-of_z fits) at w.if-value-lt0.false) in
          rw text (rw (w.self-is, size) at c.decimal.ensures)
    ]
