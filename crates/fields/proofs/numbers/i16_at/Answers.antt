-- `i16_at` is `i16_at`: the code's value has the bits that were read.
use mathlib.Core.Path.{◌∙◌, ap}
use mir.Syntax.{w16}
use mir.Val.{to_z}
use Rattle.fields.specs.Numbers.{i16_at}
use Rattle.fields.proofs.SignedFields.{read_back}
use Rattle.fields.proofs.numbers.i16_at.Goals as goal

pub returns : goal.returns
unfolding i16_at
returns c = read_back c.cast_signed.type_inv (c.cast_signed.ensures ∙ ap (to_z w16) c.u16_at.ensures)
