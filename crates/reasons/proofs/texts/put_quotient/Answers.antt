-- Three parts, one after another.
use Rattle.characters.specs.Numbers.{signed_decimal}
use Rattle.characters.specs.Words.{spelled}
use Rattle.reasons.specs.Text.{number_text}
use Rattle.characters.proofs.Texts.{room_front, wrote_more}
use Rattle.reasons.proofs.texts.put_quotient.Goals as goal

pub returns : goal.returns
unfolding number_text signed_decimal spelled
returns c = wrote_more (wrote_more c.decimal.ensures c.word.ensures (room_front _ _ c.requires)) c.decimal-2.ensures c.requires
