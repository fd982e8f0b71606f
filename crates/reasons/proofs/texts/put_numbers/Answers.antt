-- Five parts, one after another.
use Rattle.characters.specs.Numbers.{signed_decimal}
use Rattle.characters.specs.Words.{spelled}
use Rattle.reasons.specs.Text.{number_text, condition_text}
use Rattle.characters.proofs.Texts.{wrote_five}
use Rattle.reasons.proofs.texts.put_numbers.Goals as goal

pub returns : goal.returns
unfolding condition_text number_text signed_decimal spelled
returns c = wrote_five _ _ _ _ _ c.requires c.word.ensures c.decimal.ensures c.put_way.ensures c.decimal-2.ensures c.put_meaning.ensures
