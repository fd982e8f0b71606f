-- Five parts, one after another.
use Rattle.characters.specs.Words.{spelled}
use Rattle.reasons.specs.Text.{condition_text}
use Rattle.characters.proofs.Texts.{wrote_five}
use Rattle.reasons.proofs.texts.put_exactly.Goals as goal

pub returns : goal.returns
unfolding condition_text spelled
returns c = wrote_five _ _ _ _ _ c.requires c.word.ensures c.put_quotient.ensures c.put_way.ensures c.put_quotient-2.ensures c.put_meaning.ensures
