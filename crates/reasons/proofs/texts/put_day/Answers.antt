-- Five parts, one after another.
use Rattle.characters.specs.Words.{spelled}
use Rattle.reasons.specs.Text.{dated_text}
use Rattle.characters.proofs.Texts.{wrote_five}
use Rattle.reasons.proofs.texts.put_day.Goals as goal

pub returns : goal.returns
unfolding dated_text spelled
returns c = wrote_five _ _ _ _ _ c.requires c.word.ensures c.put_kind.ensures c.put_side.ensures c.put_found.ensures c.word-2.ensures
