-- Three parts, one after another.
use Rattle.characters.specs.Words.{spelled}
use Rattle.reasons.specs.Text.{meaning_text}
use Rattle.characters.proofs.Texts.{room_front, wrote_more}
use Rattle.reasons.proofs.texts.put_meaning.Goals as goal

pub returns : goal.returns
unfolding meaning_text spelled
returns c = wrote_more (wrote_more c.word.ensures c.put_words.ensures (room_front _ _ c.requires)) c.word-2.ensures c.requires
