-- Two bytes, one after the other.
use Rattle.characters.proofs.Texts.{wrote_more}
use Rattle.reasons.proofs.bytes.put_pair.Goals as goal

pub returns : goal.returns
returns c = wrote_more c.byte.ensures c.byte-2.ensures c.requires
