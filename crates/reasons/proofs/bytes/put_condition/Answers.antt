-- Five parts, one after another.
use Rattle.characters.proofs.Texts.{wrote_five}
use Rattle.reasons.proofs.bytes.put_condition.Goals as goal

pub returns : goal.returns
returns c = wrote_five _ _ _ _ _ c.requires (rw c.way_number.ensures at c.put_pair.ensures) c.number.ensures c.number-2.ensures c.number-3.ensures c.number-4.ensures
