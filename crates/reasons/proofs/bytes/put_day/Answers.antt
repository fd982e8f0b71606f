-- Three parts, one after another.
use Rattle.characters.proofs.Texts.{room_front, wrote_more}
use Rattle.reasons.proofs.bytes.put_day.Goals as goal

pub returns : goal.returns
returns c =
    wrote_more (wrote_more c.put_pair.ensures c.byte.ensures (room_front _ _ c.requires)) c.number.ensures c.requires
