-- Kind by kind.
use Rattle.characters.proofs.Texts.{room_front, wrote_more}
use Rattle.explanations.specs.Written.{days_in}
use Rattle.explanations.proofs.put_days.Goals as goal

pub returns : goal.returns
unfolding days_in
returns g c = wrote_more (wrote_more c.put_sides.ensures c.put_sides-2.ensures (room_front _ _ c.requires)) c.put_sides-3.ensures c.requires
