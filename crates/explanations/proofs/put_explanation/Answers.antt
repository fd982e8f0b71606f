-- Its head, its conditions, its days.
use borrow.Author.Rules.{rules}
use mathlib.Core.Path.{refl}
use Rattle.characters.proofs.Texts.{room_front, wrote_more, room_at_front, wrote_front}
use Rattle.explanations.specs.Written.{written}
use Rattle.explanations.proofs.put_explanation.Goals as goal

pub returns : goal.returns
unfolding written
returns g c =
    let room = room_at_front c.requires refl in
    let front = wrote_front (wrote_more (wrote_more c.put_head.ensures c.put_ground.ensures (room_front _ _ room)) c.put_days.ensures room) refl in
    search rules
