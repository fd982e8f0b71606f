-- Five parts, one after another.
use mir.Facts.{to_z-of_z}
use Rattle.characters.specs.Words.{spelled}
use Rattle.reasons.specs.Text.{number_text, condition_text}
use Rattle.characters.proofs.Texts.{room_front, room_fourth, room_fifth, wrote_five}
use Rattle.reasons.proofs.texts.put_below.Goals as goal

pub signed-requires-2 : goal.signed-requires-2
unfolding condition_text number_text spelled
signed-requires-2 c =
    rw (to_z-of_z c.ranges.right) (room_fourth _ _ _ _ (room_front _ _ c.requires) c.word.ensures (rw (to_z-of_z c.ranges.left) at c.signed.ensures) c.put_way.ensures)

pub put_meaning-requires : goal.put_meaning-requires
unfolding condition_text number_text spelled
put_meaning-requires c =
    room_fifth _ _ _ _ _ c.requires c.word.ensures (rw (to_z-of_z c.ranges.left) at c.signed.ensures) c.put_way.ensures (rw (to_z-of_z c.ranges.right) at c.signed-2.ensures)

pub returns : goal.returns
unfolding condition_text number_text spelled
returns c =
    wrote_five _ _ _ _ _ c.requires c.word.ensures (rw (to_z-of_z c.ranges.left) at c.signed.ensures) c.put_way.ensures (rw (to_z-of_z c.ranges.right) at c.signed-2.ensures) c.put_meaning.ensures
