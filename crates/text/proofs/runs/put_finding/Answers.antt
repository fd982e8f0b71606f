-- Five parts, one after another.
use mathlib.Core.List.{◌++◌}
use Rattle.characters.specs.Numbers.{decimal}
use Rattle.characters.specs.Writing.{Room}
use Rattle.characters.proofs.Texts.{room_front, room_first, room_second, room_third, room_fourth, room_fifth, wrote_five}
use Rattle.text.specs.Sheets.{space, newline}
use Rattle.text.specs.Runs.{class_name, finding_text}
use Rattle.text.proofs.runs.put_finding.Goals as goal
use Rattle.text.proofs.runs.put_finding.Goals.{Start}

-- room for the five parts, and for the first four of them
room : (c : Start) → Room c.args.to.now (class_name c.args.f.class ++ decimal c.args.f.rule ++ space ++ decimal c.args.f.place ++ newline)
unfolding finding_text
room c =
    c.requires

pub put_class-requires : goal.put_class-requires
put_class-requires c = room_first _ _ _ _ ((room_front _ _ (room (goal.at.put_class-requires c).Start)))

pub decimal-requires : goal.decimal-requires
decimal-requires c =
    room_second _ _ _ _ ((room_front _ _ (room (goal.at.decimal-requires c).Start))) c.put_class.ensures

pub word-requires : goal.word-requires
word-requires c =
    room_third _ _ _ _ ((room_front _ _ (room (goal.at.word-requires c).Start))) c.put_class.ensures c.decimal.ensures

pub decimal-requires-2 : goal.decimal-requires-2
decimal-requires-2 c =
    room_fourth _ _ _ _ ((room_front _ _ (room (goal.at.decimal-requires-2 c).Start))) c.put_class.ensures c.decimal.ensures c.word.ensures

pub word-requires-2 : goal.word-requires-2
word-requires-2 c =
    room_fifth _ _ _ _ _ (room (goal.at.word-requires-2 c).Start) c.put_class.ensures c.decimal.ensures c.word.ensures c.decimal-2.ensures

pub returns : goal.returns
unfolding finding_text
returns c =
    wrote_five _ _ _ _ _ (room (goal.at.returns c).Start) c.put_class.ensures c.decimal.ensures c.word.ensures c.decimal-2.ensures c.word-2.ensures
