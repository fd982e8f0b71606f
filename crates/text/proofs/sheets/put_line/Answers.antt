-- Four parts, one after another.
use mathlib.Core.List.{◌++◌}
use Rattle.characters.specs.Numbers.{decimal}
use Rattle.characters.specs.Writing.{Room}
use Rattle.characters.proofs.Texts.{room_first, room_second, room_third, room_fourth, wrote_four}
use Rattle.text.specs.Sheets.{space, newline, value_text, line_text}
use Rattle.text.proofs.sheets.put_line.Goals as goal
use Rattle.text.proofs.sheets.put_line.Goals.{Start}

-- room for the parts of a line
room : (c : Start) → Room c.args.to.now (decimal c.args.number ++ space ++ value_text c.args.entry.line ++ newline)
unfolding line_text
room c =
    c.requires

pub decimal-requires : goal.decimal-requires
decimal-requires c = room_first _ _ _ _ (room (goal.at.decimal-requires c).Start)

pub word-requires : goal.word-requires
word-requires c = room_second _ _ _ _ (room (goal.at.word-requires c).Start) c.decimal.ensures

pub put_value-requires : goal.put_value-requires
put_value-requires c =
    room_third _ _ _ _ (room (goal.at.put_value-requires c).Start) c.decimal.ensures c.word.ensures

pub word-requires-2 : goal.word-requires-2
word-requires-2 c =
    room_fourth _ _ _ _ (room (goal.at.word-requires-2 c).Start) c.decimal.ensures c.word.ensures c.put_value.ensures

pub returns : goal.returns
unfolding line_text
returns c =
    wrote_four _ _ _ _ (room (goal.at.returns c).Start) c.decimal.ensures c.word.ensures c.put_value.ensures c.word-2.ensures
