-- Five parts, one after another.
use mathlib.Core.List.{◌++◌}
use Rattle.characters.specs.Numbers.{decimal}
use Rattle.characters.specs.Words.{spelled}
use Rattle.characters.specs.Writing.{Room}
use Rattle.characters.proofs.Texts.{room_front, room_first, room_second, room_third, room_fourth, room_fifth, wrote_five}
use Rattle.text.specs.Sheets.{space, newline}
use Rattle.printing.specs.Jobs.{refused_word, refusal_text}
use Rattle.printing.proofs.jobs.put_refusal.Goals as goal
use Rattle.printing.proofs.jobs.put_refusal.Goals.{Start}

-- room for the five parts, and for the first four of them
room : (c : Start) → Room c.args.to.now (refused_word ++ decimal c.args.e.number ++ space ++ decimal c.args.e.place ++ newline)
unfolding refusal_text
room c =
    c.requires

pub word-requires : goal.word-requires
unfolding spelled
word-requires c =
    room_first refused_word (decimal c.args.e.number) space (decimal c.args.e.place) ((room_front _ _ (room (goal.at.word-requires c).Start)))

pub decimal-requires : goal.decimal-requires
unfolding spelled
decimal-requires c =
    room_second _ _ _ _ ((room_front _ _ (room (goal.at.decimal-requires c).Start))) c.word.ensures

pub word-requires-2 : goal.word-requires-2
unfolding spelled
word-requires-2 c =
    room_third _ _ _ _ ((room_front _ _ (room (goal.at.word-requires-2 c).Start))) c.word.ensures c.decimal.ensures

pub decimal-requires-2 : goal.decimal-requires-2
unfolding spelled
decimal-requires-2 c =
    room_fourth _ _ _ _ ((room_front _ _ (room (goal.at.decimal-requires-2 c).Start))) c.word.ensures c.decimal.ensures c.word-2.ensures

pub word-requires-3 : goal.word-requires-3
unfolding spelled
word-requires-3 c =
    room_fifth _ _ _ _ _ (room (goal.at.word-requires-3 c).Start) c.word.ensures c.decimal.ensures c.word-2.ensures c.decimal-2.ensures

pub returns : goal.returns
unfolding refusal_text spelled
returns c =
    wrote_five _ _ _ _ _ (room (goal.at.returns c).Start) c.word.ensures c.decimal.ensures c.word-2.ensures c.decimal-2.ensures c.word-3.ensures
