-- The loop writes one line a turn.
use Rattle.std.proofs.Common.{◌≡◌, ◌+◌, ◌<◌, None, ap, length, get_or, rules, arith}
use Rattle.std.proofs.lemmas.List.{get_or_default}
use Rattle.lines.specs.Sheet.{line_count}
use Rattle.output.specs.Bytes.{joined}
use Rattle.characters.specs.Writing.{Room}
use Rattle.characters.proofs.Texts.{joined_none, joined_room, joined_more, joined_all}
use Rattle.text.specs.Sheets.{line_text, line_at, sheet_text}
use Rattle.text.proofs.sheets.put_sheet.Goals as goal
use Rattle.text.proofs.sheets.put_sheet.Goals.{Start, In-loop-i}

-- room for the twenty lines
room : (c : Start) → Room c.args.to.now (joined (line_at c.args.sheet.entries) line_count)
unfolding sheet_text
room c =
    c.requires

pub loop-i-init : goal.loop-i-init
loop-i-init c = (omega arith, joined_none _ _)

pub offset_bounds-sheet-i : goal.offset_bounds-sheet-i
offset_bounds-sheet-i c = omega (arith, c.loop-i-test.true)

pub bounds-sheet-i : goal.bounds-sheet-i
bounds-sheet-i c = c.loop-i-test.true

-- the entry read is the line's, whatever stands past the last
same_entry : (c : In-loop-i) → line_text (c.loop-i.i + 1) (get_or c.args.sheet.entries c.loop-i.i (record { line = None })) ≡ line_at c.args.sheet.entries c.loop-i.i
same_entry c =
    let twenty : length c.args.sheet.entries ≡ line_count = search rules in
    let inside : c.loop-i.i < length c.args.sheet.entries = omega (arith, c.loop-i-test.true) in
    ap (line_text (c.loop-i.i + 1)) (get_or_default _ _ _ _ inside)

pub put_line-requires : goal.put_line-requires
put_line-requires c =
    rw (same_entry (goal.at.put_line-requires c).In-loop-i) (joined_room _ c.loop-i.invariant.1 (room (goal.at.put_line-requires c).Start) c.loop-i-test.true)

pub loop-i-preserved : goal.loop-i-preserved
loop-i-preserved c =
    let inside = c.loop-i-test.true in
    let written = rw (same_entry (goal.at.loop-i-preserved c).In-loop-i) at c.put_line.ensures in
    (omega (arith, inside), joined_more _ c.loop-i.invariant.1 (room (goal.at.loop-i-preserved c).Start) inside written)

pub returns : goal.returns
unfolding sheet_text
returns c = joined_all _ c.loop-i.invariant.1 c.loop-i.invariant.0 c.loop-i-test.false
