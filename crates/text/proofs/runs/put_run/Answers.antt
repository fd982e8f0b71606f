-- Five parts, one after another.
use Rattle.std.proofs.Common.{◌≡◌, ◌++◌, length, take, rules, arith}
use Rattle.output.proofs.Records.{joined_taken}
use Rattle.findings.specs.Listing.{no_finding, most_findings}
use Rattle.characters.specs.Numbers.{decimal}
use Rattle.characters.specs.Words.{spelled}
use Rattle.characters.specs.Writing.{Room}
use Rattle.characters.proofs.Texts.{room_front, room_first, room_second, room_third, room_fourth, room_fifth, wrote_five}
use Rattle.text.specs.Sheets.{sheet_text}
use Rattle.text.specs.Runs.{finding_text, findings_text, standing, run_word, run_text}
use Rattle.text.proofs.runs.put_run.Goals as goal
use Rattle.text.proofs.runs.put_run.Goals.{Start}

-- room for the five parts, and for the first four of them
room : (c : Start) → Room c.args.to.now (run_word ++ decimal c.args.r.number ++ standing c.args.r.accepted ++ sheet_text c.args.r.sheet ++ findings_text c.args.r.findings.list c.args.r.findings.count)
unfolding run_text
room c =
    c.requires.1

pub word-requires : goal.word-requires
unfolding spelled
word-requires c =
    room_first run_word (decimal c.args.r.number) (standing c.args.r.accepted) (sheet_text c.args.r.sheet) ((room_front _ _ (room (goal.at.word-requires c).Start)))

pub decimal-requires : goal.decimal-requires
unfolding spelled
decimal-requires c =
    room_second _ _ _ _ ((room_front _ _ (room (goal.at.decimal-requires c).Start))) c.word.ensures

pub put_standing-requires : goal.put_standing-requires
unfolding spelled
put_standing-requires c =
    room_third _ _ _ _ ((room_front _ _ (room (goal.at.put_standing-requires c).Start))) c.word.ensures c.decimal.ensures

pub put_sheet-requires : goal.put_sheet-requires
unfolding spelled
put_sheet-requires c =
    room_fourth _ _ _ _ ((room_front _ _ (room (goal.at.put_sheet-requires c).Start))) c.word.ensures c.decimal.ensures c.put_standing.ensures

-- the findings that are counted
counted : (c : Start) → findings_text (take c.args.r.findings.count c.args.r.findings.list) (length (take c.args.r.findings.count c.args.r.findings.list)) ≡ findings_text c.args.r.findings.list c.args.r.findings.count
unfolding findings_text
counted c =
    let long : length c.args.r.findings.list ≡ most_findings = search rules in
    joined_taken no_finding finding_text c.args.r.findings.list c.args.r.findings.count (omega (arith, long, c.requires.0))

pub put_findings-requires : goal.put_findings-requires
unfolding spelled
put_findings-requires c =
    let start = (goal.at.put_findings-requires c).Start in
    rw (counted start) (room_fifth _ _ _ _ _ (room start) c.word.ensures c.decimal.ensures c.put_standing.ensures c.put_sheet.ensures)

pub returns : goal.returns
unfolding run_text spelled
returns c =
    let start = (goal.at.returns c).Start in
    wrote_five _ _ _ _ _ (room start) c.word.ensures c.decimal.ensures c.put_standing.ensures c.put_sheet.ensures (rw (counted start) at c.put_findings.ensures)
