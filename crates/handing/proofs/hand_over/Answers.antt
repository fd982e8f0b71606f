-- Two refusals before a byte is written, and the two writes.
use Rattle.std.proofs.Common.{◌≡◌, length, take, rules, arith}
use Rattle.output.proofs.Records.{joined_taken}
use Rattle.findings.specs.Listing.{no_finding, most_findings}
use Rattle.writing.specs.Bytes.{finding_bytes, findings_bytes}
use Rattle.handing.proofs.Handing.{came_refused, short_lines, short_findings, came_reduced}
use Rattle.handing.proofs.hand_over.Goals as goal
use Rattle.handing.proofs.hand_over.Goals.{Start}

-- the findings that are counted, and how many they are
counted : (c : Start) → findings_bytes (take c.args.done.findings.count c.args.done.findings.list) (length (take c.args.done.findings.count c.args.done.findings.list)) ≡ findings_bytes c.args.done.findings.list c.args.done.findings.count
unfolding findings_bytes
counted c =
    let long : length c.args.done.findings.list ≡ most_findings = search rules in
    joined_taken no_finding finding_bytes c.args.done.findings.list c.args.done.findings.count (omega (arith, long, c.requires))

pub returns-then-lines-lt-SHEET_SIZE : goal.returns-then-lines-lt-SHEET_SIZE
returns-then-lines-lt-SHEET_SIZE c = rw c.into.ensures (came_refused 9 0 _ _ (short_lines _ _ _ c.if-lines-lt-SHEET_SIZE.true))

pub returns-then-findings-found : goal.returns-then-findings-found
returns-then-findings-found c =
    rw c.into-then-findings-found.ensures (came_refused 9 0 _ _ (short_findings _ _ _ c.if-lines-lt-SHEET_SIZE.false c.if-findings-found.true))

pub returns : goal.returns
returns c =
    came_reduced _ _ _ c.if-lines-lt-SHEET_SIZE.false c.if-findings-found.false c.put_sheet.ensures (rw (counted (goal.at.returns c).Start) at c.put_findings.ensures) c.success.ensures
