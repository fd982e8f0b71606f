-- The loop writes one finding a turn.
use native.Mathlib.Omega.{arith}
use lib.ListN.{length, get_or}
use Rattle.findings.specs.Listing.{no_finding}
use Rattle.output.specs.Bytes.{joined}
use Rattle.characters.specs.Writing.{Room}
use Rattle.characters.proofs.Texts.{joined_none, joined_room, joined_more, joined_all}
use Rattle.text.specs.Runs.{finding_text, findings_text}
use Rattle.text.proofs.runs.put_findings.Goals as goal
use Rattle.text.proofs.runs.put_findings.Goals.{Start}

-- room for all findings
room : (c : Start) → Room c.args.to.now (joined (λ k. finding_text (get_or c.args.found.now k no_finding)) (length c.args.found.now))
unfolding findings_text
room c =
    c.requires

pub loop-f-init : goal.loop-f-init
loop-f-init c = (omega arith, joined_none _ _)

pub put_finding-requires : goal.put_finding-requires
put_finding-requires c =
    joined_room _ c.loop-f.invariant.1 (room (goal.at.put_finding-requires c).Start) c.loop-f-test.true

pub loop-f-preserved : goal.loop-f-preserved
loop-f-preserved c =
    let inside = c.loop-f-test.true in
    (omega (arith, inside), joined_more _ c.loop-f.invariant.1 (room (goal.at.loop-f-preserved c).Start) inside c.put_finding.ensures)

pub returns : goal.returns
unfolding findings_text
returns c = joined_all _ c.loop-f.invariant.1 c.loop-f.invariant.0 c.loop-f-test.false
