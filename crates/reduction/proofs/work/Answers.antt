-- Each call's promise, one after another.
use Prim.Native.Nat.{◌≤◌}
use Rattle.readings.specs.declared.headers.Version.{Version}
use Rattle.records.specs.declared.Run.{Run}
use Rattle.lines.specs.declared.Lines.{Lines}
use Rattle.choosing.specs.declared.Chosen.{Chosen}
use Rattle.steps.specs.declared.Figure.{Figure}
use Rattle.findings.specs.declared.Sought.{Sought}
use Rattle.findings.specs.Listing.{most_findings, listed, Worked}
use Rattle.findings.specs.Seeking.{Seekable, walked}
use Rattle.findings.proofs.Seeking.{listed_few}
use Rattle.reduction.proofs.Working.{lines_workable, lines_worked, is_judged}
use Rattle.reduction.proofs.work.Goals as goal
use Rattle.reduction.proofs.work.Goals.{After-lines-l}

found_few : (sought : Sought) (v : Version) (fig : Figure) {r : Run} (ch : Chosen) {l : Lines} → Worked r l → Seekable sought → (walked sought v fig r ch l).findings.count ≤ most_findings
unfolding listed
found_few sought v fig ch w ok = listed_few v fig _ ch _ w sought ok

pub lines-l-requires : goal.lines-l-requires
lines-l-requires c =
    lines_workable _ _ _ _ c.requires.reducible c.choose_all-chosen.ensures c.factor_of-y.ensures c.coefficient_of-cp.ensures c.diameters_of-nozzle.ensures

pub find-walked-requires : goal.find-walked-requires
find-walked-requires c =
    record { worked = record { ok = c.requires.reducible.run; y = _; cp = _; nozzle = _; is = c.lines-l.ensures.0 }; seekable = c.requires.seekable }

pub shared_ref_as_front-accepted : goal.shared_ref_as_front-accepted
shared_ref_as_front-accepted c =
    let args = c.args in
    let asked = find-walked-requires (goal.at.shared_ref_as_front-accepted c).After-lines-l in
    rw c.find-walked.ensures (found_few args.sought args.all.file.version args.figure _ asked.worked asked.seekable)

pub returns : goal.returns
returns c =
    let args = c.args in
    is_judged args.sought args.all.file.version args.figure _ _ _ c.choose_all-chosen.ensures
    (lines_worked args.all.file.version _ _ c.factor_of-y.ensures c.coefficient_of-cp.ensures c.diameters_of-nozzle.ensures c.lines-l.ensures.0)
    c.find-walked.ensures
    c.accepted.ensures
    c.sheet.ensures
