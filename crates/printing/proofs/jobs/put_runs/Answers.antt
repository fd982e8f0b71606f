-- The loop writes one run a turn.
use Rattle.std.proofs.Common.{refl, rules, arith}
use Rattle.reduction.specs.Reducing.{reduced_run}
use Rattle.job.proofs.ReadJobs.{count_of_runs}
use Rattle.findings.proofs.Seeking.{all_seekable}
use Rattle.reduction.proofs.ClearJobs.{is_clear, found_few}
use Rattle.reduction.proofs.Working.{judged_all}
use Rattle.output.specs.Bytes.{joined}
use Rattle.characters.specs.Writing.{RoomFor}
use Rattle.characters.proofs.Texts.{room_at_front, left_in_front, joined_none, joined_room, joined_more, joined_all}
use Rattle.text.specs.Runs.{run_text}
use Rattle.printing.specs.Jobs.{runs_text}
use Rattle.printing.proofs.Lengths.{runs_short}
use Rattle.printing.proofs.jobs.put_runs.Goals as goal
use Rattle.printing.proofs.jobs.put_runs.Goals.{Start}

-- room for all runs
room : (c : Start) → RoomFor c.args.out.now (joined (λ i. run_text (reduced_run c.args.figure c.args.read.file.bytes.now i)) c.args.read.job.runs)
unfolding runs_text
room c =
    let short = runs_short c.args.figure _ c.args.read.clear.clear in
    rw (count_of_runs _ _ c.args.read.clear) (record { fits = omega (arith, short, c.requires) })

pub loop-k-init : goal.loop-k-init
loop-k-init c = (omega arith, joined_none _ _)

pub reduce-requires : goal.reduce-requires
reduce-requires c =
    record { inside = c.loop-k-test.true; seekable = all_seekable }

pub put_run-requires : goal.put_run-requires
put_run-requires c =
    let r = is_clear c.args.read.clear c.loop-k-test.true in
    rw (c.reduce.ensures, judged_all) (found_few _ _ r.job.clear _ r.inside, joined_room _ c.loop-k.invariant.1 (room_at_front (room (goal.at.put_run-requires c).Start) refl) c.loop-k-test.true)

pub loop-k-preserved : goal.loop-k-preserved
loop-k-preserved c =
    let inside = c.loop-k-test.true in
    let w = rw (c.reduce.ensures, judged_all) at c.put_run.ensures in
    (omega (arith, inside), joined_more _ c.loop-k.invariant.1 (room_at_front (room (goal.at.loop-k-preserved c).Start) refl) inside w)

pub returns : goal.returns
unfolding runs_text
returns c =
    left_in_front (joined_all _ c.loop-k.invariant.1 c.loop-k.invariant.0 c.loop-k-test.false) refl (search rules)
