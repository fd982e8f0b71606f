-- Each way through the call is what comes of its case.
use Rattle.std.proofs.Common.{arith}
use Rattle.job.proofs.ReadJobs.{place_fits}
use Rattle.output.proofs.Refusals.{file_told}
use Rattle.characters.specs.Writing.{WroteFront}
use Rattle.printing.specs.Jobs.{job_text}
use Rattle.printing.proofs.Lengths.{text_most}
use Rattle.printing.proofs.ClearJobs.{text_of_runs}
use Rattle.printed.proofs.Printing.{end_fits, refused_by_reader, handed_over, of_clear}
use Rattle.printed.proofs.sheet_text.Goals as goal
use Rattle.printed.proofs.sheet_text.Goals.{After-put_runs}

-- what was written is the text of the job
wrote : (c : After-put_runs) → WroteFront c.args.out.now (job_text c.args.figure c.args.s.now) c.put_runs.new.out c.put_runs.result
wrote c = rw (c.in_ok-read.ensures.0, text_of_runs _ _ _ c.in_ok-read.ensures.1) at c.put_runs.ensures

pub returns-in_err-read : goal.returns-in_err-read
returns-in_err-read c =
    let met = c.in_err-read.ensures in
    rw (file_told _ _ (place_fits _ met) c.from_residual.ensures.1) (refused_by_reader _ _ _ met)

pub returns-then-out-lt-ROOM : goal.returns-then-out-lt-ROOM
returns-then-out-lt-ROOM c = of_clear _ _ _ c.in_ok-read.ensures.1 (rw c.in_ok-read.ensures.0 at c.put_by_way.ensures)

pub put_runs-requires : goal.put_runs-requires
put_runs-requires c = omega (arith, c.if-out-lt-ROOM.false)

pub overflow_cast-result : goal.overflow_cast-result
overflow_cast-result c = omega (arith, end_fits _ c.args.s.now (wrote (goal.at.overflow_cast-result c).After-put_runs).long)

pub returns : goal.returns
returns c =
    of_clear _ _ _ c.in_ok-read.ensures.1 (handed_over _ _ (omega (arith, text_most c.args.figure c.args.s.now, c.if-out-lt-ROOM.false)) (wrote (goal.at.returns c).After-put_runs))
