-- The reader's refusal, none past the last run, or the number at the run's start.
use Rattle.std.proofs.Common.{◌∙◌, arith}
use Rattle.job.proofs.ReadJobs.{few_runs, number_left, place_fits}
use Rattle.output.proofs.Refusals.{file_told}
use Rattle.counting.proofs.Counting.{number_refused, number_past, number_done}
use Rattle.counting.proofs.run_number.Goals as goal

pub returns-in_err-read : goal.returns-in_err-read
returns-in_err-read c =
    file_told _ _ (place_fits _ c.in_err-read.ensures) c.from_residual.ensures.1 ∙ number_refused _ _ c.in_err-read.ensures

pub returns-then-read-k : goal.returns-then-read-k
returns-then-read-k c = rw c.into.ensures (number_past _ _ _ c.in_ok-read.ensures.1 (omega (arith, c.if-read-k.true)))

pub bounds-read-k : goal.bounds-read-k
bounds-read-k c = omega (arith, few_runs _ _ c.in_ok-read.ensures.1, c.if-read-k.false)

pub u16_at-requires : goal.u16_at-requires
u16_at-requires c = number_left _ _ c.in_ok-read.ensures.1 _ c.if-read-k.false c.tail.ensures

pub returns : goal.returns
returns c = number_done _ _ _ c.in_ok-read.ensures.1 c.if-read-k.false c.tail.ensures c.u16_at.ensures
