-- The reader's refusal, or its count.
use Rattle.std.proofs.Common.{◌∙◌, arith}
use Rattle.job.proofs.ReadJobs.{few_runs, place_fits}
use Rattle.output.proofs.Refusals.{file_told}
use Rattle.counting.proofs.Counting.{count_refused, count_done}
use Rattle.counting.proofs.run_count.Goals as goal

pub returns-in_err-read : goal.returns-in_err-read
returns-in_err-read c =
    file_told _ _ (place_fits _ c.in_err-read.ensures) c.from_residual.ensures.1 ∙ count_refused _ c.in_err-read.ensures

pub overflow_cast-result : goal.overflow_cast-result
overflow_cast-result c = omega (arith, few_runs _ _ c.in_ok-read.ensures.1)

pub returns : goal.returns
returns c = count_done _ _ c.in_ok-read.ensures.1
