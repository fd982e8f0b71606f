-- The header's trouble comes first; without one, the call by a figure without steps.
use Rattle.std.proofs.Common.{sym}
use Rattle.job.proofs.WholeFile.{header_refuses}
use Rattle.job.proofs.ReadJobs.{place_fits}
use Rattle.output.proofs.Refusals.{file_told}
use Rattle.handing.proofs.Handing.{came_refused}
use Rattle.runs.proofs.Outcomes.{refused_by_reader}
use Rattle.runs.proofs.reduce.Goals as goal

pub returns-in_err-trouble : goal.returns-in_err-trouble
returns-in_err-trouble c =
    let met = header_refuses _ (sym c.in_err-trouble.ensures) in
    rw (file_told _ _ (place_fits _ met) c.from_residual.ensures.1) (came_refused _ _ _ _ (refused_by_reader _ _ _ _ _ met))
