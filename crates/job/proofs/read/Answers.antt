-- The header's trouble, or what its records are read as.
use mathlib.Core.Path.{sym}
use Rattle.job.proofs.WholeFile.{header_refuses, read_stops}
use Rattle.job.proofs.read.Goals as goal

pub returns-in_err-trouble : goal.returns-in_err-trouble
returns-in_err-trouble c =
    read_stops _ _ _ c.from_residual.ensures.1 (sym (header_refuses _ (sym c.in_err-trouble.ensures)))
