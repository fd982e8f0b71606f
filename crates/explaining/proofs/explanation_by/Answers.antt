-- The header is read at the run's place, and the days are chosen from the job's certificates.
use native.Mathlib.Omega.{arith}
use Rattle.parts.proofs.Places.{header_left}
use Rattle.job.proofs.ReadJobs.{few_runs, lies_within}
use Rattle.reduction.proofs.ClearJobs.{is_clear, workable}
use Rattle.explaining.proofs.Because.{put_together}
use Rattle.explaining.proofs.explanation_by.Goals as goal

pub offset_bounds-read-k : goal.offset_bounds-read-k
offset_bounds-read-k c = omega (arith, few_runs _ _ c.args.read.clear, c.requires)

pub bounds-read-k : goal.bounds-read-k
bounds-read-k c = omega (arith, few_runs _ _ c.args.read.clear, c.requires)

pub header-header-requires : goal.header-header-requires
header-header-requires c =
    let ok = is_clear c.args.read.clear c.requires in
    rw (c.at.ensures.1, c.args.read.file.said) (header_left _ _ (lies_within _ _ ok.job _ ok.inside) c.at.ensures.0)

pub invariant_of-all : goal.invariant_of-all
invariant_of-all c =
    let ok = is_clear c.args.read.clear c.requires in
    record { inside = rw c.args.read.file.said (workable _ _ ok.job _ ok.inside).within }

pub returns : goal.returns
returns c =
    put_together _ _ _ (is_clear c.args.read.clear c.requires) c.args.read.file.said c.at.ensures.1 c.at.ensures.0 c.header-header.ensures (rw c.class_of.ensures at c.number.ensures) c.days_of.ensures
