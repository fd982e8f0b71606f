-- Each way through the call is the outcome of its case.
use Rattle.std.proofs.Common.{◌<◌, ◌∙◌, sym}
use Rattle.job.proofs.ReadJobs.{place_fits}
use Rattle.reduction.proofs.ClearJobs.{is_clear, found_few}
use Rattle.findings.proofs.Seeking.{all_seekable}
use Rattle.reduction.proofs.Naming.{found_inside}
use Rattle.reduction.proofs.Working.{judged_all}
use Rattle.output.proofs.Refusals.{file_told, call_told, none_there, some_there}
use Rattle.handing.proofs.Handing.{came_refused, came_same}
use Rattle.runs.proofs.Outcomes.{refused_by_reader, no_run, one_run}
use Rattle.runs.proofs.reduce_by.Goals as goal
use Rattle.runs.proofs.reduce_by.Goals.{In_ok-k}

pub returns-in_err-read : goal.returns-in_err-read
returns-in_err-read c =
    let met = c.in_err-read.ensures in
    rw (file_told _ _ (place_fits _ met) c.from_residual.ensures.1) (came_refused _ _ _ _ (refused_by_reader _ _ _ _ _ met))

pub returns-in_err-k : goal.returns-in_err-k
returns-in_err-k c =
    let (none, why) = none_there c.find_run.result _ c.in_err-k.ensures.value in
    rw (call_told _ _ c.from_residual-in_err-k.ensures.1, why)
    (came_refused 10 0 _ _ (no_run _ _ _ _ _ _ c.in_ok-read.ensures.1 (rw c.in_ok-read.ensures.0 at c.find_run.ensures) none))

-- the run is one of the job's
found : (c : In_ok-k) → c.in_ok-k.k < c.in_ok-read.read.job.runs
found c = found_inside _ _ _ (sym c.find_run.ensures ∙ some_there c.find_run.result _ c.in_ok-k.ensures.value)

pub reduce-requires : goal.reduce-requires
reduce-requires c = record { inside = found (goal.at.reduce-requires c).In_ok-k; seekable = all_seekable }

pub hand_over-requires : goal.hand_over-requires
hand_over-requires c =
    let r = is_clear c.in_ok-read.read.clear (found (goal.at.hand_over-requires c).In_ok-k) in
    rw (c.reduce.ensures, judged_all) (found_few _ _ r.job.clear _ r.inside)

pub returns : goal.returns
returns c =
    let (same, ok) = c.in_ok-read.ensures in
    let which = rw same at c.find_run.ensures in
    let named = some_there c.find_run.result _ c.in_ok-k.ensures.value in
    let whole = one_run _ _ _ _ _ _ ok which named ((rw same at c.reduce.ensures) ∙ judged_all _ _ _) in
    came_same whole c.hand_over.ensures
