-- Each way through the call is what came of its case.
use Rattle.std.proofs.Common.{◌≡◌, ◌<◌, Some, ◌∙◌, sym}
use Rattle.job.proofs.ReadJobs.{place_fits}
use Rattle.reduction.proofs.Naming.{found_inside}
use Rattle.output.proofs.Refusals.{file_told, call_told, none_there, some_there}
use Rattle.asking.proofs.Outcomes.{refused_by_reader, no_run, no_finding_lem, one_finding}
use Rattle.asking.proofs.explain.Given.{Over}
use Rattle.asking.proofs.explain.Goals as goal
use Rattle.asking.proofs.explain.Goals.{In_ok-k}

-- the run is one of the job's
named : (g : Over) (c : In_ok-k g) → c.find_run.result ≡ Some c.in_ok-k.k
named g c = some_there c.find_run.result _ c.in_ok-k.ensures.value

found : (g : Over) (c : In_ok-k g) → c.in_ok-k.k < c.in_ok-read.read.job.runs
found g c = found_inside _ _ _ (sym c.find_run.ensures ∙ named g c)

pub returns-in_err-read : goal.returns-in_err-read
returns-in_err-read g c =
    let met = c.in_err-read.ensures in
    rw (file_told _ _ (place_fits _ met) c.from_residual.ensures.1) (refused_by_reader _ _ _ _ _ _ _ met)

pub returns-in_err-k : goal.returns-in_err-k
returns-in_err-k g c =
    let (none, why) = none_there c.find_run.result _ c.in_err-k.ensures.value in
    rw (call_told _ _ c.from_residual-in_err-k.ensures.1, why)
    (no_run _ _ _ _ _ _ _ _ c.in_ok-read.ensures.1 (rw c.in_ok-read.ensures.0 at c.find_run.ensures) none)

pub explain_run-requires : goal.explain_run-requires
explain_run-requires g c = found g (goal.at.explain_run-requires g c).In_ok-k

pub returns-in_err-e : goal.returns-in_err-e
returns-in_err-e g c =
    let (none, why) = none_there c.explain_run.result _ c.in_err-e.ensures.value in
    rw (call_told _ _ c.from_residual-in_err-e.ensures.1, why)
    (no_finding_lem _ _ _ _ _ _ _ _ c.in_ok-read.ensures.1
    (rw c.in_ok-read.ensures.0 at c.find_run.ensures)
    (named g (goal.at.returns-in_err-e g c).In_ok-k)
    (rw c.in_ok-read.ensures.0 at c.explain_run.ensures)
    none)

pub returns : goal.returns
returns g c =
    one_finding _ _ _ _ _ _ _ _ c.in_ok-read.ensures.1
    (rw c.in_ok-read.ensures.0 at c.find_run.ensures)
    (named g (goal.at.returns g c).In_ok-k)
    (rw c.in_ok-read.ensures.0 at c.explain_run.ensures)
    (some_there c.explain_run.result _ c.in_ok-e.ensures.value) c.put_by_way.ensures
