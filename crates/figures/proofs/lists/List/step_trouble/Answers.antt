-- Distance, round points, rectangular points: each complete, and each within what the step has to keep to.
use Rattle.fields.proofs.Refusals.{refuses, passes}
use Rattle.figures.proofs.Parts.{step_parts}
use Rattle.figures.proofs.lists.List.step_trouble.Goals as goal

pub returns-in_err-met : goal.returns-in_err-met
returns-in_err-met c =
    rw (step_parts c.args.self.bytes.now c.args.self.at c.args.i)
    (refuses _ _ _ c.from_residual.ensures.1 (rw (c.limits_of-limits.ensures, c.step-step.ensures, c.place-p.ensures) at c.in_err-met.ensures))

pub returns-in_err-met-2 : goal.returns-in_err-met-2
returns-in_err-met-2 c =
    rw (step_parts c.args.self.bytes.now c.args.self.at c.args.i)
    (passes (rw (c.limits_of-limits.ensures, c.step-step.ensures, c.place-p.ensures) at c.in_ok-met.ensures)
    (refuses _ _ _ c.from_residual-in_err-met-2.ensures.1
    (rw (c.check.ensures, c.limits_of-limits.ensures, c.step-step.ensures, c.place-p.ensures) at c.in_err-met-2.ensures)))

pub returns : goal.returns
returns c =
    rw (step_parts c.args.self.bytes.now c.args.self.at c.args.i)
    (passes (rw (c.limits_of-limits.ensures, c.step-step.ensures, c.place-p.ensures) at c.in_ok-met.ensures)
    (passes (rw (c.check.ensures, c.limits_of-limits.ensures, c.step-step.ensures, c.place-p.ensures) at c.in_ok-met-2.ensures)
    (rw (c.check-2.ensures, c.limits_of-limits.ensures, c.step-step.ensures, c.place-p.ensures) at c.met-3.ensures)))
