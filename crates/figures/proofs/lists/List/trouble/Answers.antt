-- The count, and then the steps.
use Rattle.fields.proofs.Refusals.{refuses, passes}
use Rattle.figures.proofs.Parts.{list_parts}
use Rattle.figures.proofs.lists.List.trouble.Goals as goal

pub returns-in_err-met : goal.returns-in_err-met
returns-in_err-met c =
    rw (list_parts _ _, ← c.byte-count.ensures, ← c.check.ensures) (refuses _ _ _ c.from_residual.ensures.1 c.in_err-met.ensures)

pub returns : goal.returns
returns c = rw (list_parts _ _, ← c.byte-count.ensures, ← c.check.ensures) (passes c.in_ok-met.ensures c.steps_trouble.ensures)
