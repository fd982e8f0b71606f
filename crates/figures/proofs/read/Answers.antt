-- The trouble met, or both lists.
use mathlib.Core.Path.{sym, ◌∙◌, ap₂}
use Rattle.figures.specs.Figures.{steps_at}
use Rattle.figures.proofs.Clear.{few_steps, last_clear, next_clear, is_refused, is_read}
use Rattle.figures.proofs.read.Goals as goal

pub returns-in_err-trouble : goal.returns-in_err-trouble
returns-in_err-trouble c = is_refused _ _ _ c.from_residual.ensures.1 c.in_err-trouble.ensures

pub steps-requires : goal.steps-requires
steps-requires c =
    rw (c.list_from_last.ensures.0, c.list_from_last.ensures.1) (few_steps _ _ (last_clear _ (sym c.in_ok-trouble.ensures)))

pub steps-requires-2 : goal.steps-requires-2
steps-requires-2 c =
    rw (c.list_to_next.ensures.0, c.list_to_next.ensures.1) (few_steps _ _ (next_clear _ (sym c.in_ok-trouble.ensures)))

pub returns : goal.returns
returns c =
    is_read _ c.in_ok-trouble.ensures
    (c.steps.ensures ∙ ap₂ steps_at c.list_from_last.ensures.0 c.list_from_last.ensures.1)
    (c.steps-2.ensures ∙ ap₂ steps_at c.list_to_next.ensures.0 c.list_to_next.ensures.1)
