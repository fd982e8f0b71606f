-- The loop keeps that the steps passed are clear, and stops at the first that is not.
use mathlib.Core.Path.{sym, ◌∙◌}
use borrow.Author.Rules.{rules}
use Rattle.fields.proofs.FirstTrouble.{none_clear, ends}
use Rattle.fields.proofs.Refusals.{stopped, still_clear}
use Rattle.figures.proofs.Parts.{steps_in_a_row}
use Rattle.figures.proofs.lists.List.steps_trouble.Goals as goal

pub loop-i-init : goal.loop-i-init
loop-i-init c = (search rules, none_clear _)

pub returns-in_err-step_trouble : goal.returns-in_err-step_trouble
returns-in_err-step_trouble c =
    stopped _ _ _ _ _ c.loop-i.invariant.1 c.from_residual.ensures.1 c.in_err-step_trouble.ensures c.loop-i-test.true ∙ sym (steps_in_a_row _ _ _)

pub loop-i-preserved : goal.loop-i-preserved
loop-i-preserved c =
    let turn = c.loop-i.invariant in
    (search rules, still_clear _ _ turn.1 c.in_ok-step_trouble.ensures)

pub returns : goal.returns
returns c =
    let turn = c.loop-i.invariant in
    ends _ _ _ turn.1 turn.0 c.loop-i-test.false ∙ sym (steps_in_a_row _ _ _)
