-- The loop keeps that the certificates passed are clear, and stops at the first that is not.
use borrow.Author.Rules.{rules}
use Rattle.fields.proofs.FirstTrouble.{none_clear, ends}
use Rattle.fields.proofs.Refusals.{stopped, still_clear}
use Rattle.entries.proofs.troubles.Goals as goal

pub loop-k-init : goal.loop-k-init
loop-k-init c = (search rules, none_clear _)

pub returns-in_err-entry_trouble : goal.returns-in_err-entry_trouble
returns-in_err-entry_trouble c =
    stopped _ _ _ _ _ c.loop-k.invariant.1 c.from_residual.ensures.1 c.in_err-entry_trouble.ensures c.loop-k-test.true

pub loop-k-preserved : goal.loop-k-preserved
loop-k-preserved c =
    let turn = c.loop-k.invariant in
    (search rules, still_clear _ _ turn.1 c.in_ok-entry_trouble.ensures)

pub returns : goal.returns
returns c =
    let turn = c.loop-k.invariant in
    ends _ _ _ turn.1 turn.0 c.loop-k-test.false
