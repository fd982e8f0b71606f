-- The loop keeps that the steps passed are filled in.
use mathlib.Core.Path.{◌≡◌}
use native.Mathlib.Nat.{le_antisymm}
use borrow.Author.Rules.{rules}
use Rattle.arrays.proofs.Arrays.{pad_none, pad_more}
use Rattle.readings.specs.Ranges.{greatest_step_count}
use Rattle.steps.specs.Steps.{no_step}
use Rattle.figures.specs.Figures.{steps_at}
use Rattle.figures.proofs.lists.List.steps.Goals as goal

pub loop-i-init : goal.loop-i-init
loop-i-init c = (search rules, pad_none greatest_step_count no_step _)

pub loop-i-preserved : goal.loop-i-preserved
loop-i-preserved c =
    let passed = c.loop-i.invariant in
    (search rules, pad_more greatest_step_count no_step _ _ passed.1 c.step.ensures)

pub returns : goal.returns
unfolding steps_at
returns c =
    let passed = c.loop-i.invariant in
    let all : c.loop-i.i ≡ c.byte-count.result = le_antisymm passed.0 c.loop-i-test.false in
    rw (passed.1, all, c.byte-count.ensures)
