-- The loop keeps that the steps passed are filled in.
use Prim.Native.Nat.{◌≤◌}
use mathlib.Core.Path.{◌≡◌}
use Rattle.arrays.specs.Arrays.{padded}
use Rattle.readings.specs.Ranges.{greatest_step_count}
use Rattle.steps.specs.Steps.{no_step}
use Rattle.figures.specs.Figures.{step_at}
use Rattle.figures.proofs.lists.List.steps.Given as goal

abbrev pub invariant-loop-i : goal.invariant-loop-i
invariant-loop-i l =
    (l.i ≤ l.count) × (l.all ≡ padded greatest_step_count no_step (step_at l.self.bytes.now l.self.at) l.i)
