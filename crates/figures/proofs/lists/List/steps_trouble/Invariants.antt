-- The loop keeps that the steps passed are clear, and stops at the first that is not.
use Prim.Native.Nat.{◌≤◌}
use mathlib.Core.Path.{◌≡◌}
use Rattle.fields.specs.Trouble.{Clear, checks, up_to}
use Rattle.figures.specs.Figures.{step_rows}
use Rattle.figures.proofs.lists.List.steps_trouble.Given as goal

abbrev pub invariant-loop-i : goal.invariant-loop-i
invariant-loop-i l =
    (l.i ≤ l.n) × (up_to (λ k. checks Clear (step_rows l.self.bytes.now l.self.at k)) l.i ≡ Clear)
