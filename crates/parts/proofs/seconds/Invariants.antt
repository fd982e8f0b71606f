-- The loop keeps the sum of the seconds passed, each below 65,536.
use Prim.Native.Nat.{◌*◌, ◌≤◌}
use mathlib.Core.Path.{◌≡◌}
use lib.ListN.{drop}
use Rattle.fields.specs.Numbers.{u16_at}
use Rattle.records.specs.Records.{sum_to}
use Rattle.parts.proofs.seconds.Given as goal

abbrev pub invariant-loop-i : goal.invariant-loop-i
invariant-loop-i l =
    (l.i ≤ l.n) × (l.total ≤ l.i * 65535) × (l.total ≡ sum_to (λ k. u16_at (drop (l.size * k) l.t) 0) l.i)
