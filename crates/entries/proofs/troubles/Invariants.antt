-- The loop keeps that the certificates passed are clear, and stops at the first that is not.
use Prim.Native.Nat.{◌≤◌}
use mathlib.Core.Path.{◌≡◌}
use Rattle.fields.specs.Trouble.{Clear, up_to}
use Rattle.entries.specs.Entries.{entry_trouble}
use Rattle.entries.proofs.troubles.Given as goal

abbrev pub invariant-loop-k : goal.invariant-loop-k
invariant-loop-k l =
    (l.k ≤ l.n) × (up_to (entry_trouble l.f.bytes.now) l.k ≡ Clear)
