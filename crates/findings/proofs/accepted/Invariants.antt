-- None of the findings passed is a fault.
use Prim.Native.Nat.{ℕ, ◌<◌}
use mathlib.Core.Path.{◌≡◌}
use lib.ListN.{get_or}
use Rattle.classes.specs.Classes.{fault}
use Rattle.findings.specs.Listing.{no_finding}
use Rattle.findings.proofs.accepted.Given as goal

abbrev pub invariant-loop-f : goal.invariant-loop-f
invariant-loop-f l = (k : ℕ) → k < l.f-index → (get_or l.findings k no_finding).class ≡ fault → ⊥
