-- The loop keeps that none of those passed is the same.
use Prim.Native.Nat.{◌≤◌}
use mathlib.Core.Path.{◌≡◌}
use mathlib.Core.Bool.{false}
use Rattle.entries.specs.Entries.{same_certificate, any_to}
use Rattle.heads.specs.Values.{certificate_of}
use Rattle.entries.proofs.repeats.Given as goal

abbrev pub invariant-loop-j : goal.invariant-loop-j
invariant-loop-j l =
    (l.j ≤ l.earlier.count) × (any_to (λ i. same_certificate (certificate_of l.earlier.file.bytes.now i) l.c) l.j ≡ false)
