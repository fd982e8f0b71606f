-- The outer invariant: the findings of the rules done are entered in the list, and no place passed was both broken and the one sought; the
-- inner: the same of the rule's places passed, behind whatever was entered before.
use Prim.Native.Nat.{ℕ, ◌+◌}
use mathlib.Core.Path.{◌≡◌}
use mathlib.Core.Bool.{Bool}
use mathlib.Core.List.{List, ◌++◌}
use Rattle.records.specs.declared.Run.{Run}
use Rattle.rules.specs.declared.Beside.{Beside}
use Rattle.grounds.specs.declared.Ground.TheVariants.{Silent}
use Rattle.grounds.specs.Grounds.{broken}
use Rattle.rules.specs.Rules.{ground_of}
use Rattle.findings.specs.declared.Finding.{Finding}
use Rattle.findings.specs.Listing.{part_of, findings_to, rule_findings}
use Rattle.findings.proofs.Filling.{Entered}
use Rattle.findings.proofs.Seeking.{places_from, Passed, PassedTo}
use Rattle.findings.proofs.find.Given as goal

-- whether a rule is broken at its place i, by what the loops see
abbrev pub broken_in : Run → Beside → ℕ → ℕ → Bool
broken_in run beside rule i = broken (ground_of (part_of run rule i) beside rule)

abbrev pub invariant-loop-i : goal.invariant-loop-i
invariant-loop-i l =
    Passed (broken_in l.run l.beside) l.place (l.done + 1) l.i
    × ((fs : List Finding) → Entered fs l.initial.count l.initial.walked.findings.list → Entered (fs ++ rule_findings l.v (broken_in l.run l.beside (l.done + 1)) (l.done + 1) l.i) l.count l.walked.findings.list)
    × (l.walked.basis ≡ Silent)

abbrev pub invariant-loop-done : goal.invariant-loop-done
invariant-loop-done l =
    PassedTo (broken_in l.run l.beside) l.header.counts l.place l.initial.done l.done
    × Entered (findings_to l.v (broken_in l.run l.beside) (places_from l.initial.done l.header.counts) l.done) l.count l.walked.findings.list
    × (l.walked.basis ≡ Silent)
