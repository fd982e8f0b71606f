-- The loop writes one finding a turn.
use Prim.Native.Nat.{◌≤◌}
use lib.ListN.{length, get_or}
use Rattle.findings.specs.Listing.{no_finding}
use Rattle.output.specs.Bytes.{joined}
use Rattle.characters.specs.Writing.{Wrote}
use Rattle.text.specs.Runs.{finding_text}
use Rattle.text.proofs.runs.put_findings.Given as goal

abbrev pub invariant-loop-f : goal.invariant-loop-f
invariant-loop-f l =
    (l.f-index ≤ length l.found) × Wrote l.fn.to (joined (λ k. finding_text (get_or l.found k no_finding)) l.f-index) l.to
