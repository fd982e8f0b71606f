-- The loop writes one finding a turn.
use Prim.Native.Nat.{◌*◌, ◌≤◌}
use lib.ListN.{length, get_or}
use Rattle.output.proofs.Records.{Put}
use Rattle.findings.specs.Listing.{no_finding}
use Rattle.writing.specs.Bytes.{finding_size, finding_bytes}
use Rattle.writing.proofs.put_findings.Given as goal

abbrev pub invariant-loop-i : goal.invariant-loop-i
invariant-loop-i l =
    (l.i ≤ length l.found) × (finding_size * length l.found ≤ length l.initial.out) × Put (λ k. finding_bytes (get_or l.found k no_finding)) finding_size l.initial.out l.out l.i
