-- The loop keeps the run that has the number.
use Rattle.reduction.proofs.Naming.{Sought}
use Prim.Native.Nat.{◌≤◌}
use Rattle.reduction.proofs.find_run.Given as goal

abbrev pub invariant-loop-k : goal.invariant-loop-k
invariant-loop-k l =
    (l.k ≤ l.job.runs) × Sought l.read.file.bytes.now l.number l.found l.k
