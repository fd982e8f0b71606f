-- The loop writes one run a turn.
use Prim.Native.Nat.{◌≤◌}
use Rattle.reduction.specs.Reducing.{reduced_run}
use Rattle.output.specs.Bytes.{joined}
use Rattle.characters.specs.Writing.{Wrote}
use Rattle.text.specs.Runs.{run_text}
use Rattle.printing.proofs.jobs.put_runs.Given as goal

abbrev pub invariant-loop-k : goal.invariant-loop-k
invariant-loop-k l =
    (l.k ≤ l.read.job.runs) × Wrote l.initial.to (joined (λ i. run_text (reduced_run l.figure l.read.file.bytes.now i)) l.k) l.to
