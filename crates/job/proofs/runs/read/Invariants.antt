-- The loop keeps where it stands, the number before, and that the runs passed are clear and noted; it stops at the first that is not.
use Prim.Native.Nat.{◌≤◌}
use mathlib.Core.Path.{◌≡◌}
use lib.ListN.{length}
use Rattle.readings.specs.Ranges.{greatest_run_count}
use Rattle.fields.specs.Trouble.{Clear}
use Rattle.arrays.specs.Arrays.{padded}
use Rattle.job.specs.Places.{run_start}
use Rattle.job.specs.Troubles.{number_before, runs_trouble}
use Rattle.job.proofs.runs.read.Given as goal

abbrev pub invariant-loop-k : goal.invariant-loop-k
invariant-loop-k l =
    (l.k ≤ l.n) × (l.at ≤ length l.f.bytes.now) × (l.at ≡ run_start l.f.bytes.now l.k) × (l.lower ≡ number_before l.f.bytes.now l.k) × (runs_trouble l.f.bytes.now l.k ≡ Clear) × (l.starts ≡ padded greatest_run_count 0 (run_start l.f.bytes.now) l.k)
