-- One pass that sums second final weights and tares by index.
use Rattle.std.proofs.Common.{ℕ, List, length, get_or}
use Rattle.readings.specs.Ranges.{greatest_weight}
use Rattle.records.specs.declared.Weighing.{Weighing}
use Rattle.records.specs.Records.{no_weighing}
use Rattle.values.proofs.Sums.{Summed}
use Rattle.sampling.proofs.weighing_sums.Given as goal

abbrev pub tare : List Weighing → ℕ → ℕ
tare weighings i = (get_or weighings i no_weighing).tare

abbrev pub second : List Weighing → ℕ → ℕ
second weighings i = (get_or weighings i no_weighing).second

abbrev pub invariant-loop-w : goal.invariant-loop-w
invariant-loop-w l =
    Summed (second l.weighings) greatest_weight (length l.weighings) l.finals l.w-index
    × Summed (tare l.weighings) greatest_weight (length l.weighings) l.tares l.w-index
