-- What a run in range offers to the lines of its stack.
use Prim.Native.Nat.{◌+◌, ◌≤◌}
use Rattle.readings.specs.Ranges.{greatest_with_co2}
use Rattle.readings.proofs.Ranges.{within_least, within_greatest}
use Rattle.records.specs.declared.Run.{Run}
use Rattle.records.specs.InRange.{RunOk}
use Rattle.stack.specs.Promise.{TraverseOk}

module _ (r : Run) (ok : RunOk r) where
  pub traverse_ok : TraverseOk r.points r.header.counts.points
  traverse_ok =
      record {
        some = within_least _ _ _ ok.header.points;
        few = within_greatest _ _ _ ok.header.points;
        heads = λ i inside. (ok.points i inside).head;
        temperatures = λ i inside. (ok.points i inside).stack;
      }

  pub gas_range : r.header.co2 + r.header.o2 ≤ greatest_with_co2
  gas_range = within_greatest _ _ _ ok.header.o2
