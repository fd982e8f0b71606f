-- What a run in range offers to lines 16 to 20.
use Rattle.std.proofs.Common.{◌≤◌}
use Rattle.readings.specs.Ranges.{greatest_weighing_count}
use Rattle.readings.proofs.Ranges.{within_greatest}
use Rattle.records.specs.declared.Run.{Run}
use Rattle.records.specs.InRange.{RunOk}
use Rattle.sampling.specs.Promise.{WeighingsOk}

module _ (r : Run) (ok : RunOk r) where
  pub weighings_few : r.header.counts.weighings ≤ greatest_weighing_count
  weighings_few = within_greatest _ _ _ ok.header.weighings

  pub weighings_ok : WeighingsOk r.weighings r.header.counts.weighings
  weighings_ok = record { few = weighings_few; each = ok.weighings }
