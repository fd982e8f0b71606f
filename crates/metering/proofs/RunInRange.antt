-- What a run in range offers to lines 1 to 8.
use Prim.Native.Nat.{◌+◌, ◌≤◌}
use native.Mathlib.Omega.{arith}
use Rattle.readings.specs.Ranges.{greatest_point_count, greatest_segment_count, least_barometer, greatest_barometer, greatest_above_first, greatest_water, greatest_total_seconds}
use Rattle.readings.proofs.Ranges.{within_least, within_greatest}
use Rattle.records.specs.declared.Run.{Run}
use Rattle.records.specs.InRange.{RunOk}
use Rattle.metering.specs.Metering.{time}
use Rattle.metering.specs.Promise.{PointsOk, SegmentsOk}

module _ (r : Run) (ok : RunOk r) where
  pub points_ok : PointsOk r.points r.header.counts.points
  points_ok =
      record {
        some = within_least _ _ _ ok.header.points;
        few = within_greatest _ _ _ ok.header.points;
        each = ok.points;
      }

  pub segments_ok : SegmentsOk r.segments r.header.counts.segments
  segments_ok = record { few = within_greatest _ _ _ ok.header.segments; each = ok.segments }

  pub points_few : r.header.counts.points ≤ greatest_point_count
  points_few = points_ok.few

  pub segments_few : r.header.counts.segments ≤ greatest_segment_count
  segments_few = segments_ok.few

  pub time_most_lem : time r.points r.header.counts.points ≤ greatest_total_seconds
  unfolding time
  time_most_lem = within_greatest _ _ _ ok.total

  pub readings_apart : (r.header.first ≤ r.header.last) × (r.header.last ≤ r.header.first + greatest_above_first)
  readings_apart =
      let least : r.header.first + 0 ≤ r.header.last = within_least _ _ _ ok.header.last in
      (omega arith, within_greatest _ _ _ ok.header.last)

  pub pb_range : (least_barometer ≤ r.header.pb) × (r.header.pb ≤ greatest_barometer)
  pb_range = (within_least _ _ _ ok.header.pb, within_greatest _ _ _ ok.header.pb)

  pub water_most : r.header.water ≤ greatest_water
  water_most = within_greatest _ _ _ ok.header.water
