-- What a run in range and its lines keep small enough to judge.
use Prim.Native.Nat.{ℕ, ◌≤◌, ◌<◌}
use mathlib.Core.Path.{◌≡◌}
use native.Mathlib.Nat.{lt_of_lt_of_le}
use native.Mathlib.Omega.{arith}
use Rattle.readings.specs.Ranges.{greatest_above_first, greatest_point_count, greatest_segment_count, greatest_weighing_count, greatest_total_seconds}
use Rattle.readings.proofs.Ranges.{within_greatest}
use Rattle.records.specs.declared.Run.{Run}
use Rattle.lines.specs.declared.Lines.{Lines}
use Rattle.metering.specs.Metering.{time, metered_volume, metering}
use Rattle.lines.specs.Sheet.{lines}
use Rattle.choosing.specs.declared.Chosen.{Chosen}
use Rattle.steps.specs.declared.Figure.{Figure}
use Rattle.rules.specs.declared.Beside.{Beside}
use Rattle.classes.specs.Classes.{places_of}
use Rattle.rules.specs.Rules.{Judgeable}
use Rattle.findings.specs.Listing.{beside_of, Worked}
use Rattle.findings.proofs.Places.{inside_points, inside_segments, inside_weighings}

worked_time : (r : Run) (l : Lines) → Worked r l → l.metering.time ≤ greatest_total_seconds
unfolding lines metering time
worked_time r l w = rw w.is (within_greatest _ _ _ w.ok.total)

worked_volume : (r : Run) (l : Lines) → Worked r l → l.metering.volume ≤ greatest_above_first
unfolding lines metering metered_volume
worked_volume r l w =
    rw w.is (omega (arith, within_greatest _ _ _ w.ok.header.last))

module _ (r : Run) (l : Lines) (w : Worked r l) where
  -- the places of a rule about points, segments or weighings are inside the run's list of them
  pub point_in : {rule i : ℕ} → rule ≡ 10 → i < places_of r.header.counts rule → i < greatest_point_count
  point_in e h = lt_of_lt_of_le (inside_points _ e h) (within_greatest _ _ _ w.ok.header.points)

  pub segment_in : {rule i : ℕ} → rule ≡ 11 → i < places_of r.header.counts rule → i < greatest_segment_count
  segment_in e h = lt_of_lt_of_le (inside_segments _ e h) (within_greatest _ _ _ w.ok.header.segments)

  -- a run has no more weighings than its list holds
  pub weighings_in : r.header.counts.weighings ≤ greatest_weighing_count
  weighings_in = within_greatest _ _ _ w.ok.header.weighings

  pub weighing_in : {rule i : ℕ} → rule ≡ 17 → i < places_of r.header.counts rule → i < greatest_weighing_count
  weighing_in e h = lt_of_lt_of_le (inside_weighings _ e h) weighings_in

  -- Any rule can be judged beside what it may see of the run
  pub judgeable : (fig : Figure) (ch : Chosen) {beside : Beside} → beside ≡ beside_of fig r ch l → Judgeable beside
  unfolding beside_of
  judgeable fig ch is = rw is (record { time = worked_time r l w; volume = worked_volume r l w })
