-- What a run without trouble says, and that it ends within the file.
use Prim.Native.Nat.{ℕ, ◌+◌, ◌≤◌, ◌<◌}
use mathlib.Core.Path.{◌≡◌, refl}
use mathlib.Core.Bool.{true}
use mathlib.Core.List.{List}
use native.Mathlib.Numerals.{add-one}
use native.Mathlib.Omega.{arith}
use borrow.Author.Tests.{ltb-true, eqb-true}
use lib.Dec.{lit≤}
use lib.ListN.{length}
use Rattle.fields.specs.Trouble.{Clear}
use Rattle.fields.proofs.FirstTrouble.{clear_left, clear_right, unless_clear}
use Rattle.readings.specs.Ranges.{total_seconds}
use Rattle.readings.proofs.Ranges.{both_left, both_right}
use Rattle.opening.specs.Opening.{version_of}
use Rattle.heads.specs.Values.{header_at, run_header_size}
use Rattle.parts.specs.Values.{point_place, segment_place, point_total, segment_total, point_size, segment_size, weighing_size}
use Rattle.heads.specs.Rows.{header_trouble}
use Rattle.parts.specs.Rows.{points_trouble, segments_trouble, weighings_trouble}
use Rattle.fields.proofs.RecordTrouble.{complete_at, row_fits}
use Rattle.job.specs.Places.{next_start, run_start}
use Rattle.job.specs.Troubles.{parts_trouble, run_trouble, number_before}

pub record RunClear (s : List ℕ) (start lower : ℕ) : Type 0 where
  pub header : header_trouble s start ≡ Clear
  pub above : lower < (header_at s start).number
  pub points : points_trouble s (start + run_header_size (version_of s)) (header_at s start).counts.points ≡ Clear
  pub segments : segments_trouble s (point_place (version_of s) start (header_at s start).counts.points) (header_at s start).counts.segments ≡ Clear
  pub weighings : weighings_trouble s (segment_place (version_of s) start (header_at s start).counts (header_at s start).counts.segments) (header_at s start).counts.weighings ≡ Clear
  pub total : total_seconds (point_total s start (header_at s start).counts) ≡ true
  pub balanced : segment_total s start (header_at s start).counts ≡ point_total s start (header_at s start).counts

pub run_clear : (s : List ℕ) (start lower : ℕ) → run_trouble s start lower ≡ Clear → RunClear s start lower
unfolding run_trouble parts_trouble
run_clear s start lower e =
    let after = clear_right _ _ e in
    let parts = clear_right _ _ after in
    let after_points = clear_right _ _ parts in
    let after_segments = clear_right _ _ after_points in
    let seconds = unless_clear _ _ _ (clear_right _ _ after_segments) in
    record {
      header = clear_left _ _ e;
      above = ltb-true _ _ (unless_clear _ _ _ (clear_left _ _ after));
      points = clear_left _ _ parts;
      segments = clear_left _ _ after_points;
      weighings = clear_left _ _ after_segments;
      total = both_left _ _ seconds;
      balanced = eqb-true _ _ (both_right (total_seconds (point_total s start (header_at s start).counts)) _ seconds);
    }

-- its header lies within the file, and so does all of it
pub header_fits : (s : List ℕ) (start lower : ℕ) → run_trouble s start lower ≡ Clear → start + run_header_size (version_of s) ≤ length s
header_fits s start lower e = complete_at s start (run_header_size (version_of s)) _ (omega arith) (run_clear s start lower e).header

pub run_fits : (s : List ℕ) (start lower : ℕ) → run_trouble s start lower ≡ Clear → next_start s start ≤ length s
run_fits s start lower e =
    let r = run_clear s start lower e in
    row_fits s _ weighing_size _ _ (lit≤ tt)
    (row_fits s _ segment_size _ _ (lit≤ tt)
    (row_fits s _ point_size _ _ (lit≤ tt) (header_fits s start lower e) r.points)
    r.segments)
    r.weighings

-- the run after another
pub start_more : (s : List ℕ) (k : ℕ) → next_start s (run_start s k) ≡ run_start s (k + 1)
unfolding run_start
start_more s k = rw add-one

pub number_more : (s : List ℕ) (k : ℕ) → (header_at s (run_start s k)).number ≡ number_before s (k + 1)
unfolding number_before
number_more s k = rw add-one

pub number_none : (s : List ℕ) → 0 ≡ number_before s 0
unfolding number_before
number_none s = refl
