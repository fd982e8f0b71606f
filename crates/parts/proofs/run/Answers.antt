-- The header's fields as they were read, and each array from its own place on.
use Prim.Native.Nat.{ℕ, ◌+◌}
use mathlib.Core.Path.{◌≡◌, ◌∙◌, ap, ap₂}
use lib.ListN.{drop}
use Rattle.opening.specs.Opening.{version_of}
use Rattle.records.specs.declared.Counts.{Counts}
use Rattle.records.specs.Records.{no_point, no_segment, no_weighing}
use Rattle.readings.specs.Ranges.{greatest_point_count, greatest_segment_count, greatest_weighing_count}
use Rattle.heads.specs.Values.{run_header_size, header, header_at}
use Rattle.parts.specs.Values.{point_size, segment_size, weighing_size, point, segment, weighing, point_place, segment_place, run_at}
use Rattle.parts.proofs.Places.{further, filled}
use Rattle.parts.proofs.run.Goals as goal
use Rattle.parts.proofs.run.Goals.{After-tail-at_points, After-tail-at_segments, After-tail-at_weighings}

-- What was read, and where each list begins

-- the header is the file's, and so are its counts
header_read : (c : After-tail-at_points) → c.header-header.result ≡ header_at c.args.f.bytes.now c.args.start
header_read c = c.header-header.ensures ∙ ap₂ header (c.at-t.ensures.1 ∙ c.args.f.said) c.at-t.ensures.0

counts_read : (c : After-tail-at_points) → c.header-header.result.counts ≡ (header_at c.args.f.bytes.now c.args.start).counts
counts_read c = λ i. (header_read c i).counts

points_at : (c : After-tail-at_points) → c.tail-at_points.result.now ≡ drop (c.args.start + run_header_size (version_of c.args.f.bytes.now)) c.args.f.bytes.now
points_at c =
    let t = c.at-t in
    let size = c.size.ensures ∙ ap run_header_size c.args.f.said in
    further c.args.f.bytes.now c.args.start _ (c.tail-at_points.ensures ∙ ap (λ (n : ℕ). drop n t.result.bytes.now) size) t.ensures.0

segments_at :
    (c : After-tail-at_segments)
    → c.tail-at_points.result.now ≡ drop (c.args.start + run_header_size (version_of c.args.f.bytes.now)) c.args.f.bytes.now
    → c.tail-at_segments.result.now ≡ drop (point_place (version_of c.args.f.bytes.now) c.args.start c.header-header.result.counts.points) c.args.f.bytes.now
segments_at c moved =
    further c.args.f.bytes.now (c.args.start + run_header_size (version_of c.args.f.bytes.now)) _ c.tail-at_segments.ensures moved

weighings_at :
    (c : After-tail-at_weighings)
    → c.tail-at_segments.result.now ≡ drop (point_place (version_of c.args.f.bytes.now) c.args.start c.header-header.result.counts.points) c.args.f.bytes.now
    → c.tail-at_weighings.result.now ≡ drop (segment_place (version_of c.args.f.bytes.now) c.args.start c.header-header.result.counts c.header-header.result.counts.segments) c.args.f.bytes.now
weighings_at c moved =
    further c.args.f.bytes.now (point_place (version_of c.args.f.bytes.now) c.args.start c.header-header.result.counts.points) _ c.tail-at_weighings.ensures moved

pub returns : goal.returns
unfolding run_at
returns c =
    let at = goal.at.returns c in
    let s = c.args.f.bytes.now in
    let a = c.args.start in
    let v = version_of s in
    let n = counts_read at.After-tail-at_points in
    let moved1 = points_at at.After-tail-at_points in
    let moved2 = segments_at at.After-tail-at_segments moved1 in
    let moved3 = weighings_at at.After-tail-at_weighings moved2 in
    let by_counts2 = moved2 ∙ ap (λ (k : Counts). drop (point_place v a k.points) s) n in
    let by_counts3 = moved3 ∙ ap (λ (k : Counts). drop (segment_place v a k k.segments) s) n in
    λ i.
    record {
      header = header_read at.After-tail-at_points i;
      points = filled greatest_point_count no_point point point_size s (a + run_header_size v) c.list.ensures moved1 (λ j. (n j).points) i;
      segments = filled greatest_segment_count no_segment segment segment_size s (point_place v a (header_at s a).counts.points) c.list-2.ensures by_counts2 (λ j. (n j).segments) i;
      weighings = filled greatest_weighing_count no_weighing weighing weighing_size s (segment_place v a (header_at s a).counts (header_at s a).counts.segments) c.list-3.ensures by_counts3 (λ j. (n j).weighings) i;
    }
