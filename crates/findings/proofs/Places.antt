-- The places of a rule: which are inside, and what the rule looks at there.
use Prim.Native.Nat.{ℕ, ◌<◌}
use mathlib.Core.Path.{◌≡◌}
use borrow.Author.Tests.{ne_eqb}
use Rattle.records.specs.declared.Counts.{Counts}
use Rattle.records.specs.declared.Run.{Run}
use Rattle.records.specs.Records.{point_of, segment_of, weighing_of}
use Rattle.conditions.specs.declared.Part.TheVariants.{Whole, OnePoint, OneSegment, OneWeighing}
use Rattle.classes.specs.Classes.{places_of}
use Rattle.findings.specs.Listing.{part_of}

pub inside_points : (n : Counts) {rule i : ℕ} → rule ≡ 10 → i < places_of n rule → i < n.points
unfolding places_of
inside_points n e h = rw e at h

pub inside_segments : (n : Counts) {rule i : ℕ} → rule ≡ 11 → i < places_of n rule → i < n.segments
unfolding places_of
inside_segments n e h = rw e at h

pub inside_weighings : (n : Counts) {rule i : ℕ} → rule ≡ 17 → i < places_of n rule → i < n.weighings
unfolding places_of
inside_weighings n e h = rw e at h

module _ (r : Run) {rule : ℕ} (i : ℕ) where
  pub part_point : rule ≡ 10 → OnePoint (point_of r i) ≡ part_of r rule i
  unfolding part_of
  part_point e = rw e

  pub part_segment : rule ≡ 11 → OneSegment (segment_of r i) ≡ part_of r rule i
  unfolding part_of
  part_segment e = rw e

  pub part_weighing : rule ≡ 17 → OneWeighing (weighing_of r i) ≡ part_of r rule i
  unfolding part_of
  part_weighing e = rw e

  pub part_whole : (rule ≡ 10 → ⊥) → (rule ≡ 11 → ⊥) → (rule ≡ 17 → ⊥) → Whole ≡ part_of r rule i
  unfolding part_of
  part_whole not-ten not-eleven not-seventeen =
      rw (ne_eqb _ _ not-ten, ne_eqb _ _ not-eleven, ne_eqb _ _ not-seventeen)
