-- A rule about points, segments or weighings says nothing of a part of another kind.
use Prim.Native.Nat.{ℕ}
use mathlib.Core.Path.{◌≡◌, refl}
use Rattle.records.specs.declared.Point.{Point}
use Rattle.records.specs.declared.Segment.{Segment}
use Rattle.records.specs.declared.Weighing.{Weighing}
use Rattle.conditions.specs.declared.Part.{Part}
use Rattle.conditions.specs.declared.Part.TheVariants.{Whole, OnePoint, OneSegment, OneWeighing}
use Rattle.grounds.specs.declared.Ground.TheVariants.{Silent}
use Rattle.conditions.specs.Conditions.{short, leaking, unsteady}

pub no_point_lem : (part : Part) → ((p : Point) → part ≡ OnePoint p → ⊥) → Silent ≡ short part
unfolding short
no_point_lem Whole other = refl
no_point_lem (OnePoint p) other = absurd (other p refl)
no_point_lem (OneSegment s) other = refl
no_point_lem (OneWeighing w) other = refl

pub no_segment_lem : (t v : ℕ) (part : Part) → ((s : Segment) → part ≡ OneSegment s → ⊥) → Silent ≡ leaking t v part
unfolding leaking
no_segment_lem t v Whole other = refl
no_segment_lem t v (OnePoint p) other = refl
no_segment_lem t v (OneSegment s) other = absurd (other s refl)
no_segment_lem t v (OneWeighing w) other = refl

pub no_weighing_lem : (part : Part) → ((w : Weighing) → part ≡ OneWeighing w → ⊥) → Silent ≡ unsteady part
unfolding unsteady
no_weighing_lem Whole other = refl
no_weighing_lem (OnePoint p) other = refl
no_weighing_lem (OneSegment s) other = refl
no_weighing_lem (OneWeighing w) other = absurd (other w refl)
