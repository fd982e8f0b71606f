-- What each rule of docs/RULES.md goes by, but for 7 to 9, which are about the site.
use Rattle.std.specs.Prelude.{ℕ, ◌-◌, ◌*◌, min, max, ℤ, pos, negsuc, Option, Some, None}
use Rattle.arith.specs.declared.Division.{Division}
use Rattle.records.specs.declared.Certificate.{Certificate}
use Rattle.std.proofs.Math.IntN.{sub_ℕ}
use Rattle.records.specs.declared.Weighing.{Weighing}
use Rattle.metering.specs.Metering.{allowance}
use Rattle.grounds.specs.declared.comparison.Way.{Way}
use Rattle.grounds.specs.declared.comparison.Way.TheVariants.{Below, Above}
use Rattle.grounds.specs.Comparing.{compare, compare_exactly, apart}
use Rattle.factors.specs.Factor.{factor_moved}
use Rattle.grounds.specs.declared.Ground.{Ground}
use Rattle.grounds.specs.declared.Ground.TheVariants.{Silent, NoCertificate, Compared, Exactly, SignedBelow}
use Rattle.conditions.specs.declared.Part.{Part}
use Rattle.conditions.specs.declared.Part.TheVariants.{Whole, OnePoint, OneSegment, OneWeighing}

-- 1, 2, 3, 4: no certificate so dated
unfoldable pub missing : Option Certificate → Ground
missing None = NoCertificate
missing (Some c) = Silent

-- 5: the factor moved, both certificates present
unfoldable pub moved : Option Certificate → Option Certificate → Ground
moved None after = Silent
moved (Some b) None = Silent
moved (Some b) (Some a) = Compared (factor_moved b.first a.first)

-- the highest of three diameters less the lowest
abbrev pub spread : ℕ → ℕ → ℕ → ℕ
spread a b c = max (max a b) c - min (min a b) c

-- how far they may differ, 0.001 in
abbrev pub greatest_spread : ℕ
greatest_spread = 4

-- 6: the nozzle's highest and lowest diameter differ by over that
unfoldable pub uneven : Option Certificate → Ground
uneven None = Silent
uneven (Some n) = Compared (compare (spread n.first n.second n.third) Above greatest_spread)

-- the least time at a point, seconds
abbrev pub least_time_at_point : ℕ
least_time_at_point = 120

-- 10: a point under that
unfoldable pub short : Part → Ground
short (OnePoint p) = Compared (compare p.seconds Below least_time_at_point)
short Whole = Silent
short (OneSegment s) = Silent
short (OneWeighing w) = Silent

-- 11: a segment's leak above the allowance, at time T and metered volume V
unfoldable pub leaking : ℕ → ℕ → Part → Ground
leaking t v (OneSegment s) = Compared (compare (5 * t * s.leak) Above (allowance t v))
leaking t v Whole = Silent
leaking t v (OnePoint p) = Silent
leaking t v (OneWeighing w) = Silent

-- 12, 14: a line against its limit, where it is present
unfoldable pub line_against : Option ℕ → Way → ℕ → Ground
line_against None way limit = Silent
line_against (Some n) way limit = Compared (compare n way limit)

-- 15, 16: a line before it is rounded against its limit, where it is present
unfoldable pub ratio_against : Option Division → Way → ℕ → Ground
ratio_against None way limit = Silent
ratio_against (Some n) way limit = Exactly (compare_exactly n.quotient n.remainder way limit)

-- the least percent isokinetic, 0.01 percent
abbrev pub least_isokinetic : ℕ
least_isokinetic = 9000

-- the greatest percent isokinetic, 0.01 percent
abbrev pub greatest_isokinetic : ℕ
greatest_isokinetic = 11000

-- how far apart a weighing's two final weights are, 0.1 mg
abbrev pub difference : Weighing → ℕ
difference w = apart w.first w.second

-- how far apart they may be whatever the net is
abbrev pub greatest_difference : ℕ
greatest_difference = 5

-- the net: the second final weight less the tare, 0.1 mg
abbrev pub net : Weighing → ℤ
net w = sub_ℕ w.second w.tare

-- the larger of 500 and a net; of a negative one, 500
unfoldable pub steady_limit : ℤ → ℕ
steady_limit (pos n) = max (100 * greatest_difference) n
steady_limit (negsuc n) = 100 * greatest_difference

-- 17: a weighing of which 100 times the difference is above the larger of 500 and the net
unfoldable pub unsteady : Part → Ground
unsteady (OneWeighing w) = Compared (compare (100 * difference w) Above (steady_limit (net w)))
unsteady Whole = Silent
unsteady (OnePoint p) = Silent
unsteady (OneSegment s) = Silent

-- 18, 19: none of a kind, where that many were weighed
abbrev pub lacking : ℕ → Ground
lacking weighed = Compared (compare weighed Below 1)

-- 20: line 19 is negative
abbrev pub negative : ℤ → Ground
negative catch = SignedBelow catch (pos 0)
