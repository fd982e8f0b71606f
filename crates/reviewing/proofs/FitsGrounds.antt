-- What each rule shows fits, from the ranges of what it goes by.
use Rattle.std.specs.Prelude.{Option, Some, None}
use Rattle.arith.specs.declared.Division.{Division}
use Prim.Native.Nat.{ℕ, ◌+◌, ◌*◌, ◌^◌, ◌≤◌, ◌<◌}
use mathlib.Core.Path.{◌≡◌, refl}
use mathlib.Core.Bool.{Bool, true, false, cond}
use native.Mathlib.Nat.{mul-le-mul}
use native.Mathlib.Omega.{arith}
use borrow.Author.Tests.{eqb-true}
use lib.Dec.{eqb, lit<}
use lib.IntN.{ℤ, pos, negsuc}
use Rattle.readings.specs.Ranges.{meter_factor, greatest_side, side, greatest_point_count, greatest_total_seconds}
use Rattle.readings.proofs.Ranges.{within_greatest}
use Rattle.records.specs.declared.Certificate.{Certificate}
use Rattle.records.specs.declared.Site.{Site}
use Rattle.records.specs.InRange.{NozzleOk, SegmentOk, WeighingOk, SiteOk}
use Rattle.metering.proofs.Products.{leaked_most}
use Rattle.sampling.specs.Promise.{CatchOk}
use Rattle.factors.specs.Factor.{factor_moved}
use Rattle.diameters.specs.Diameters.{is_round, fraction, diameter, half_diameter}
use Rattle.grounds.specs.declared.comparison.Way.{Way}
use Rattle.grounds.specs.declared.comparison.Way.TheVariants.{Same}
use Rattle.grounds.specs.Comparing.{apart}
use Rattle.site.specs.Site.{narrow, disturbed, wrong_points}
use Rattle.conditions.specs.declared.Part.{Part}
use Rattle.conditions.specs.declared.Part.TheVariants.{Whole, OnePoint, OneSegment, OneWeighing}
use Rattle.conditions.specs.Conditions.{missing, moved, uneven, short, leaking, line_against, ratio_against, unsteady, lacking, negative}
use Rattle.reviewing.proofs.FitsPoints.{most_points, next_allowed_most}
use Rattle.reviewing.proofs.FitsShown.{ShownFits, BothFit, silent_fits, no_certificate_fits, compared_fits, either_fits, exactly_fits, signed_fits, below_fits, above_fits, same_fits}

-- 1 to 4: a certificate is missing, or it is not: no number is shown
pub missing_fits : (l : Option Certificate) → ShownFits (missing l)
unfolding missing
missing_fits None = no_certificate_fits
missing_fits (Some c) = silent_fits

-- 5: both factors in range
pub moved_fits : (b a : Option Certificate) → ((c : Certificate) → b ≡ Some c → meter_factor c.first ≡ true) → ((c : Certificate) → a ≡ Some c → meter_factor c.first ≡ true) → ShownFits (moved b a)
unfolding moved factor_moved apart
moved_fits None a before after = silent_fits
moved_fits (Some b) None before after = silent_fits
moved_fits (Some b) (Some a) before after =
    let own = within_greatest _ _ _ (before b refl) in
    let other = within_greatest _ _ _ (after a refl) in
    compared_fits _ (above_fits _ _ (omega arith))

-- 6: three diameters in range
pub uneven_fits : (l : Option Certificate) → ((c : Certificate) → l ≡ Some c → NozzleOk c) → ShownFits (uneven l)
unfolding uneven
uneven_fits None ok = silent_fits
uneven_fits (Some n) ok =
    let first = within_greatest _ _ _ (ok n refl).first in
    let second = within_greatest _ _ _ (ok n refl).second in
    let third = within_greatest _ _ _ (ok n refl).third in
    compared_fits _ (above_fits _ _ (omega arith))

-- 7 and 8: sides in range; the smaller number of each comparison fits with the larger, whatever the distances are
module _ (s : Site) (ok : SiteOk s) where
  first_most_lem : s.first ≤ greatest_side
  first_most_lem = within_greatest _ _ _ ok.first

  second_most_lem : s.second ≤ greatest_side
  second_most_lem = go (is_round s) ok.second
    where
      go : (round : Bool) → cond round (eqb s.second 0) (side s.second) ≡ true → s.second ≤ greatest_side
      go true e = omega (arith, eqb-true s.second 0 e)
      go false e = within_greatest _ _ _ e

  product_most : s.first * s.second ≤ greatest_side * greatest_side
  product_most = mul-le-mul first_most_lem second_most_lem

  diameter_most_lem : ((diameter s).over ≤ 2 * (greatest_side * greatest_side)) × ((diameter s).under ≤ 2 * greatest_side)
  unfolding diameter
  diameter_most_lem = go (is_round s)
    where
      go : (round : Bool) → ((cond round (fraction s.first 1) (fraction (2 * (s.first * s.second)) (s.first + s.second))).over ≤ 2 * (greatest_side * greatest_side)) × ((cond round (fraction s.first 1) (fraction (2 * (s.first * s.second)) (s.first + s.second))).under ≤ 2 * greatest_side)
      go true = (omega (arith, first_most_lem), omega arith)
      go false = (omega (arith, product_most), omega (arith, first_most_lem, second_most_lem))

  half_most : (half_diameter s).over ≤ greatest_side * greatest_side
  unfolding half_diameter
  half_most = go (is_round s)
    where
      go : (round : Bool) → (cond round (fraction s.first 2) (fraction (s.first * s.second) (s.first + s.second))).over ≤ greatest_side * greatest_side
      go true = omega (arith, first_most_lem)
      go false = product_most

  pub narrow_fits : ShownFits (narrow s)
  narrow_fits = compared_fits _ (below_fits _ _ (omega (arith, diameter_most_lem)))

  pub disturbed_fits : ShownFits (disturbed s)
  disturbed_fits = either_fits _ _ (below_fits _ _ (omega (arith, half_most))) (below_fits _ _ (omega (arith, diameter_most_lem)))

-- 9: a number of points in range, and a least number that is small
pub wrong_points_fits : (shape least n : ℕ) → least ≤ most_points → n ≤ greatest_point_count → ShownFits (wrong_points shape least n)
wrong_points_fits shape least n few small =
    either_fits _ _ (below_fits _ _ (omega arith)) (λ e. (omega arith, omega (arith, next_allowed_most shape n)))

-- 10, 11 and 17: the part that a rule looks at is in range
abbrev pub PartOk : Part → Type 0
PartOk Whole = Unit {0}
PartOk (OnePoint p) = Unit {0}
PartOk (OneSegment s) = SegmentOk s
PartOk (OneWeighing w) = WeighingOk w

pub short_fits : (part : Part) → ShownFits (short part)
unfolding short
short_fits (OnePoint p) = compared_fits _ (below_fits _ _ (lit< tt))
short_fits Whole = silent_fits
short_fits (OneSegment s) = silent_fits
short_fits (OneWeighing w) = silent_fits

pub leaking_fits : (t v : ℕ) (part : Part) → t ≤ greatest_total_seconds → PartOk part → ShownFits (leaking t v part)
unfolding leaking
leaking_fits t v (OneSegment s) few ok = compared_fits _ (above_fits _ _ (omega (arith, leaked_most s few ok)))
leaking_fits t v Whole few ok = silent_fits
leaking_fits t v (OnePoint p) few ok = silent_fits
leaking_fits t v (OneWeighing w) few ok = silent_fits

pub unsteady_fits : (part : Part) → PartOk part → ShownFits (unsteady part)
unfolding unsteady apart
unsteady_fits (OneWeighing w) ok =
    let first = within_greatest _ _ _ ok.first in
    let second = within_greatest _ _ _ ok.second in
    compared_fits _ (above_fits _ _ (omega arith))
unsteady_fits Whole ok = silent_fits
unsteady_fits (OnePoint p) ok = silent_fits
unsteady_fits (OneSegment s) ok = silent_fits

-- 12 and 14: a line that is 0
pub line_fits : (v : Option ℕ) → ShownFits (line_against v Same 0)
unfolding line_against
line_fits None = silent_fits
line_fits (Some n) = compared_fits _ (same_fits n 0 (lit< tt))

-- 15 and 16: a quotient and a remainder that fit
abbrev pub RatioFits : Option Division → Type 0
RatioFits None = Unit {0}
RatioFits (Some n) = BothFit n.quotient n.remainder

pub ratio_fits : (v : Option Division) (way : Way) (limit : ℕ) → RatioFits v → limit < 2 ^ 63 → ShownFits (ratio_against v way limit)
unfolding ratio_against
ratio_fits None way limit fits small = silent_fits
ratio_fits (Some n) way limit fits small = exactly_fits _ fits small

-- 18 and 19: none of a kind
pub lacking_fits : (n : ℕ) → ShownFits (lacking n)
lacking_fits n = compared_fits _ (below_fits n 1 (lit< tt))

-- 20: a catch in range
pub negative_fits : (z : ℤ) → CatchOk z → ShownFits (negative z)
negative_fits (pos n) ok = signed_fits _ _ (omega (arith, ok.most n refl)) (lit< tt)
negative_fits (negsuc n) ok = signed_fits _ _ (omega (arith, ok.least n refl)) (lit< tt)
