-- When every condition that is shown of a ground fits, and the comparisons that keep it so: a condition is shown only where it is broken.
use Prim.Native.Nat.{ℕ, ◌^◌, ◌<◌}
use mathlib.Core.Path.{◌≡◌, refl, subst⁻¹}
use mathlib.Core.Bool.{Bool, true, false, cond}
use mathlib.Core.List.{List, [], ◌∷◌}
use mathlib.Core.Logic.{inl, inr}
use native.Mathlib.Omega.{arith}
use borrow.Author.Tests.{ltb-true, eqb-true}
use lib.Dec.{lit<}
use lib.IntN.{ℤ}
use lib.Signed.{mag}
use Rattle.grounds.specs.declared.comparison.Way.TheVariants.{Below, Above, Same}
use Rattle.grounds.specs.declared.comparison.Comparison.{Comparison}
use Rattle.grounds.specs.declared.comparison.ExactComparison.{ExactComparison}
use Rattle.grounds.specs.Comparing.{holds, compare}
use Rattle.grounds.specs.declared.Ground.{Ground}
use Rattle.grounds.specs.declared.Ground.TheVariants.{Silent, NoCertificate, Compared, Either, Exactly, SignedBelow}
use Rattle.grounds.specs.Showing.{Condition, Judged, two_numbers, conditions, broken_of, shown}
use Rattle.reviewing.specs.Shown.{Among}
use Rattle.reviewing.specs.Numbers.{FitsI64}

-- every condition listed fits
abbrev ListedFit : List Condition → Type 0
ListedFit cs = (c : Condition) → Among c cs → FitsI64 c

-- every condition that is shown of a ground does
abbrev pub ShownFits : Ground → Type 0
ShownFits g = ListedFit (shown g)

-- of conditions, each that is broken does
abbrev EachFits : List Judged → Type 0
EachFits [] = Unit {0}
EachFits (j ∷ js) = (j.broken ≡ true → FitsI64 j.condition) × EachFits js

-- so each that is shown does
one_more : (b : Bool) (x : Condition) (xs : List Condition) → (b ≡ true → FitsI64 x) → ListedFit xs → ListedFit (cond b (x ∷ xs) xs)
one_more true x xs own rest c (inl same) = subst⁻¹ FitsI64 same (own refl)
one_more true x xs own rest c (inr i) = rest c i
one_more false x xs own rest c i = rest c i

broken_fit : (js : List Judged) → EachFits js → ListedFit (broken_of js)
unfolding broken_of
broken_fit [] none c i = absurd i
broken_fit (j ∷ js) (own, rest) c i = one_more j.broken j.condition (broken_of js) own (broken_fit js rest) c i

shown_fit : (g : Ground) → EachFits (conditions g) → ShownFits g
unfolding shown
shown_fit g fits = broken_fit (conditions g) fits

-- two numbers that fit
abbrev pub BothFit : ℕ → ℕ → Type 0
BothFit a b = (a < 2 ^ 63) × (b < 2 ^ 63)

-- as a condition of one comparison shows them
both_fit : (which : ℕ) (c : Comparison) → BothFit c.left c.right → FitsI64 (two_numbers which c)
both_fit which c (left, right) = record { left = left; right = right; remainder = lit< tt; limit = lit< tt }

-- The grounds: of one that shows nothing, of one comparison, of two, of a quotient and of signed numbers

pub silent_fits : ShownFits Silent
unfolding conditions
silent_fits = shown_fit Silent tt

pub no_certificate_fits : ShownFits NoCertificate
unfolding conditions
no_certificate_fits = shown_fit NoCertificate tt

pub compared_fits : (c : Comparison) → (holds c ≡ true → BothFit c.left c.right) → ShownFits (Compared c)
unfolding conditions
compared_fits c fits = shown_fit (Compared c) (λ e. both_fit 1 c (fits e), tt)

pub either_fits : (a b : Comparison) → (holds a ≡ true → BothFit a.left a.right) → (holds b ≡ true → BothFit b.left b.right) → ShownFits (Either a b)
unfolding conditions
either_fits a b one two = shown_fit (Either a b) (λ e. both_fit 1 a (one e), (λ e. both_fit 2 b (two e), tt))

pub exactly_fits : (c : ExactComparison) → BothFit c.quotient c.remainder → c.limit < 2 ^ 63 → ShownFits (Exactly c)
unfolding conditions
exactly_fits c (quotient, remainder) limit =
    shown_fit (Exactly c) (λ e. record { left = quotient; right = limit; remainder = remainder; limit = lit< tt }, tt)

pub signed_fits : (left right : ℤ) → mag left < 2 ^ 63 → mag right < 2 ^ 63 → ShownFits (SignedBelow left right)
unfolding conditions
signed_fits left right l r =
    shown_fit (SignedBelow left right) (λ e. record { left = l; right = r; remainder = lit< tt; limit = lit< tt }, tt)

-- The comparisons: where one holds, both numbers fit if that one does which is the larger then

pub below_fits : (a b : ℕ) → b < 2 ^ 63 → holds (compare a Below b) ≡ true → BothFit a b
unfolding holds
below_fits a b small e = (omega (arith, ltb-true a b e), small)

pub above_fits : (a b : ℕ) → a < 2 ^ 63 → holds (compare a Above b) ≡ true → BothFit a b
unfolding holds
above_fits a b small e = (small, omega (arith, ltb-true b a e))

pub same_fits : (a b : ℕ) → b < 2 ^ 63 → holds (compare a Same b) ≡ true → BothFit a b
unfolding holds
same_fits a b small e = (omega (arith, eqb-true a b e), small)
