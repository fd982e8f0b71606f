-- The starred values, each by computation, and how lists of them are put together.
use Prim.Native.Nat.{ℕ, ◌*◌}
use mathlib.Core.Path.{◌≡◌, refl}
use mathlib.Core.Bool.{cond}
use mathlib.Core.List.{List, [], ◌∷◌, ◌++◌, map}
use native.Mathlib.Omega.{arith}
use borrow.Author.Tests.{le-ltb}
use Rattle.grounds.specs.declared.comparison.Way.TheVariants.{Below, Above}
use Rattle.grounds.specs.Comparing.{holds, compare, deciding, compare_exactly, apart}
use Rattle.factors.specs.Factor.{factor_moved, lower_if_moved, factor, factor_of}
use Rattle.grounds.specs.Grounds.{broken}
use Rattle.conditions.specs.Conditions.{moved, ratio_against, least_isokinetic, greatest_isokinetic, steady_limit, unsteady}
use Rattle.classes.specs.Classes.{class_of}
use Rattle.rules.specs.Rules.{table, ground_of}
use Rattle.rules.specs.Starred.{Each, StarredFactor, starred_factors, FactorStands, Such, StarredIsokinetic, starred_isokinetic, IsokineticStands, StarredWeighing, starred_weighings, WeighingStands}

-- what holds of each, and gives something else, gives that of each
each : {A : Type 0} {P Q : A → Type 0} → ((x : A) → P x → Q x) → (xs : List A) → Each P xs → Each Q xs
each f [] none = tt
each f (x ∷ xs) (first, rest) = (f x first, each f xs rest)

-- the version and the two factors alone give the finding and Y
abbrev FindingAndY : StarredFactor → Type 0
FindingAndY s =
    (cond (holds (factor_moved s.before s.after)) (class_of s.version 5 ∷ []) [] ≡ s.five)
    × (factor s.version s.before s.after ≡ s.y)

factor_stands : (s : StarredFactor) → FindingAndY s → FactorStands s
unfolding broken moved table ground_of factor_of
factor_stands s (five, y) part b before after is-before is-after first second = (
  rw (is-before, is-after, first, second) five,
  rw (is-before, is-after, first, second, y),
)

pub starred_factors_lem : Each FactorStands starred_factors
unfolding starred_factors holds factor_moved apart lower_if_moved factor class_of
starred_factors_lem =
    each factor_stands starred_factors
    ((refl, refl), ((refl, refl), ((refl, refl), ((refl, refl), ((refl, refl), ((refl, refl), tt))))))

-- the quotient and every such remainder alone give the faults
abbrev Faults : StarredIsokinetic → Type 0
Faults s =
    (r : ℕ)
    → Such s.remainder r
    → (holds (deciding (compare_exactly s.quotient r Below least_isokinetic)) ≡ s.fifteen) × (holds (deciding (compare_exactly s.quotient r Above greatest_isokinetic)) ≡ s.sixteen)

faults : Each Faults starred_isokinetic
unfolding starred_isokinetic holds deciding
faults = (
  λ r none. (refl, refl),
  (
    λ r some. (refl, refl),
    (
      λ r none. (rw none, refl),
      (
        λ r some. (le-ltb r 0 (omega arith), refl),
        (λ r none. (refl, rw none), (λ r one. (refl, rw one), (λ r none. (refl, refl), tt))),
      ),
    ),
  ),
)

-- so whatever a rule looks at
isokinetic_stands : (s : StarredIsokinetic) → Faults s → IsokineticStands s
unfolding broken ratio_against table ground_of
isokinetic_stands s alone part b n exact quotient such = (
  rw (exact, quotient) (alone n.remainder such).0,
  rw (exact, quotient) (alone n.remainder such).1,
)

pub starred_isokinetic_lem : Each IsokineticStands starred_isokinetic
starred_isokinetic_lem = each isokinetic_stands starred_isokinetic faults

-- the difference and the net alone give the fault
abbrev Fault : StarredWeighing → Type 0
Fault s = holds (compare (100 * s.difference) Above (steady_limit s.net)) ≡ s.seventeen

weighing_stands : (s : StarredWeighing) → Fault s → WeighingStands s
unfolding broken unsteady table ground_of
weighing_stands s alone b w apart gained = rw (apart, gained) alone

pub starred_weighings_lem : Each WeighingStands starred_weighings
unfolding starred_weighings holds steady_limit
starred_weighings_lem =
    each weighing_stands starred_weighings
    (refl, (refl, (refl, (refl, (refl, (refl, (refl, (refl, (refl, (refl, (refl, (refl, (refl, (refl, (refl, (refl, tt))))))))))))))))

-- what holds of whatever f makes of each, and of each of the rest, holds of each of both together
pub each_mapped : {A B : Type 0} (P : B → Type 0) (f : A → B) (xs : List A) (ys : List B) → Each (λ x. P (f x)) xs → Each P ys → Each P (map f xs ++ ys)
each_mapped P f [] ys none rest = rest
each_mapped P f (x ∷ xs) ys (first, more) rest = (first, each_mapped P f xs ys more rest)
