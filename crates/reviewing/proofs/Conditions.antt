-- Of every ground: what is shown holds as it is shown exactly when it is broken, and is all that is broken.
use Prim.Native.Nat.{ℕ}
use mathlib.Core.Path.{◌≡◌, refl, sym, ap}
use mathlib.Core.Bool.{Bool, true, false, true≢false, cond, not, ◌||◌}
use mathlib.Core.List.{List, [], ◌∷◌}
use mathlib.Core.Logic.{◌⊎◌, inl, inr}
use native.Mathlib.Nat.{le_refl}
use borrow.Author.Tests.{eqb-true, le-ltb, eq-eqb}
use lib.Dec.{eqb, ltb}
use lib.IntN.{ℤ, pos, negsuc}
use lib.Signed.{lt_z}
use Rattle.grounds.specs.declared.comparison.Way.{Way}
use Rattle.grounds.specs.declared.comparison.Way.TheVariants.{Below, Above, Same, Differs}
use Rattle.grounds.specs.declared.comparison.Comparison.{Comparison}
use Rattle.grounds.specs.declared.comparison.ExactComparison.{ExactComparison}
use Rattle.grounds.specs.declared.Ground.{Ground}
use Rattle.grounds.specs.declared.Ground.TheVariants.{Silent, NoCertificate, Compared, Either, Exactly, SignedBelow}
use Rattle.grounds.specs.Comparing.{stands_to, holds, compare, deciding}
use Rattle.grounds.specs.Grounds.{broken}
use Rattle.grounds.specs.Showing.{Condition, Judged, two_numbers, a_quotient, two_signed, conditions, broken_of, shown}
use Rattle.reviewing.specs.Shown.{stands_to_z, holds_as_shown, Among, ShownExactly}

-- Numbers that are not negative stand to each other as whole numbers do
as_whole : (way : Way) (a b : ℕ) → stands_to_z way (pos a) (pos b) ≡ stands_to way a b
as_whole Below a b = refl
as_whole Above a b = refl
as_whole Same a b = refl
as_whole Differs a b = refl

-- where two numbers are equal, 0 stands to 0 as they do
as_nothing : (way : Way) (a : ℕ) → stands_to_z way (pos 0) (pos 0) ≡ stands_to way a a
as_nothing Below a = sym (le-ltb a a (le_refl a))
as_nothing Above a = sym (le-ltb a a (le_refl a))
as_nothing Same a = sym (eq-eqb a a refl)
as_nothing Differs a = ap not (sym (eq-eqb a a refl))

numbers_hold : (which : ℕ) (c : Comparison) → holds_as_shown (two_numbers which c) ≡ holds c
unfolding holds
numbers_hold which c = go (eqb c.left c.right) refl
  where
    go : (e : Bool) → eqb c.left c.right ≡ e → cond (eqb c.left c.right) (stands_to_z c.way (pos 0) (pos 0)) (stands_to_z c.way (pos c.left) (pos c.right)) ≡ stands_to c.way c.left c.right
    go true e = rw (e, eqb-true c.left c.right e) (as_nothing c.way c.right)
    go false e = rw e (as_whole c.way c.left c.right)

-- a quotient decides, and its remainder where it equals its limit
quotient_holds : (c : ExactComparison) → holds_as_shown (a_quotient c) ≡ holds (deciding c)
unfolding holds deciding
quotient_holds c = go (eqb c.quotient c.limit)
  where
    go : (e : Bool) → cond e (stands_to_z c.way (pos c.remainder) (pos 0)) (stands_to_z c.way (pos c.quotient) (pos c.limit)) ≡ holds (cond e (compare c.remainder c.way 0) (compare c.quotient c.way c.limit))
    go true = as_whole c.way c.remainder 0
    go false = as_whole c.way c.quotient c.limit

-- no number is below itself
not_below : (a b : ℕ) → cond (eqb a b) false (ltb a b) ≡ ltb a b
not_below a b = go (eqb a b) refl
  where
    go : (e : Bool) → eqb a b ≡ e → cond (eqb a b) false (ltb a b) ≡ ltb a b
    go true e = rw (e, eqb-true a b e) (sym (le-ltb b b (le_refl b)))
    go false e = rw e

not_above : (a b : ℕ) → cond (eqb a b) false (ltb b a) ≡ ltb b a
not_above a b = go (eqb a b) refl
  where
    go : (e : Bool) → eqb a b ≡ e → cond (eqb a b) false (ltb b a) ≡ ltb b a
    go true e = rw (e, eqb-true a b e) (sym (le-ltb b b (le_refl b)))
    go false e = rw e

signed_hold : (left right : ℤ) → holds_as_shown (two_signed left right) ≡ lt_z left right
signed_hold (pos a) (pos b) = not_below a b
signed_hold (pos a) (negsuc b) = refl
signed_hold (negsuc a) (pos b) = refl
signed_hold (negsuc a) (negsuc b) = not_above a b

-- a condition's comparison holds as it is shown exactly when the condition is broken
hold_as_shown : (g : Ground) (j : Judged) → Among j (conditions g) → holds_as_shown j.condition ≡ j.broken
unfolding conditions
hold_as_shown Silent j none = absurd none
hold_as_shown NoCertificate j none = absurd none
hold_as_shown (Compared c) j (inl e) = rw e (numbers_hold 1 c)
hold_as_shown (Compared c) j (inr none) = absurd none
hold_as_shown (Either a b) j (inl e) = rw e (numbers_hold 1 a)
hold_as_shown (Either a b) j (inr (inl e)) = rw e (numbers_hold 2 b)
hold_as_shown (Either a b) j (inr (inr none)) = absurd none
hold_as_shown (Exactly c) j (inl e) = rw e (quotient_holds c)
hold_as_shown (Exactly c) j (inr none) = absurd none
hold_as_shown (SignedBelow left right) j (inl e) = rw e (signed_hold left right)
hold_as_shown (SignedBelow left right) j (inr none) = absurd none

-- What is shown of conditions is those that are broken

-- one that is broken, and what it shows
abbrev BrokenOne : List Judged → Condition → Type 0
BrokenOne js c = (j : Judged) × (Among j js × ((j.condition ≡ c) × (j.broken ≡ true)))

only_broken : (js : List Judged) (c : Condition) → Among c (broken_of js) → BrokenOne js c
unfolding broken_of
only_broken [] c none = absurd none
only_broken (j ∷ js) c shown = go (λ h. behind (only_broken js c h)) j.broken refl shown
  where
    behind : BrokenOne js c → BrokenOne (j ∷ js) c
    behind (k, (inside, is)) = (k, (inr inside, is))

    first : (Among c (broken_of js) → BrokenOne (j ∷ js) c) → j.broken ≡ true → (c ≡ j.condition) ⊎ Among c (broken_of js) → BrokenOne (j ∷ js) c
    first rest e (inl same) = (j, (inl refl, (sym same, e)))
    first rest e (inr more) = rest more

    go : (Among c (broken_of js) → BrokenOne (j ∷ js) c) → (b : Bool) → j.broken ≡ b → Among c (cond j.broken (j.condition ∷ broken_of js) (broken_of js)) → BrokenOne (j ∷ js) c
    go rest true e h = first rest e (rw e at h)
    go rest false e h = rest (rw e at h)

all_broken : (js : List Judged) (j : Judged) → Among j js → j.broken ≡ true → Among j.condition (broken_of js)
unfolding broken_of
all_broken [] j none e = absurd none
all_broken (k ∷ js) j (inl same) e = rw (same, rw same at e) (inl refl)
all_broken (k ∷ js) j (inr more) e = go (all_broken js j more e) k.broken refl
  where
    go : Among j.condition (broken_of js) → (b : Bool) → k.broken ≡ b → Among j.condition (cond k.broken (k.condition ∷ broken_of js) (broken_of js))
    go rest true f = rw f (inr rest)
    go rest false f = rw f rest

-- A rule is broken exactly when a certificate is missing or a condition is broken

abbrev Reason : Ground → Type 0
Reason g = (g ≡ NoCertificate) ⊎ ((c : Condition) × Among c (shown g))

-- one that is broken is shown
reason_of_lem : (g : Ground) (j : Judged) → Among j (conditions g) → j.broken ≡ true → Reason g
unfolding shown
reason_of_lem g j inside e = inr (j.condition, all_broken (conditions g) j inside e)

either_true : (a b : Bool) → (a || b) ≡ true → (a ≡ true) ⊎ (b ≡ true)
either_true true b e = inl refl
either_true false b e = inr e

broken_reason : (g : Ground) → broken g ≡ true → Reason g
unfolding broken conditions
broken_reason Silent e = absurd (true≢false (sym e))
broken_reason NoCertificate e = inl refl
broken_reason (Compared c) e = reason_of_lem (Compared c) _ (inl refl) e
broken_reason (Either a b) e = go (either_true (holds a) (holds b) e)
  where
    go : (holds a ≡ true) ⊎ (holds b ≡ true) → Reason (Either a b)
    go (inl h) = reason_of_lem (Either a b) (record { condition = two_numbers 1 a; broken = holds a }) (inl refl) h
    go (inr h) = reason_of_lem (Either a b) (record { condition = two_numbers 2 b; broken = holds b }) (inr (inl refl)) h
broken_reason (Exactly c) e = reason_of_lem (Exactly c) _ (inl refl) e
broken_reason (SignedBelow left right) e = reason_of_lem (SignedBelow left right) _ (inl refl) e

or_right : (a : Bool) → (a || true) ≡ true
or_right true = refl
or_right false = refl

broken_by : (g : Ground) (j : Judged) → Among j (conditions g) → j.broken ≡ true → broken g ≡ true
unfolding broken conditions
broken_by Silent j none e = absurd none
broken_by NoCertificate j inside e = refl
broken_by (Compared c) j (inl same) e = rw same at e
broken_by (Compared c) j (inr none) e = absurd none
broken_by (Either a b) j (inl same) e = rw (rw same at e)
broken_by (Either a b) j (inr (inl same)) e = rw (rw same at e) (or_right (holds a))
broken_by (Either a b) j (inr (inr none)) e = absurd none
broken_by (Exactly c) j (inl same) e = rw same at e
broken_by (Exactly c) j (inr none) e = absurd none
broken_by (SignedBelow left right) j (inl same) e = rw same at e
broken_by (SignedBelow left right) j (inr none) e = absurd none

reason_broken : (g : Ground) → Reason g → broken g ≡ true
unfolding shown broken
reason_broken g (inl e) = rw e
reason_broken g (inr (c, inside)) =
    let (j, (there, (is, e))) = only_broken (conditions g) c inside in
    broken_by g j there e

-- Of every ground
pub shown_exactly : (g : Ground) → ShownExactly g
unfolding shown
shown_exactly g =
    record {
      holds = hold_as_shown g;
      only = only_broken (conditions g);
      all = all_broken (conditions g);
      decides = (broken_reason g, reason_broken g);
    }
