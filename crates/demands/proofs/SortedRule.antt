-- The findings of one rule stand by their places.
use Prim.Native.Nat.{ℕ, zero, suc, ◌+◌, ◌≤◌, ◌<◌}
use mathlib.Core.Path.{◌≡◌, refl}
use mathlib.Core.Bool.{Bool, true, false, cond, ◌||◌, true≢false}
use mathlib.Core.List.Memᴰ
use mathlib.Core.List.{List, [], ◌∷◌, ◌++◌, Memᴰ}
use mathlib.Core.Logic.{◌⊎◌, inl, inr}
use native.Mathlib.Nat.{le_of_lt}
use native.Mathlib.Omega.{arith}
use lib.Dec.{eqb}
use Rattle.numbered.specs.Numbered.{one_of}
use Rattle.readings.specs.declared.headers.Version.{Version}
use Rattle.records.specs.declared.Counts.{Counts}
use Rattle.findings.specs.declared.Finding.{Finding}
use Rattle.classes.specs.Classes.{places_of, place_at}
use Rattle.findings.specs.Listing.{finding_at, rule_findings}
use Rattle.demands.specs.Demands.{Precedes}
use Rattle.findings.proofs.Members.{OfRule, rule_members}

-- every finding stands before all that follow it
abbrev pub Sorted : List Finding → Type 0
Sorted [] = Unit {0}
Sorted (f ∷ fs) = ((g : Finding) → Memᴰ g fs → Precedes f g) × Sorted fs

-- two sorted lists, one before the other
pub sorted_append : (fs gs : List Finding) → Sorted fs → Sorted gs → ((f g : Finding) → Memᴰ f fs → Memᴰ g gs → Precedes f g) → Sorted (fs ++ gs)
sorted_append [] gs s t all = t
sorted_append (f ∷ fs) gs (first, s) t all = (
  (λ g m. here g (Memᴰ.append_cases fs m)),
  sorted_append fs gs s t (λ f' g mf mg. all f' g (Memᴰ.tail mf) mg),
)
  where
    here : (g : Finding) → Memᴰ g fs ⊎ Memᴰ g gs → Precedes f g
    here g (inl m) = first g m
    here g (inr m) = all f g (Memᴰ.head refl) m

-- the place of a later point, segment or weighing is higher
whole_run : (a b c : Bool) (p s w : ℕ) → (a || (b || (c || false))) ≡ false → cond a p (cond b s (cond c w 1)) ≡ 1
whole_run true b c p s w e = absurd (true≢false e)
whole_run false true c p s w e = absurd (true≢false e)
whole_run false false true p s w e = absurd (true≢false e)
whole_run false false false p s w e = refl

place_rising : (n : Counts) (rule i j : ℕ) → i < j → j < places_of n rule → place_at rule i < place_at rule j
unfolding places_of place_at
place_rising n rule i j l inside = go (one_of (10 ∷ 11 ∷ 17 ∷ []) rule) refl
  where
    go : (t : Bool) → one_of (10 ∷ 11 ∷ 17 ∷ []) rule ≡ t → cond t (i + 1) 0 < cond t (j + 1) 0
    go true e = omega arith
    go false e =
        let one : places_of n rule ≡ 1 = whole_run (eqb rule 10) (eqb rule 11) (eqb rule 17) _ _ _ e in
        omega arith

module _ (v : Version) (n : Counts) (is_broken : ℕ → ℕ → Bool) where
  one_sorted : (t : Bool) (f : Finding) → Sorted (cond t (f ∷ []) [])
  one_sorted true f = ((λ g m. absurd (Memᴰ.not-nil m)), tt)
  one_sorted false f = tt

  one_is : (t : Bool) (f g : Finding) → Memᴰ g (cond t (f ∷ []) []) → g ≡ f
  one_is true f g m = Memᴰ.eq_of_singleton m
  one_is false f g m = absurd (Memᴰ.not-nil m)

  -- a rule's findings, by place
  pub rule_sorted : (rule i : ℕ) → i ≤ places_of n rule → Sorted (rule_findings v (is_broken rule) rule i)
  unfolding rule_findings finding_at
  rule_sorted rule zero inside = tt
  rule_sorted rule (suc i) inside =
      sorted_append (rule_findings v (is_broken rule) rule i) (cond (is_broken rule i) (finding_at v rule i ∷ []) [])
      (rule_sorted rule i (le_of_lt inside))
      (one_sorted (is_broken rule i) (finding_at v rule i))
      (λ f g mf mg.
      let o : OfRule v (is_broken rule) rule i f = rule_members v (is_broken rule) rule i mf in
      rw (o.is, one_is (is_broken rule i) (finding_at v rule i) g mg)
      (inr (refl, place_rising n rule o.index i o.inside inside)))
