-- A rule at a place of which it speaks, and at one of which it does not.
use Prim.Native.Nat.{ℕ, ◌+◌, ◌≤◌, ◌<◌}
use mathlib.Core.Path.{◌≡◌, refl, sym}
use mathlib.Core.Bool.{Bool, true, false, true≢false, cond, ◌&&◌, ◌||◌}
use native.Mathlib.Omega.{arith}
use borrow.Author.Tests.{lt-ltb, le-ltb, eq-eqb, ne_eqb, eqb-true, ltb-true, ltb-false, eqb-false}
use lib.Dec.{ltb, eqb}
use Rattle.records.specs.declared.Counts.{Counts}
use Rattle.records.specs.declared.Run.{Run}
use Rattle.lines.specs.declared.Lines.{Lines}
use Rattle.choosing.specs.declared.Chosen.{Chosen}
use Rattle.steps.specs.declared.Figure.{Figure}
use Rattle.grounds.specs.declared.Ground.{Ground}
use Rattle.grounds.specs.declared.Ground.TheVariants.{Silent}
use Rattle.grounds.specs.Grounds.{broken}
use Rattle.classes.specs.Classes.{places_of, place_at}
use Rattle.rules.specs.Rules.{ground_of}
use Rattle.findings.specs.Listing.{part_of, beside_of, broken_at}
use Rattle.findings.specs.Seeking.{index_of, ground_at}

-- the index of a rule's place is one less, or 0 where the rule is about the whole run
pub index_of_place : (n : Counts) (rule i : ℕ) → i < places_of n rule → index_of (place_at rule i) ≡ i
unfolding place_at places_of
index_of_place n rule i inside = go (eqb rule 10) (eqb rule 11) (eqb rule 17) inside
  where
    go : (a b c : Bool) → i < cond a n.points (cond b n.segments (cond c n.weighings 1)) → index_of (cond (a || (b || (c || false))) (i + 1) 0) ≡ i
    go true b c h = omega arith
    go false true c h = omega arith
    go false false true h = omega arith
    go false false false h = omega (arith, h)

and_false : (b : Bool) → (b && false) ≡ false
and_false true = refl
and_false false = refl

-- nothing is not broken
pub silent_stands : {g : Ground} → Silent ≡ g → broken g ≡ true → ⊥
unfolding broken
silent_stands e h = true≢false (sym (rw (← e) at h))

module _ (fig : Figure) (r : Run) (ch : Chosen) (l : Lines) (rule place : ℕ) where
  -- behind the last of its places
  silent_behind : places_of r.header.counts rule ≤ index_of place → Silent ≡ ground_at fig r ch l rule place
  unfolding ground_at
  silent_behind h = rw (le-ltb _ _ h)

  -- where its places are counted otherwise
  silent_elsewhere : (place ≡ place_at rule (index_of place) → ⊥) → Silent ≡ ground_at fig r ch l rule place
  unfolding ground_at
  silent_elsewhere h = rw (ne_eqb _ _ h, and_false (ltb (index_of place) (places_of r.header.counts rule)))

  -- it speaks of the place
  pub spoken : index_of place < places_of r.header.counts rule → place ≡ place_at rule (index_of place) → ground_of (part_of r rule (index_of place)) (beside_of fig r ch l) rule ≡ ground_at fig r ch l rule place
  unfolding ground_at
  spoken inside there = rw (lt-ltb _ _ inside, eq-eqb _ _ there)

  -- a rule that is broken at a place speaks of it
  module _ (is : broken (ground_at fig r ch l rule place) ≡ true) where
    pub spoken_inside : index_of place < places_of r.header.counts rule
    spoken_inside = go (ltb (index_of place) (places_of r.header.counts rule)) refl
      where
        go : (b : Bool) → ltb (index_of place) (places_of r.header.counts rule) ≡ b → index_of place < places_of r.header.counts rule
        go true e = ltb-true _ _ e
        go false e = absurd (silent_stands (silent_behind (ltb-false _ _ e)) is)

    pub spoken_there : place ≡ place_at rule (index_of place)
    spoken_there = go (eqb place (place_at rule (index_of place))) refl
      where
        go : (b : Bool) → eqb place (place_at rule (index_of place)) ≡ b → place ≡ place_at rule (index_of place)
        go true e = eqb-true _ _ e
        go false e = absurd (silent_stands (silent_elsewhere (eqb-false _ _ e)) is)

    pub spoken_broken : broken_at fig r ch l rule (index_of place) ≡ true
    unfolding broken_at
    spoken_broken = rw (spoken spoken_inside spoken_there) is
