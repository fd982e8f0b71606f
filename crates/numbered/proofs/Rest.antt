-- What the last arm of a `match` on a number knows: that it is none of those of the arms before.
use Prim.Native.Nat.{ℕ, zero, suc, ◌+◌, ◌≤◌, ◌<◌}
use mathlib.Core.Path.{◌≡◌, refl, sym}
use mathlib.Core.Bool.{Bool, true, false, true≢false, ◌&&◌, ◌||◌}
use mathlib.Core.List.{List, [], ◌∷◌, map}
use native.Mathlib.Omega.{arith}
use borrow.Author.Tests.{eqb-false, ne_eqb, ltb-true}
use lib.Dec.{eqb, ltb}
use Rattle.numbered.specs.Numbered.{one_of, Numbered, row_of}

-- P, and n is none of the numbers listed, told in turn
abbrev pub Besides : List ℕ → ℕ → Type 0 → Type 0
Besides [] n P = P
Besides (m ∷ ms) n P = Besides ms n (P × (n ≡ m → ⊥))

-- so it is not one of them
pub not_one_of : (ns : List ℕ) (n : ℕ) (P : Type 0) → Besides ns n P → (one_of ns n ≡ false) × P
not_one_of [] n P p = (refl, p)
not_one_of (m ∷ ms) n P p =
    let (rest, (before, not-this)) = not_one_of ms n (P × (n ≡ m → ⊥)) p in
    (rw (ne_eqb n m not-this) rest, before)

both_false : (a b : Bool) → (a || b) ≡ false → (a ≡ false) × (b ≡ false)
both_false true b e = absurd (true≢false e)
both_false false b e = (refl, e)

-- k numbers, upward from the least
abbrev pub up_from : ℕ → ℕ → List ℕ
up_from least zero = []
up_from least (suc k) = least ∷ up_from (least + 1) k

-- a number that is not one of them, nor below the least, is past them all
pub past_all : (least k n : ℕ) → one_of (up_from least k) n ≡ false → least ≤ n → least + k ≤ n
past_all least zero n other from = omega arith
past_all least (suc k) n other from =
    let (not_least, others) = both_false (eqb n least) _ other in
    let past : least + 1 ≤ n = omega (arith, eqb-false n least not_least) in
    omega (arith, past_all (least + 1) k n others past)

-- none of the numbers listed is above the most
abbrev pub all_up_to : ℕ → List ℕ → Bool
all_up_to most [] = true
all_up_to most (m ∷ ms) = ltb m (most + 1) && all_up_to most ms

both_true : (a b : Bool) → (a && b) ≡ true → (a ≡ true) × (b ≡ true)
both_true true b e = (refl, e)
both_true false b e = absurd (true≢false (sym e))

-- so a number above it is none of them
pub above_all : (most : ℕ) (ns : List ℕ) (n : ℕ) → all_up_to most ns ≡ true → most < n → one_of ns n ≡ false
above_all most [] n all above = refl
above_all most (m ∷ ms) n all above =
    let (this, others) = both_true (ltb m (most + 1)) _ all in
    let few : m < most + 1 = ltb-true m (most + 1) this in
    rw (ne_eqb n m (λ e. omega (arith, few, above, e))) (above_all most ms n others above)

module _ {A : Type 0} where
  -- the numbers of a table
  abbrev pub numbers_of : List (Numbered A) → List ℕ
  numbers_of rows = map (λ r. r.number) rows

  module _ (none : A) where
    pub other_number : (rows : List (Numbered A)) (n : ℕ) → one_of (numbers_of rows) n ≡ false → row_of none rows n ≡ none
    other_number [] n other = refl
    other_number (r ∷ rs) n other =
        let (not-this, others) = both_false (eqb n r.number) _ other in
        rw not-this (other_number rs n others)

    -- and a table with those numbers has no row of it
    pub no_row : (rows : List (Numbered A)) (n : ℕ) → Besides (numbers_of rows) n Unit → row_of none rows n ≡ none
    no_row rows n besides = other_number rows n (not_one_of (numbers_of rows) n Unit besides).0
