-- The next grid, for the loop that tries each in turn; and that it is the number itself exactly where that is a grid's.
use Prim.Native.Nat.{ℕ, ◌+◌, ◌≤◌, ◌<◌}
use mathlib.Core.Path.{◌≡◌, refl, ◌∙◌}
use mathlib.Core.Bool.{Bool, true, false, cond, ◌||◌}
use mathlib.Core.List.{List, [], ◌∷◌}
use native.Mathlib.Nat.{lt_trans, lt_of_le_of_lt}
use native.Mathlib.Numerals.{add-one}
use native.Mathlib.Decide.{dec_le}
use native.Mathlib.Omega.{arith}
use borrow.Author.Tests.{ne_eqb, le-leb, lt-leb}
use lib.Dec.{eqb, leb, lit<}
use lib.ListN.{length, get_or, drop}
use lib.Seq.{drop-cons}
use Rattle.numbered.specs.Numbered.{one_of}
use Rattle.grids.specs.Grids.{grid_numbers, grid_points, next_of, next_grid}

-- the numbers before place i are all below n: the next is that of the others, or the last of these
pub record Passed (gs : List ℕ) (n i : ℕ) : Type 0 where
  pub next : next_of 0 gs n ≡ next_of (get_or (0 ∷ gs) i 0) (drop i gs) n

pub passed_none : (gs : List ℕ) (n : ℕ) → Passed gs n 0
passed_none gs n = record { next = refl }

-- a number that is not below n is the next
pub next_found : (gs : List ℕ) (n i : ℕ) → i < length gs → Passed gs n i → n ≤ get_or gs i 0 → get_or gs i 0 ≡ next_of 0 gs n
unfolding next_of
next_found gs n i h p l = rw (p.next, drop-cons gs i 0 h, le-leb _ _ l)

-- one that is below n is passed
pub passed_more : (gs : List ℕ) (n i : ℕ) → i < length gs → Passed gs n i → get_or gs i 0 < n → Passed gs n (i + 1)
unfolding next_of
passed_more gs n i h p l = record { next = p.next ∙ rw (drop-cons gs i 0 h, lt-leb _ _ l, add-one) }

-- each number below the next
abbrev Rising : ℕ → List ℕ → Type 0
Rising g [] = Unit {0}
Rising g (h ∷ hs) = (g < h) × Rising h hs

abbrev Rises : List ℕ → Type 0
Rises [] = Unit {0}
Rises (g ∷ gs) = Rising g gs

-- a number below the first of them is none of them
below_all : (n g : ℕ) (gs : List ℕ) → n < g → Rising g gs → one_of (g ∷ gs) n ≡ false
below_all n g [] l up = rw (ne_eqb n g (omega arith))
below_all n g (h ∷ hs) l (step, up) = rw (ne_eqb n g (omega arith)) (below_all n h hs (lt_trans l step) up)

or_false : (b : Bool) → b ≡ (b || false)
or_false true = refl
or_false false = refl

same_either : (test : Bool) (g : ℕ) → cond test g g ≡ g
same_either true g = refl
same_either false g = refl

-- the next of them is n itself exactly when n is one of them
next_is_itself : (last n g : ℕ) (gs : List ℕ) → Rising g gs → eqb n (next_of last (g ∷ gs) n) ≡ one_of (g ∷ gs) n
unfolding next_of
next_is_itself last n g [] up = rw (same_either (leb n g) g) (or_false (eqb n g))
next_is_itself last n g (h ∷ hs) (step, up) = go (dec_le n g) (next_is_itself g n h hs up)
  where
    go : Dec (n ≤ g) → eqb n (next_of g (h ∷ hs) n) ≡ one_of (h ∷ hs) n → eqb n (cond (leb n g) g (next_of g (h ∷ hs) n)) ≡ one_of (g ∷ h ∷ hs) n
    go (yes l) later = rw (le-leb n g l, below_all n h hs (lt_of_le_of_lt l step) up) (or_false (eqb n g))
    go (no l) later =
        let past : g < n = omega arith in
        rw (lt-leb n g past, ne_eqb n g (omega arith)) later

numbers_rise : Rises grid_numbers
numbers_rise = (lit< tt, (lit< tt, (lit< tt, (lit< tt, (lit< tt, (lit< tt, (lit< tt, (lit< tt, tt))))))))

-- A number of points is a grid's exactly when it is the next grid's
pub grid_exactly : (n : ℕ) → eqb n (next_grid n) ≡ grid_points n
unfolding next_grid
grid_exactly n = next_is_itself 0 n _ _ numbers_rise
