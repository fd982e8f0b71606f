-- The laws of an array filled from the front.
use Prim.Native.Nat.{ℕ, zero, suc, ◌+◌, ◌≤◌, ◌<◌}
use mathlib.Core.Path.{◌≡◌, refl, sym, ◌∙◌, ap}
use mathlib.Core.List.{List}
use mathlib.Core.Logic.{⊎_elim}
use native.Mathlib.Nat.{eq-or-lt_of_le, le_of_suc-le-suc}
use native.Mathlib.Numerals.{add-one}
use native.Mathlib.Omega.{arith}
use lib.ListN.{length, get_or, set, replicate, length-set, length-replicate}
use lib.Seq.{get_or-set_same, get_or-set_other}
use Rattle.arrays.specs.Arrays.{padded}

module _ {A : Type 0} (size : ℕ) (none : A) (f : ℕ → A) where
  pub pad_length : (n : ℕ) → length (padded size none f n) ≡ size
  unfolding padded
  pad_length zero = length-replicate size none
  pad_length (suc n) = length-set (padded size none f n) n (f n) ∙ pad_length n

  -- nothing filled yet
  pub pad_none : replicate size none ≡ padded size none f 0
  unfolding padded
  pad_none = refl

  -- one more
  pub pad_more : (n : ℕ) {all : List A} {v : A} → all ≡ padded size none f n → v ≡ f n → set all n v ≡ padded size none f (n + 1)
  unfolding padded
  pad_more n e g = rw (add-one, e, g)

  -- what was filled in
  pub pad_at : (n i : ℕ) → i < n → n ≤ size → get_or (padded size none f n) i none ≡ f i
  unfolding padded
  pad_at zero i h room = absurd (omega arith)
  pad_at (suc n) i h room =
      ⊎_elim
      (λ same. ap (λ (j : ℕ). get_or (padded size none f (suc n)) j none) same ∙ get_or-set_same (padded size none f n) n (f n) none (rw (pad_length n) room) ∙ ap f (sym same))
      (λ less.
      let other : i ≡ n → ⊥ = λ e. omega arith in
      get_or-set_other (padded size none f n) n i (f n) none other ∙ pad_at n i less (omega arith))
      (eq-or-lt_of_le (le_of_suc-le-suc h))

-- the same elements: the same array
pub pad_ext : {A : Type 0} (size : ℕ) (none : A) (f g : ℕ → A) (n : ℕ) → ((i : ℕ) → f i ≡ g i) → padded size none f n ≡ padded size none g n
pad_ext size none f g n h = λ j. padded size none (λ i. h i j) n
