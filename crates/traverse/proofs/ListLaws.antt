-- A list that grows by equal parts, and two of its numbers at a time in an array.
use Prim.Native.Nat.{ℕ, zero, suc, ◌+◌, ◌*◌, ◌≤◌, ◌<◌}
use mathlib.Core.Path.{◌≡◌, refl, sym, ◌∙◌}
use mathlib.Core.List.{List, [], ◌∷◌, ◌++◌, append_assoc}
use mathlib.Core.Logic.{⊎_elim}
use native.Mathlib.Nat.{add_assoc, suc-mul, zero-mul, mul-le-mul_right, eq-or-lt_of_le, le_of_suc-le-suc, not-suc-le-zero}
use native.Mathlib.Numerals.{add-one}
use native.Mathlib.Omega.{arith}
use lib.ListN.{length, get_or, set, length-append, get_or-append}
use lib.Seq.{get_or-append-add}
use Rattle.arrays.proofs.Filled.{Filled, filled_more}
use Rattle.traverse.specs.Layout.{each_to, most_distances}

-- No part, and one part more, at the code's n + 1
pub each_none : (f : ℕ → List ℕ) → each_to f 0 ≡ []
unfolding each_to
each_none f = refl

pub each_more : (f : ℕ → List ℕ) (n : ℕ) → each_to f (n + 1) ≡ each_to f n ++ f (n + 1)
unfolding each_to
each_more f n = rw (add-one n)

-- Parts of k elements each
module _ (f : ℕ → List ℕ) (k : ℕ) (equal : (i : ℕ) → length (f i) ≡ k) where
  pub each_length : (n : ℕ) → length (each_to f n) ≡ n * k
  unfolding each_to
  each_length zero = sym (zero-mul k)
  each_length (suc n) =
      length-append (each_to f n) (f (suc n)) ∙ rw (each_length n, equal (suc n), suc-mul n k)

  -- Element i of part j, both counted from 0
  pub each_at : (n j i : ℕ) → j < n → i < k → get_or (each_to f n) (j * k + i) 0 ≡ get_or (f (j + 1)) i 0
  unfolding each_to
  each_at zero j i inside small = absurd (not-suc-le-zero inside)
  each_at (suc n) j i inside small = ⊎_elim last (λ less. earlier less ∙ each_at n j i less small) (eq-or-lt_of_le (le_of_suc-le-suc inside))
    where
      last : j ≡ n → get_or (each_to f n ++ f (suc n)) (j * k + i) 0 ≡ get_or (f (j + 1)) i 0
      last same = rw (same, ← each_length n, get_or-append-add (each_to f n) (f (suc n)) i 0, add-one n)

      earlier : j < n → get_or (each_to f n ++ f (suc n)) (j * k + i) 0 ≡ get_or (each_to f n) (j * k + i) 0
      earlier less =
          let size : length (each_to f n) ≡ n * k = each_length n in
          let more : suc j * k ≡ j * k + k = suc-mul j k in
          let room : suc j * k ≤ n * k = mul-le-mul_right k less in
          get_or-append (each_to f n) (f (suc n)) 0 (j * k + i) (omega arith)

-- Two numbers more, at the end of the second of two lists
pub filled_two : (xs ys : List ℕ) {at : ℕ} {array : List ℕ} (a b : ℕ) → Filled most_distances 0 (xs ++ ys) at array → at + 1 < most_distances → Filled most_distances 0 (xs ++ (ys ++ (a ∷ b ∷ []))) (at + 2) (set (set array at a) (at + 1) b)
filled_two xs ys {at = at} a b t room =
    simp (append_assoc, add_assoc) at (filled_more b (filled_more a t (omega arith)) room)
