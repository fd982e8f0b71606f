-- Tests that are computed over all the numbers of a range or of a list.
use Prim.Native.Nat.{ℕ, zero, suc, ◌<◌}
use mathlib.Core.Path.{◌≡◌, refl, ap, ◌∙◌}
use mathlib.Core.Bool.{Bool, true, false, false≢true, ◌&&◌, ◌||◌}
use mathlib.Core.List.{List, [], ◌∷◌}
use mathlib.Core.Logic.{⊎_elim}
use native.Mathlib.Nat.{eq-or-lt_of_le, le_of_suc-le-suc, not-suc-le-zero}
use borrow.Author.Tests.{eqb-true}
use lib.Dec.{eqb}
use Rattle.numbered.specs.Numbered.{one_of}
use Rattle.readings.proofs.Ranges.{both_left, both_right}

-- f passes at each number below n
abbrev pub all_below : (ℕ → Bool) → ℕ → Bool
all_below f zero = true
all_below f (suc n) = f n && all_below f n

pub all_below_lem : (f : ℕ → Bool) (n : ℕ) → all_below f n ≡ true → (i : ℕ) → i < n → f i ≡ true
all_below_lem f zero e i h = absurd (not-suc-le-zero h)
all_below_lem f (suc n) e i h =
    ⊎_elim (λ same. ap f same ∙ both_left (f n) (all_below f n) e) (λ less. all_below_lem f n (both_right (f n) (all_below f n) e) i less)
    (eq-or-lt_of_le (le_of_suc-le-suc h))

-- f passes at each number of a list
abbrev pub all_of : (ℕ → Bool) → List ℕ → Bool
all_of f [] = true
all_of f (n ∷ ns) = f n && all_of f ns

pub all_of_lem : (f : ℕ → Bool) (ns : List ℕ) → all_of f ns ≡ true → (v : ℕ) → one_of ns v ≡ true → f v ≡ true
all_of_lem f [] e v one = absurd (false≢true one)
all_of_lem f (n ∷ ns) e v one = go (all_of_lem f ns (both_right (f n) (all_of f ns) e) v) (eqb v n) refl one
  where
    go : (one_of ns v ≡ true → f v ≡ true) → (b : Bool) → eqb v n ≡ b → (b || one_of ns v) ≡ true → f v ≡ true
    go rest true same t = ap f (eqb-true v n same) ∙ both_left (f n) (all_of f ns) e
    go rest false other t = rest t
