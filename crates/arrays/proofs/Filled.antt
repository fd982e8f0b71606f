-- An array that a loop fills with a list, one element after another.
use Prim.Native.Nat.{ℕ, suc, ◌+◌, ◌-◌, ◌<◌}
use mathlib.Core.Path.{◌≡◌, refl}
use mathlib.Core.List.{List, [], ◌∷◌, ◌++◌}
use native.Mathlib.Nat.{sub-zero}
use native.Mathlib.Omega.{arith}
use lib.ListN.{length, replicate, set, take, length-append}
use lib.Seq.{set-append_seam, append_snoc, take-append_seam}
use Rattle.arrays.specs.Arrays.{filled_to}

-- the array holds xs, and `next` is the first place behind it
pub record Filled {A : Type 0} (size : ℕ) (none : A) (xs : List A) (next : ℕ) (array : List A) : Type 0 where
  pub count : next ≡ length xs
  pub holds : array ≡ filled_to size none xs

-- nothing yet
pub filled_none : {A : Type 0} (size : ℕ) (none : A) → Filled size none [] 0 (replicate size none)
unfolding filled_to
filled_none size none = record { count = refl; holds = rw (sub-zero size) }

-- one element more takes the first free place
pub filled_more : {A : Type 0} {size : ℕ} {none : A} {xs : List A} {next : ℕ} {array : List A} (a : A) → Filled size none xs next array → next < size → Filled size none (xs ++ (a ∷ [])) (next + 1) (set array next a)
unfolding filled_to
filled_more {A} {size} {none} {xs} {next} {array} a f room =
    let k : ℕ = size - length xs - 1 in
    let longer : length (xs ++ (a ∷ [])) ≡ length xs + 1 = length-append xs (a ∷ []) in
    let here : size - length xs ≡ suc k = omega (arith, f.count) in
    let behind : size - length (xs ++ (a ∷ [])) ≡ k = omega arith in
    record {
      count = omega (arith, f.count);
      holds = rw (f.holds, f.count, here, behind, append_snoc xs a (replicate k none)) (set-append_seam xs none (replicate k none) a);
    }

-- the list is the array's front
pub filled_front : {A : Type 0} (size : ℕ) (none : A) (xs : List A) → take (length xs) (filled_to size none xs) ≡ xs
unfolding filled_to
filled_front size none xs = take-append_seam xs (replicate (size - length xs) none)
