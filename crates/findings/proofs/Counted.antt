-- How many weighings are of a kind, counted over a list.
use Prim.Native.Nat.{ℕ, zero, suc, ◌+◌, ◌≤◌}
use mathlib.Core.Path.{◌≡◌, refl, sym, ◌∙◌}
use mathlib.Core.Bool.{Bool, true, false, cond}
use mathlib.Core.List.{List, ◌∷◌}
use native.Mathlib.Omega.{arith}
use lib.Dec.{eqb}
use lib.ListN.{length, get_or, take}
use Rattle.std.specs.List.{count_by}
use Rattle.std.proofs.lemmas.List.Recursion.{is_count_by}
use Rattle.records.specs.declared.Weighing.{Weighing}
use Rattle.records.specs.Records.{no_weighing, sum_to}
use Rattle.records.proofs.Sums.{sum_none}
use Rattle.values.proofs.Taken.{sum_taken}
use Rattle.findings.specs.Listing.{one_of_kind, of_kind}

-- a sum begins with its first term
sum_front : (f : ℕ → ℕ) (n : ℕ) → sum_to f (suc n) ≡ f 0 + sum_to (λ i. f (suc i)) n
unfolding sum_to
sum_front f zero = omega arith
sum_front f (suc n) = omega (arith, sum_front f n)

one_more : (b : Bool) (k : ℕ) → cond b 1 0 + k ≡ cond b (1 + k) k
one_more true k = refl
one_more false k = omega arith

-- all that pass the test
pub kind_counted : (kind : ℕ) (ws : List Weighing) → of_kind kind ws (length ws) ≡ count_by (λ w. eqb w.kind kind) ws
unfolding of_kind
kind_counted kind =
    is_count_by (λ ws. of_kind kind ws (length ws)) (λ w. eqb w.kind kind)
    (sym (sum_none _))
    (λ w ws. sum_front (λ i. one_of_kind kind (get_or (w ∷ ws) i no_weighing)) (length ws) ∙ one_more (eqb w.kind kind) _)

-- of the first n
pub kind_taken : (kind : ℕ) (ws : List Weighing) (n : ℕ) → n ≤ length ws → of_kind kind (take n ws) (length (take n ws)) ≡ of_kind kind ws n
unfolding of_kind
kind_taken kind ws n whole = sum_taken no_weighing ws n whole (one_of_kind kind)
