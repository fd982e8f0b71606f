-- The trouble of a record at a place of a file: incomplete, or that of its rows, moved to the place.
use Prim.Native.Nat.{ℕ, zero, suc, ◌+◌, ◌*◌, ◌^◌, ◌≤◌, ◌<◌}
use mathlib.Core.Path.{◌≡◌, refl, ◌∙◌, ap}
use mathlib.Core.Bool.{Bool, true}
use mathlib.Core.List.{List}
use native.Mathlib.Nat.{mul-zero, mul-suc, lt-suc_self}
use native.Mathlib.Omega.{arith}
use borrow.Author.Tests.{leb-true, le-leb, lt-leb}
use lib.Dec.{leb}
use lib.ListN.{length, drop, length-drop}
use Rattle.fields.specs.Trouble.{Trouble, Clear, At, first, incomplete, Row, AllGood, checks, from, trouble_place, record_trouble, up_to}
use Rattle.fields.proofs.FirstTrouble.{told, each, clear_left, clear_right, unless_clear, from_clear, checks_clear, checks_reach, first_told, unless_told, checks_told, from_told, each_clear}

-- t is what is left of s from `at` on
module _ (s : List ℕ) (at size : ℕ) (rows : List Row) {t : List ℕ} (rest : t ≡ drop at s) where
  -- fewer bytes left than the record has
  pub short_at : length t < size → At incomplete (length s) ≡ record_trouble s at size rows
  unfolding record_trouble first
  short_at h = rw (lt-leb size (length (drop at s)) (rw rest at h))

  -- enough of them
  pub whole_at : size ≤ length t → {own r : Trouble} → own ≡ checks Clear rows → r ≡ from at own → r ≡ record_trouble s at size rows
  unfolding record_trouble first
  whole_at h e f = rw (le-leb size (length (drop at s)) (rw rest at h), ← e) f

  -- no place of it is out of reach
  pub reach_at : size ≤ length t → length s < 2 ^ 63 → 1 ≤ size → each (λ n p. leb p size) rows ≡ true → {own : Trouble} → own ≡ checks Clear rows → at + trouble_place own < 2 ^ 64
  reach_at h long some low {own} e =
      let reach : trouble_place own ≤ size = rw e (checks_reach size rows low) in
      let left = ap length rest ∙ length-drop at s in
      omega (arith, left)

-- What a clear record says

pub complete_at : (s : List ℕ) (at size : ℕ) (rows : List Row) → 1 ≤ size → record_trouble s at size rows ≡ Clear → at + size ≤ length s
unfolding record_trouble
complete_at s at size rows some e =
    let left : size ≤ length (drop at s) = leb-true _ _ (unless_clear _ _ _ (clear_left _ _ e)) in
    omega (arith, length-drop at s)

pub good_at : (s : List ℕ) (at size : ℕ) (rows : List Row) → record_trouble s at size rows ≡ Clear → AllGood rows
unfolding record_trouble
good_at s at size rows e = checks_clear rows (from_clear at _ (clear_right _ _ e))

-- clear records of one size that stand one after the other end within the file
pub row_fits :
    (s : List ℕ) (at size : ℕ) (rows : ℕ → List Row) (n : ℕ)
    → 1 ≤ size
    → at ≤ length s
    → up_to (λ i. record_trouble s (at + size * i) size (rows i)) n ≡ Clear
    → at + size * n ≤ length s
row_fits s at size rows zero some low e = omega (arith, mul-zero size)
row_fits s at size rows (suc n) some low e =
    let last = complete_at s (at + size * n) size (rows n) some (each_clear _ (suc n) e n (lt-suc_self n)) in
    omega (arith, last, mul-suc size n)

-- What can be said of every number of a record's trouble
pub told_at :
    (P : ℕ → Bool) (s : List ℕ) (at size : ℕ) (rows : List Row)
    → P incomplete ≡ true
    → each (λ n p. P n) rows ≡ true
    → told (λ n p. P n) (record_trouble s at size rows) ≡ true
unfolding record_trouble
told_at P s at size rows one all =
    first_told (λ n p. P n) _ _
    (unless_told (λ n p. P n) (leb size (length (drop at s))) incomplete (length s) one)
    (from_told P at (checks Clear rows) (checks_told (λ n p. P n) Clear rows refl all))
