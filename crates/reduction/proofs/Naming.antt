-- Which run has a number: the one that is found has it, where none is found none has, and how the search for it goes.
use Rattle.std.specs.Prelude.{Option, Some, None}
use Prim.Native.Nat.{ℕ, zero, suc, ◌+◌, ◌<◌}
use mathlib.Core.Path.{◌≡◌, refl, sym, ◌∙◌, ap}
use mathlib.Core.Bool.{Bool, true, false, cond}
use mathlib.Core.List.{List}
use mathlib.Core.Logic.{◌⊎◌, inl, inr}
use native.Mathlib.Decide.{ℕ_discrete}
use native.Mathlib.Numerals.{add-one}
use native.Mathlib.Omega.{arith}
use borrow.Author.Tests.{eqb-true, eqb-false, eq-eqb, ne_eqb}
use lib.Dec.{eqb}
use lib.ListN.{drop}
use Rattle.fields.specs.Numbers.{u16_at}
use Rattle.records.specs.declared.Run.{Run}
use Rattle.parts.specs.Values.{run_at}
use Rattle.job.specs.Places.{run_start, run_of}
use Rattle.reduction.specs.Reducing.{run_named}

module _ (f : ℕ → Run) (number : ℕ) where
  -- it is one of the runs looked at
  inside_step : (test : Bool) (rest : Option ℕ) (n : ℕ) {k : ℕ} → cond test (Some n) rest ≡ Some k → (rest ≡ Some k → k < n) → k < suc n
  inside_step true rest n {k} e before = let same : n ≡ k = cc in omega arith
  inside_step false rest n e before = let less = before e in omega arith

  pub found_inside : (n : ℕ) {k : ℕ} → run_named f number n ≡ Some k → k < n
  unfolding run_named
  found_inside zero e = let never : ◌≡◌ {A = ℕ} 0 1 = cc in absurd (omega arith)
  found_inside (suc n) e = inside_step (eqb (f n).header.number number) (run_named f number n) n e (found_inside n)

  named_step : (n : ℕ) (test : Bool) → eqb (f n).header.number number ≡ test → {k : ℕ} → cond test (Some n) (run_named f number n) ≡ Some k → (run_named f number n ≡ Some k → (f k).header.number ≡ number) → (f k).header.number ≡ number
  named_step n true e {k} found before = let same : n ≡ k = cc in ap (λ i. (f i).header.number) (sym same) ∙ eqb-true _ _ e
  named_step n false e found before = before found

  pub named : (n : ℕ) {k : ℕ} → run_named f number n ≡ Some k → (f k).header.number ≡ number
  unfolding run_named
  named zero e = let never : ◌≡◌ {A = ℕ} 0 1 = cc in absurd (omega arith)
  named (suc n) e = named_step n (eqb (f n).header.number number) refl e (named n)

  none_step : (n : ℕ) (test : Bool) → eqb (f n).header.number number ≡ test → cond test (Some n) (run_named f number n) ≡ None → (run_named f number n ≡ None → (k : ℕ) → k < n → (f k).header.number ≡ number → ⊥) → (k : ℕ) → k < suc n → (f k).header.number ≡ number → ⊥
  none_step n true e found before k inside same = let never : ◌≡◌ {A = ℕ} 0 1 = cc in absurd (omega arith)
  none_step n false e found before k inside same = last (ℕ_discrete k n)
    where
      last : Dec (k ≡ n) → ⊥
      last (yes q) = eqb-false _ _ e (ap (λ i. (f i).header.number) (sym q) ∙ same)
      last (no q) = before found k (omega (arith, q)) same

  pub none_named : (n : ℕ) → run_named f number n ≡ None → (k : ℕ) → k < n → (f k).header.number ≡ number → ⊥
  unfolding run_named
  none_named zero e k inside same = absurd (omega (arith, inside))
  none_named (suc n) e k inside same = none_step n (eqb (f n).header.number number) refl e (none_named n) k inside same

-- the search for a run of a file by its number has passed k runs
pub record Sought (s : List ℕ) (number : ℕ) (found : Option ℕ) (k : ℕ) : Type 0 where
  pub is : found ≡ run_named (run_of s) number k

pub sought_none : (s : List ℕ) (number : ℕ) → Sought s number None 0
unfolding run_named
sought_none s number = record { is = refl }

pub sought_more : (s : List ℕ) (number k at : ℕ) {found next : Option ℕ} {read : ℕ} →
    Sought s number found k →
    at ≡ run_start s k →
    read ≡ u16_at (drop at s) 0 →
    ((read ≡ number) × (next ≡ Some k)) ⊎ ((read ≡ number → ⊥) × (next ≡ found)) →
    Sought s number next (k + 1)
unfolding run_named run_at
sought_more s number k at {found} {next} {read} so ea er (inl (e, en)) =
    let same : u16_at (drop (run_start s k) s) 0 ≡ number = ap (λ a. u16_at (drop a s) 0) (sym ea) ∙ sym er ∙ e in
    record { is = en ∙ rw (add-one k, eq-eqb _ _ same) }
sought_more s number k at {found} {next} {read} so ea er (inr (f, en)) =
    let other : u16_at (drop (run_start s k) s) 0 ≡ number → ⊥ = λ e. f (er ∙ ap (λ a. u16_at (drop a s) 0) ea ∙ e) in
    record { is = en ∙ rw (add-one k, ne_eqb _ _ other) so.is }
