-- The laws of looking back over what was read: whether any of the first n is as asked.
use Prim.Native.Nat.{ℕ, zero, suc, ◌+◌, ◌≤◌, ◌<◌}
use mathlib.Core.Path.{◌≡◌, refl, sym, ◌∙◌, ap, ap₂}
use mathlib.Core.Bool.{Bool, true, false, true≢false, ◌||◌}
use mathlib.Core.Logic.{⊎_elim}
use native.Mathlib.Nat.{le_of_suc-le-suc, le_antisymm, lt_trans, lt-suc_self, eq-or-lt_of_le}
use native.Mathlib.Numerals.{add-one}
use native.Mathlib.Omega.{arith}
use Rattle.entries.specs.Entries.{any_to}

pub or_true : (a b : Bool) → b ≡ true → (a || b) ≡ true
or_true true b e = refl
or_true false b e = e

or_left : (a b : Bool) → (a || b) ≡ false → a ≡ false
or_left true b e = e
or_left false b e = refl

or_right : (a b : Bool) → (a || b) ≡ false → b ≡ false
or_right true b e = absurd (true≢false e)
or_right false b e = e

pub any_none : (f : ℕ → Bool) → any_to f 0 ≡ false
unfolding any_to
any_none f = refl

-- A loop that looks back, where r says whether the next one is as asked

pub any_goes_on : (f : ℕ → Bool) (i : ℕ) {r : Bool} → any_to f i ≡ false → r ≡ f i → r ≡ false → any_to f (i + 1) ≡ false
unfolding any_to
any_goes_on f i e g h = rw (add-one, e) (sym g ∙ h)

pub any_stops : (f : ℕ → Bool) (i m : ℕ) {r : Bool} → r ≡ f i → r ≡ true → i < m → true ≡ any_to f m
unfolding any_to
any_stops f i zero g h less = absurd (omega arith)
any_stops f i (suc m) g h less =
    sym
    (⊎_elim
    (λ same. or_true (any_to f m) (f m) (ap f (sym same) ∙ sym g ∙ h))
    (λ before. ap (λ (b : Bool). b || f m) (sym (any_stops f i m g h before)))
    (eq-or-lt_of_le (le_of_suc-le-suc less)))

pub any_ends : (f : ℕ → Bool) (i m : ℕ) → any_to f i ≡ false → i ≤ m → m ≤ i → false ≡ any_to f m
any_ends f i m e low high = sym (ap (any_to f) (le_antisymm high low) ∙ e)

-- none of them: not this one
pub none_of : (f : ℕ → Bool) (n : ℕ) → any_to f n ≡ false → (i : ℕ) → i < n → f i ≡ false
unfolding any_to
none_of f zero e i h = absurd (omega arith)
none_of f (suc n) e i h =
    ⊎_elim
    (λ same. ap f same ∙ or_right (any_to f n) (f n) e)
    (λ less. none_of f n (or_left (any_to f n) (f n) e) i less)
    (eq-or-lt_of_le (le_of_suc-le-suc h))

-- the same answers below n: the same answer
pub any_ext : (f g : ℕ → Bool) (n : ℕ) → ((i : ℕ) → i < n → f i ≡ g i) → any_to f n ≡ any_to g n
unfolding any_to
any_ext f g zero h = refl
any_ext f g (suc n) h = ap₂ ◌||◌ (any_ext f g n (λ i l. h i (lt_trans l (lt-suc_self n)))) (h n (lt-suc_self n))
