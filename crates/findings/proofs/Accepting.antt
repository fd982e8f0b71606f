-- A list is accepted exactly when no finding in it is a fault.
use Prim.Native.Nat.{ℕ, zero, suc, ◌<◌, suc-le-suc}
use mathlib.Core.Path.{◌≡◌, refl, sym, ◌∙◌}
use mathlib.Core.Bool.{Bool, true, false, not, ◌&&◌, false≢true}
use mathlib.Core.List.{List, [], ◌∷◌}
use mathlib.Core.Logic.{◌↔◌}
use native.Mathlib.Nat.{not-suc-le-zero, le_of_suc-le-suc, zero-lt-suc}
use borrow.Author.Tests.{eq-eqb, ne_eqb}
use lib.Dec.{eqb}
use lib.ListN.{length, get_or}
use Rattle.classes.specs.Classes.{fault}
use Rattle.findings.specs.declared.Finding.{Finding}
use Rattle.findings.specs.Listing.{accepted, no_finding}

pub and_false : (b : Bool) → false ≡ (b && false)
and_false true = refl
and_false false = refl

-- a fault in the list
pub fault_void : (fs : List Finding) (i : ℕ) → i < length fs → (get_or fs i no_finding).class ≡ fault → false ≡ accepted fs
unfolding accepted
fault_void [] i h e = absurd (not-suc-le-zero h)
fault_void (f ∷ fs) zero h e = rw (eq-eqb _ _ e)
fault_void (f ∷ fs) (suc i) h e =
    rw (← fault_void fs i (le_of_suc-le-suc h) e) (and_false (not (eqb f.class fault)))

-- none in it
pub notes_accepted : (fs : List Finding) → ((i : ℕ) → i < length fs → (get_or fs i no_finding).class ≡ fault → ⊥) → true ≡ accepted fs
unfolding accepted
notes_accepted [] h = refl
notes_accepted (f ∷ fs) h =
    rw (ne_eqb _ _ (h zero (zero-lt-suc (length fs)))) (notes_accepted fs (λ i l. h (suc i) (suc-le-suc l)))

-- Accepted exactly when no finding is a fault
pub accepted_exactly : (fs : List Finding) → (accepted fs ≡ true) ↔ ((i : ℕ) → i < length fs → (get_or fs i no_finding).class ≡ fault → ⊥)
accepted_exactly fs = (
  (λ yes-accepted i l e. false≢true (fault_void fs i l e ∙ yes-accepted)),
  (λ none. sym (notes_accepted fs none)),
)
