-- The laws of the first trouble met: of a record's rows, and of records in a row.
use Prim.Native.Nat.{ℕ, zero, suc, ◌+◌, ◌≤◌, ◌<◌}
use mathlib.Core.Path.{◌≡◌, refl, sym, ◌∙◌, ap, ap₂}
use mathlib.Core.Bool.{Bool, true, false, false≢true, ◌&&◌}
use mathlib.Core.Logic.{⊎_elim}
use mathlib.Core.List.{List, [], ◌∷◌, ◌++◌}
use native.Mathlib.Nat.{zero-add, le_of_suc-le-suc, le_antisymm, eq-or-lt_of_le, lt-suc_self}
use native.Mathlib.Numerals.{add-one}
use native.Mathlib.Omega.{arith}
use borrow.Author.Tests.{leb-true}
use lib.Dec.{leb}
use Rattle.fields.specs.Trouble.{Trouble, Clear, At, first, trouble_unless, unless, Row, moved_along, AllGood, checks, trouble_place, from, up_to}

-- Clear is no trouble at any place
pub clear_not_at : {X : Type 0} {t : Trouble} {n p : ℕ} → t ≡ Clear → t ≡ At n p → X
clear_not_at e f = let z : ◌≡◌ {A = ℕ} 0 1 = cc in absurd (omega arith)

-- The earlier of two

pub first_clear : {t : Trouble} (u : Trouble) → t ≡ Clear → first t u ≡ u
unfolding first
first_clear u e = rw e

pub first_at : {t : Trouble} (u : Trouble) {n p : ℕ} → t ≡ At n p → first t u ≡ At n p
unfolding first
first_at u e = rw e

-- nothing after the first trouble: the same trouble
pub clear_last : (t : Trouble) → first t Clear ≡ t
unfolding first
clear_last Clear = refl
clear_last (At n p) = refl

pub first_assoc : (t u v : Trouble) → first (first t u) v ≡ first t (first u v)
unfolding first
first_assoc Clear u v = refl
first_assoc (At n p) u v = refl

-- both are clear where the first of them is
pub clear_left : (t u : Trouble) → first t u ≡ Clear → t ≡ Clear
unfolding first
clear_left Clear u e = refl
clear_left (At n p) u e = clear_not_at e refl

pub clear_right : (t u : Trouble) → first t u ≡ Clear → u ≡ Clear
unfolding first
clear_right Clear u e = e
clear_right (At n p) u e = clear_not_at e refl

-- no trouble exactly if all was well
pub unless_clear : (ok : Bool) (n p : ℕ) → trouble_unless ok n p ≡ Clear → ok ≡ true
unless_clear true n p e = refl
unless_clear false n p e = clear_not_at e refl

-- A record's rows

-- the trouble met before the rows comes first
pub checks_first : (t : Trouble) (rs : List Row) → checks t rs ≡ first t (checks Clear rs)
unfolding checks first
checks_first t [] = sym (clear_last t)
checks_first t (r ∷ rs) =
    let own = trouble_unless r.ok r.number r.place in
    checks_first (first t own) rs ∙ first_assoc t own (checks Clear rs) ∙ ap (first t) (sym (checks_first own rs))

-- rows and then others: those of the first, and then the others'
pub checks_both : (t : Trouble) (rs qs : List Row) → checks t (rs ++ qs) ≡ checks (checks t rs) qs
unfolding checks
checks_both t [] qs = refl
checks_both t (r ∷ rs) qs = checks_both (unless t r.ok r.number r.place) rs qs

-- rows moved along: their trouble moved along
checks_moved : (m : ℕ) (t : Trouble) (rs : List Row) → checks (from m t) (moved_along m rs) ≡ from m (checks t rs)
unfolding checks first
checks_moved m t [] = refl
checks_moved m t (r ∷ rs) =
    ap (λ (u : Trouble). checks u (moved_along m rs)) (along t r.ok) ∙ checks_moved m (unless t r.ok r.number r.place) rs
  where
    along : (t : Trouble) (ok : Bool) → unless (from m t) ok r.number (m + r.place) ≡ from m (unless t ok r.number r.place)
    along (At n p) ok = refl
    along Clear true = refl
    along Clear false = refl

-- rows and then others moved along: the trouble of the first, or else that of the others, moved along
pub checks_then : (rs : List Row) (m : ℕ) (qs : List Row) → checks Clear (rs ++ moved_along m qs) ≡ first (checks Clear rs) (from m (checks Clear qs))
checks_then rs m qs = checks_both Clear rs (moved_along m qs) ∙ checks_first _ (moved_along m qs) ∙ ap (first (checks Clear rs)) (checks_moved m Clear qs)

-- so the code answers the trouble r of the first early ..
pub then_met : (rs : List Row) (m : ℕ) (qs : List Row) {r : Trouble} {n p : ℕ} → r ≡ checks Clear rs → r ≡ At n p → r ≡ checks Clear (rs ++ moved_along m qs)
then_met rs m qs e told = told ∙ sym (first_at _ (sym e ∙ told)) ∙ sym (checks_then rs m qs)

-- .. or q was clear, and it answers that of the others
pub then_passed :
    (rs : List Row) (m : ℕ) (qs : List Row) {q own r : Trouble} {l : ℕ}
    → q ≡ checks Clear rs
    → q ≡ Clear
    → own ≡ checks Clear qs
    → l ≡ m
    → r ≡ from l own
    → r ≡ checks Clear (rs ++ moved_along m qs)
then_passed rs m qs e told others along f = (f ∙ ap₂ from along others) ∙ sym (first_clear _ (sym e ∙ told)) ∙ sym (checks_then rs m qs)

pub checks_clear : (rs : List Row) → checks Clear rs ≡ Clear → AllGood rs
unfolding checks first
checks_clear [] e = tt
checks_clear (r ∷ rs) e =
    let own = trouble_unless r.ok r.number r.place in
    let parts : first own (checks Clear rs) ≡ Clear = sym (checks_first own rs) ∙ e in
    (unless_clear _ _ _ (clear_left own (checks Clear rs) parts), checks_clear rs (clear_right own (checks Clear rs) parts))

-- What can be said of every trouble's number and place

-- nothing to say where there is no trouble
abbrev pub told : (ℕ → ℕ → Bool) → Trouble → Bool
told P Clear = true
told P (At number place) = P number place

-- said of every row
abbrev pub each : (ℕ → ℕ → Bool) → List Row → Bool
each P [] = true
each P (r ∷ rs) = P r.number r.place && each P rs

and_left : (a b : Bool) → (a && b) ≡ true → a ≡ true
and_left true b e = refl
and_left false b e = e

and_right : (a b : Bool) → (a && b) ≡ true → b ≡ true
and_right true b e = e
and_right false b e = absurd (false≢true e)

pub first_told : (P : ℕ → ℕ → Bool) (t u : Trouble) → told P t ≡ true → told P u ≡ true → told P (first t u) ≡ true
unfolding first
first_told P Clear u e f = f
first_told P (At n p) u e f = e

-- the later one need be spoken of only where the earlier is clear
pub later_told : (P : ℕ → ℕ → Bool) (t u : Trouble) → told P t ≡ true → (t ≡ Clear → told P u ≡ true) → told P (first t u) ≡ true
unfolding first
later_told P Clear u e f = f refl
later_told P (At n p) u e f = e

pub unless_told : (P : ℕ → ℕ → Bool) (ok : Bool) (n p : ℕ) → P n p ≡ true → told P (trouble_unless ok n p) ≡ true
unless_told P true n p e = refl
unless_told P false n p e = e

pub checks_told : (P : ℕ → ℕ → Bool) (t : Trouble) (rs : List Row) → told P t ≡ true → each P rs ≡ true → told P (checks t rs) ≡ true
unfolding checks
checks_told P t [] e f = e
checks_told P t (r ∷ rs) e f =
    let own = and_left (P r.number r.place) (each P rs) f in
    checks_told P (unless t r.ok r.number r.place) rs
    (first_told P t _ e (unless_told P r.ok r.number r.place own))
    (and_right (P r.number r.place) (each P rs) f)

-- the rows' places reach no further than m
pub checks_reach : (m : ℕ) (rs : List Row) → each (λ n p. leb p m) rs ≡ true → trouble_place (checks Clear rs) ≤ m
checks_reach m rs e = reach (checks Clear rs) (checks_told (λ n p. leb p m) Clear rs refl e)
  where
    reach : (t : Trouble) → told (λ n p. leb p m) t ≡ true → trouble_place t ≤ m
    reach Clear f = omega arith
    reach (At n p) f = leb-true p m f

-- a place moved along keeps its number
pub from_told : (P : ℕ → Bool) (start : ℕ) (t : Trouble) → told (λ n p. P n) t ≡ true → told (λ n p. P n) (from start t) ≡ true
from_told P start Clear e = refl
from_told P start (At n p) e = e

pub from_clear : (start : ℕ) (t : Trouble) → from start t ≡ Clear → t ≡ Clear
from_clear start Clear e = refl
from_clear start (At n p) e = clear_not_at e refl

-- a record that starts the file
pub from_zero : (t : Trouble) → t ≡ from 0 t
from_zero Clear = refl
from_zero (At n p) = rw (zero-add p)

-- Records in a row

pub none_clear : (f : ℕ → Trouble) → up_to f 0 ≡ Clear
unfolding up_to
none_clear f = refl

-- clear as a whole: clear each
pub each_clear : (f : ℕ → Trouble) (n : ℕ) → up_to f n ≡ Clear → (i : ℕ) → i < n → f i ≡ Clear
unfolding up_to
each_clear f zero e i h = absurd (omega arith)
each_clear f (suc n) e i h =
    ⊎_elim
    (λ same. ap f same ∙ clear_right (up_to f n) (f n) e)
    (λ less. each_clear f n (clear_left (up_to f n) (f n) e) i less)
    (eq-or-lt_of_le (le_of_suc-le-suc h))

pub up_told : (P : ℕ → ℕ → Bool) (f : ℕ → Trouble) (n : ℕ) → ((i : ℕ) → i < n → told P (f i) ≡ true) → told P (up_to f n) ≡ true
unfolding up_to
up_told P f zero h = refl
up_told P f (suc n) h = first_told P (up_to f n) (f n) (up_told P f n (λ i less. h i (omega arith))) (h n (lt-suc_self n))

-- A loop over records, where r is the trouble of the next one

-- r is clear: so are the records with it
pub goes_on : (f : ℕ → Trouble) (i : ℕ) {r : Trouble} → up_to f i ≡ Clear → r ≡ f i → r ≡ Clear → up_to f (i + 1) ≡ Clear
unfolding up_to
goes_on f i e g h = rw add-one (first_clear (f i) e ∙ sym g ∙ h)

-- r is not: it is the trouble of them all
pub stops : (f : ℕ → Trouble) (i m : ℕ) {r : Trouble} {n p : ℕ} → up_to f i ≡ Clear → r ≡ f i → r ≡ At n p → i < m → r ≡ up_to f m
unfolding up_to
stops f i zero e g h less = absurd (omega arith)
stops f i (suc m) e g h less =
    ⊎_elim
    (λ same. sym (first_clear (f m) (ap (up_to f) (sym same) ∙ e) ∙ ap f (sym same) ∙ sym g))
    (λ before.
    let rest = stops f i m e g h before in
    h ∙ sym (first_at (f m) (sym rest ∙ h)))
    (eq-or-lt_of_le (le_of_suc-le-suc less))

-- none is left
pub ends : (f : ℕ → Trouble) (i m : ℕ) → up_to f i ≡ Clear → i ≤ m → m ≤ i → Clear ≡ up_to f m
ends f i m e low high = sym (ap (up_to f) (le_antisymm high low) ∙ e)

-- Rows and then others: the trouble of the first, or else that of the others
pub checks_parts : (rs qs : List Row) → checks Clear (rs ++ qs) ≡ first (checks Clear rs) (checks Clear qs)
checks_parts rs qs = checks_both Clear rs qs ∙ checks_first (checks Clear rs) qs
