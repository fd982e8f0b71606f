-- What a trouble tells: where it was met first, and that all before it was clear.
use Prim.Native.Nat.{ℕ, zero, suc, ◌+◌, ◌≤◌, ◌<◌}
use mathlib.Core.Path.{◌≡◌, refl, sym, ◌∙◌, ap}
use mathlib.Core.Bool.{Bool, true, false}
use mathlib.Core.List.{List, [], ◌∷◌}
use native.Mathlib.Nat.{lt_trans, lt-suc_self}
use native.Mathlib.Omega.{arith}
use borrow.Author.Tests.{leb-true, leb-false}
use lib.Dec.{leb}
use lib.ListN.{length, drop, length-drop}
use Rattle.fields.specs.Trouble.{Trouble, Clear, At, first, trouble_unless, Row, AllGood, checks, from, record_trouble, up_to}
use Rattle.fields.proofs.FirstTrouble.{clear_not_at, first_clear, first_at, unless_clear, checks_first}
use Rattle.fields.proofs.RecordTrouble.{short_at, whole_at}
use Rattle.demands.specs.Table.{FirstBad, here, later}

-- Of two: met in the earlier, or in the later with the earlier clear
pub data Met (t u : Trouble) (n p : ℕ) : Type 0 where
  early : t ≡ At n p → Met t u n p
  late : t ≡ Clear → u ≡ At n p → Met t u n p

pub met : (t u : Trouble) {n p : ℕ} → first t u ≡ At n p → Met t u n p
unfolding first
met Clear u e = late refl e
met (At m q) u e = early e

-- Of a test: it failed
pub record Failed (ok : Bool) (m q n p : ℕ) : Type 0 where
  pub not : ok ≡ false
  pub number : m ≡ n
  pub place : q ≡ p

pub failed : (ok : Bool) (m q : ℕ) {n p : ℕ} → trouble_unless ok m q ≡ At n p → Failed ok m q n p
failed true m q e = clear_not_at refl e
failed false m q e = record { not = refl; number = cc; place = cc }

-- Of records in a row: met in one, with those before it clear
pub record MetIn (f : ℕ → Trouble) (m n p : ℕ) : Type 0 where
  pub index : ℕ
  pub inside : index < m
  pub clear : up_to f index ≡ Clear
  pub told : f index ≡ At n p

pub met_in : (f : ℕ → Trouble) (m : ℕ) {n p : ℕ} → up_to f m ≡ At n p → MetIn f m n p
unfolding up_to
met_in f zero e = clear_not_at refl e
met_in f (suc m) {n} {p} e = go (met_in f m) (met (up_to f m) (f m) e)
  where
    go : (up_to f m ≡ At n p → MetIn f m n p) → Met (up_to f m) (f m) n p → MetIn f (suc m) n p
    go before (early t) =
        let b = before t in
        record { index = b.index; inside = lt_trans b.inside (lt-suc_self m); clear = b.clear; told = b.told }
    go before (late c t) = record { index = m; inside = lt-suc_self m; clear = c; told = t }

-- each clear: clear as a whole
pub all_clear : (f : ℕ → Trouble) (n : ℕ) → ((i : ℕ) → i < n → f i ≡ Clear) → up_to f n ≡ Clear
unfolding up_to
all_clear f zero h = refl
all_clear f (suc n) h = first_clear (f n) (all_clear f n (λ i l. h i (lt_trans l (lt-suc_self n)))) ∙ h n (lt-suc_self n)

-- a test's trouble, where it failed and where it did not
pub unless_bad : {ok : Bool} (m q : ℕ) → ok ≡ false → trouble_unless ok m q ≡ At m q
unless_bad m q e = rw e

pub unless_good : {ok : Bool} (m q : ℕ) → ok ≡ true → trouble_unless ok m q ≡ Clear
unless_good m q e = rw e

-- Of a record's rows: the first that is not good
pub checks_bad : (rs : List Row) {n p : ℕ} → checks Clear rs ≡ At n p → FirstBad n p rs
unfolding checks
checks_bad [] e = clear_not_at refl e
checks_bad (r ∷ rs) {n} {p} e = go (λ t. checks_bad rs t) (met own (checks Clear rs) (sym (checks_first own rs) ∙ first_own ∙ e))
  where
    own : Trouble
    own = trouble_unless r.ok r.number r.place

    first_own : checks own rs ≡ checks (first Clear own) rs
    first_own = ap (λ (t : Trouble). checks t rs) (sym (first_clear own refl))

    go : (checks Clear rs ≡ At n p → FirstBad n p rs) → Met own (checks Clear rs) n p → FirstBad n p (r ∷ rs)
    go rest (early t) = let f = failed r.ok r.number r.place t in here f.not f.number f.place
    go rest (late c t) = later (well r.ok refl c) (rest t)
      where
        well : (ok : Bool) → r.ok ≡ ok → trouble_unless ok r.number r.place ≡ Clear → r.ok ≡ true
        well true e c = e
        well false e c = clear_not_at c refl

pub bad_checks : {n p : ℕ} {rs : List Row} → FirstBad n p rs → checks Clear rs ≡ At n p
unfolding checks
bad_checks (here {r} {rs} not number place) =
    checks_first (first Clear (trouble_unless r.ok r.number r.place)) rs
    ∙ first_at (checks Clear rs) (first_clear (trouble_unless r.ok r.number r.place) refl ∙ unless_bad r.number r.place not ∙ rw (number, place))
bad_checks (later {r} {rs} ok b) =
    ap (λ (t : Trouble). checks t rs) (first_clear (trouble_unless r.ok r.number r.place) refl ∙ unless_good r.number r.place ok)
    ∙ bad_checks b

pub good_checks : (rs : List Row) → AllGood rs → checks Clear rs ≡ Clear
unfolding checks
good_checks [] good = refl
good_checks (r ∷ rs) (ok, good) =
    ap (λ (t : Trouble). checks t rs) (first_clear (trouble_unless r.ok r.number r.place) refl ∙ unless_good r.number r.place ok)
    ∙ good_checks rs good

-- Of a record: the file ends before it is complete, or a field of it is the first that is not good
pub data RecordMet (s : List ℕ) (at size : ℕ) (rows : List Row) (n p : ℕ) : Type 0 where
  short : length s < at + size → 1 ≡ n → length s ≡ p → RecordMet s at size rows n p
  bad : {q : ℕ} → at + size ≤ length s → FirstBad n q rows → at + q ≡ p → RecordMet s at size rows n p

from_met : (at : ℕ) (t : Trouble) {n p : ℕ} → from at t ≡ At n p → (q : ℕ) × ((t ≡ At n q) × (at + q ≡ p))
from_met at Clear e = clear_not_at refl e
from_met at (At m q) e = (q, (ap (λ (k : ℕ). At k q) (cc), cc))

pub record_met : (s : List ℕ) (at size : ℕ) (rows : List Row) {n p : ℕ} → 1 ≤ size → record_trouble s at size rows ≡ At n p → RecordMet s at size rows n p
unfolding record_trouble
record_met s at size rows {n} {p} some e = go (met _ _ e)
  where
    go : Met (trouble_unless (leb size (length (drop at s))) 1 (length s)) (from at (checks Clear rows)) n p → RecordMet s at size rows n p
    go (early t) =
        let f = failed (leb size (length (drop at s))) 1 (length s) t in
        short (omega (arith, leb-false size (length (drop at s)) f.not, length-drop at s)) f.number f.place
    go (late c t) =
        let (q, (own, there)) = from_met at (checks Clear rows) t in
        bad (omega (arith, leb-true size (length (drop at s)) (unless_clear _ _ _ c), length-drop at s)) (checks_bad rows own) there

-- and back
pub record_short : (s : List ℕ) (at size : ℕ) (rows : List Row) → 1 ≤ size → length s < at + size → record_trouble s at size rows ≡ At 1 (length s)
record_short s at size rows some h = sym (short_at s at size rows refl (omega (arith, length-drop at s)))

pub record_bad : (s : List ℕ) (at size : ℕ) (rows : List Row) {n q : ℕ} → at + size ≤ length s → FirstBad n q rows → record_trouble s at size rows ≡ At n (at + q)
record_bad s at size rows {n} {q} h b = sym (whole_at s at size rows refl (omega (arith, length-drop at s)) (sym (bad_checks b)) refl)

pub record_good : (s : List ℕ) (at size : ℕ) (rows : List Row) → at + size ≤ length s → AllGood rows → record_trouble s at size rows ≡ Clear
record_good s at size rows h good = sym (whole_at s at size rows refl (omega (arith, length-drop at s)) (sym (good_checks rows good)) refl)
