-- The loop that looks at each certificate in turn: the best so far is the choice among those passed.
use Prim.Native.Nat.{ℕ, suc, ◌+◌}
use mathlib.Core.Path.{◌≡◌, refl, sym, ◌∙◌, ap}
use mathlib.Core.Bool.{Bool, true, false, true≢false, ◌&&◌}
use native.Mathlib.Numerals.{add-one}
use Rattle.std.specs.Prelude.{Option, Some, None}
use Rattle.std.specs.Option.{MatchOption, IsSomeAnd}
use Rattle.records.specs.declared.Identity.{Identity}
use Rattle.records.specs.declared.Certificate.{Certificate}
use Rattle.readings.proofs.Ranges.{both_left, both_right}
use Rattle.choosing.specs.Choosing.{eligible, keep, gives_way, replaces, chosen}

-- the day of the best so far
abbrev pub day_of : Option Certificate → Option ℕ
day_of None = None
day_of (Some b) = Some b.day

-- as `map` gives it
pub mapped : (o : Option Certificate) {r : Option ℕ} {P : Certificate → ℕ → Type 0} → MatchOption o (r ≡ None) (λ b. IsSomeAnd r (P b)) → ((b : Certificate) (d : ℕ) → P b d → d ≡ b.day) → r ≡ day_of o
mapped None h on = h
mapped (Some b) {r = Some d} h on = ap Some (on b d h)
mapped (Some b) {r = None} h on = absurd h

module _ (after : Bool) (kind : ℕ) (identity : Identity) (day : ℕ) (f : ℕ → Certificate) (n : ℕ) {best : Option Certificate} {nearest : Option ℕ} {c : Certificate} {test : Bool} (is : best ≡ chosen after kind identity day f n) (days : nearest ≡ day_of best) (own : c ≡ f n) (t : test ≡ replaces after kind identity day nearest c) where
  -- one more takes the place of the best so far ..
  pub best_replaced : test ≡ true → Some c ≡ chosen after kind identity day f (n + 1)
  unfolding chosen keep
  best_replaced taken = rw (add-one n, own) (took best is (rw (← days, ← own) (sym t ∙ taken)))
    where
      took : (o : Option Certificate) → o ≡ chosen after kind identity day f n → replaces after kind identity day (day_of o) (f n) ≡ true → Some (f n) ≡ chosen after kind identity day f (suc n)
      took None so_far e = rw (both_left (eligible after kind identity day (f n)) _ e, ← so_far)
      took (Some a) so_far e =
          rw (both_left (eligible after kind identity day (f n)) _ e, ← so_far, both_right (eligible after kind identity day (f n)) _ e)

  -- .. or does not
  pub best_kept : test ≡ false → best ≡ chosen after kind identity day f (n + 1)
  unfolding chosen keep
  best_kept left = rw (add-one n) (kept best is (eligible after kind identity day (f n)) refl (rw (← days, ← own) (sym t ∙ left)))
    where
      kept : (o : Option Certificate) → o ≡ chosen after kind identity day f n → (e : Bool) → eligible after kind identity day (f n) ≡ e → (e && gives_way after (day_of o) (f n).day) ≡ false → o ≡ chosen after kind identity day f (suc n)
      kept o so_far false not_so e = rw not_so so_far
      kept None so_far true so e = absurd (true≢false e)
      kept (Some a) so_far true so e = rw (so, ← so_far, e)
