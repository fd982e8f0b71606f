-- The laws of the choice: what it answers, when it answers nothing, and that only the certificates of its kind, maker, serial and letter count.
use Rattle.std.specs.Prelude.{Option, Some, None}
use Prim.Native.Nat.{ℕ, zero, suc, ◌<◌}
use mathlib.Core.Path.{◌≡◌, refl, sym, ◌∙◌, ap}
use mathlib.Core.Bool.{Bool, true, false, false≢true, cond}
use mathlib.Core.Logic.{◌⊎◌, inl, inr, ◌↔◌}
use native.Mathlib.Nat.{lt-suc_self, lt_trans, le_antisymm, le_trans, le_of_lt, le_refl}
use native.Mathlib.Numerals.{add-one}
use native.Mathlib.Omega.{arith}
use borrow.Author.Count.{below_none, below_more}
use borrow.Author.Tests.{eqb-true, eq-eqb, leb-true, le-leb, ltb-true, ltb-false, lt-ltb}
use lib.Dec.{eqb}
use Rattle.records.specs.declared.Identity.{Identity}
use Rattle.records.specs.declared.Certificate.{Certificate}
use Rattle.records.specs.declared.RunHeader.{RunHeader}
use Rattle.records.specs.Records.{same_identity}
use Rattle.readings.specs.Ranges.{meter, pitot, nozzle}
use Rattle.readings.proofs.Ranges.{both_left, both_right}
use Rattle.records.proofs.Identities.{same_equal, same_refl}
use Rattle.choosing.specs.Choosing.{so_dated, nearer, eligible, keep, chosen, chosen_for, Dated, NoNearer, Eligible, NoneSoDated, Nearest, Unique, Included, SameMembers, SameForRun}

-- The tests of the definition and the words of docs/RULES.md say the same
dated_true : (after : Bool) (day dated : ℕ) → so_dated after day dated ≡ true → Dated after day dated
dated_true false day dated e = leb-true _ _ e
dated_true true day dated e = ltb-true _ _ e

dated_is : (after : Bool) (day dated : ℕ) → Dated after day dated → so_dated after day dated ≡ true
dated_is false day dated h = le-leb _ _ h
dated_is true day dated h = lt-ltb _ _ h

pub eligible_true : (after : Bool) (kind : ℕ) (identity : Identity) (day : ℕ) (c : Certificate) → eligible after kind identity day c ≡ true → Eligible after kind identity day c
unfolding eligible
eligible_true after kind identity day c e =
    let rest = both_right (eqb c.kind kind) _ e in
    record {
      is = record {
        kind = eqb-true _ _ (both_left _ _ e);
        identity = same_equal _ _ (both_left _ _ rest);
      };
      dated = dated_true after day c.day (both_right (same_identity c.identity identity) _ rest);
    }

pub eligible_is : (after : Bool) (kind : ℕ) (identity : Identity) (day : ℕ) (c : Certificate) → Eligible after kind identity day c → eligible after kind identity day c ≡ true
unfolding eligible
eligible_is after kind identity day c h =
    rw (eq-eqb _ _ h.is.kind, h.is.identity, same_refl identity) (dated_is after day c.day h.dated)

-- how days so dated stand to one another
nearer_true : (after : Bool) (first second other : ℕ) → nearer after first second ≡ true → NoNearer after first other → NoNearer after second other
nearer_true false first second other e h = le_trans h (le_of_lt (ltb-true _ _ e))
nearer_true true first second other e h = le_trans (le_of_lt (ltb-true _ _ e)) h

nearer_false : (after : Bool) (first second : ℕ) → nearer after first second ≡ false → NoNearer after first second
nearer_false false first second e = ltb-false _ _ e
nearer_false true first second e = ltb-false _ _ e

none_nearer_refl : (after : Bool) (day : ℕ) → NoNearer after day day
none_nearer_refl false day = le_refl day
none_nearer_refl true day = le_refl day

none_nearer_both : (after : Bool) (a b : ℕ) → NoNearer after a b → NoNearer after b a → a ≡ b
none_nearer_both false a b h k = le_antisymm k h
none_nearer_both true a b h k = le_antisymm h k

-- what holds below n and at n holds below suc n
below_suc : (P : ℕ → Type 0) (n : ℕ) → ((i : ℕ) → i < n → P i) → P n → (i : ℕ) → i < suc n → P i
below_suc P n h p i l = below_more P n h p i (rw add-one l)

found_something : {c : Certificate} → Some c ≡ None → ⊥
found_something e = let z : ◌≡◌ {A = ℕ} 0 1 = cc in omega arith

-- What the choice answers
module _ (after : Bool) (kind : ℕ) (identity : Identity) (day : ℕ) (f : ℕ → Certificate) where
  -- nothing where there is none, or the nearest
  abbrev Answer : ℕ → Option Certificate → Type 0
  Answer n l = ((l ≡ None) × NoneSoDated after kind identity day f n) ⊎ ((c : Certificate) × ((l ≡ Some c) × Nearest after kind identity day f n c))

  -- the first n, and one more that is not so dated
  passed : (n : ℕ) {l : Option Certificate} → eligible after kind identity day (f n) ≡ false → Answer n l → Answer (suc n) l
  passed n e (inl (is, none)) =
      inl (is, below_suc (λ i. Eligible after kind identity day (f i) → ⊥) n none (λ h. false≢true (sym e ∙ eligible_is _ _ _ _ _ h)))
  passed n e (inr (c, (is, best))) =
      inr (
        c,
        (
          is,
          record {
            index = best.index;
            inside = lt_trans best.inside (lt-suc_self n);
            there = best.there;
            eligible = best.eligible;
            nearest =
                below_suc
                (λ i. Eligible after kind identity day (f i) → NoNearer after c.day (f i).day)
                n
                best.nearest
                (λ h. absurd (false≢true (sym e ∙ eligible_is _ _ _ _ _ h)));
          },
        ),
      )

  -- one more that is so dated, nearer than all before it
  newest : (n : ℕ) → Eligible after kind identity day (f n) → ((i : ℕ) → i < n → Eligible after kind identity day (f i) → NoNearer after (f n).day (f i).day) → Nearest after kind identity day f (suc n) (f n)
  newest n h before =
      record {
        index = n;
        inside = lt-suc_self n;
        there = refl;
        eligible = h;
        nearest =
            below_suc
            (λ i. Eligible after kind identity day (f i) → NoNearer after (f n).day (f i).day)
            n
            before
            (λ same. none_nearer_refl after (f n).day);
      }

  -- one more that is so dated, against the best of the first n
  against : (n : ℕ) (b : Certificate) (t : Bool) → nearer after b.day (f n).day ≡ t → Eligible after kind identity day (f n) → Nearest after kind identity day f n b → Answer (suc n) (cond t (Some (f n)) (Some b))
  against n b true e h best =
      inr (f n, (refl, newest n h (λ i l o. nearer_true after _ _ _ e (best.nearest i l o))))
  against n b false e h best =
      inr (
        b,
        (
          refl,
          record {
            index = best.index;
            inside = lt_trans best.inside (lt-suc_self n);
            there = best.there;
            eligible = best.eligible;
            nearest =
                below_suc
                (λ i. Eligible after kind identity day (f i) → NoNearer after b.day (f i).day)
                n
                best.nearest
                (λ same. nearer_false after _ _ e);
          },
        ),
      )

  kept : (n : ℕ) {l : Option Certificate} → Eligible after kind identity day (f n) → Answer n l → Answer (suc n) (keep after l (f n))
  unfolding keep
  kept n h (inl (is, none)) = rw is (inr (f n, (refl, newest n h (λ i l o. absurd (none i l o)))))
  kept n h (inr (c, (is, best))) = rw is (against n c _ refl h best)

  answer : (n : ℕ) → Answer n (chosen after kind identity day f n)
  unfolding chosen
  answer zero = inl (refl, below_none (λ i. Eligible after kind identity day (f i) → ⊥))
  answer (suc n) = step (eligible after kind identity day (f n)) refl (answer n)
    where
      step : (t : Bool) → eligible after kind identity day (f n) ≡ t → Answer n (chosen after kind identity day f n) → Answer (suc n) (cond t (keep after (chosen after kind identity day f n) (f n)) (chosen after kind identity day f n))
      step true e a = kept n (eligible_true _ _ _ _ _ e) a
      step false e a = passed n e a

  -- A certificate is missing exactly if none of the first n is of that kind, maker, serial and letter and so dated
  pub chosen_nothing : (n : ℕ) → (chosen after kind identity day f n ≡ None) ↔ NoneSoDated after kind identity day f n
  chosen_nothing n = (none (answer n), missing (answer n))
    where
      none : Answer n (chosen after kind identity day f n) → chosen after kind identity day f n ≡ None → NoneSoDated after kind identity day f n
      none (inl (is, h)) e = h
      none (inr (c, (is, best))) e = absurd (found_something (sym is ∙ e))

      missing : Answer n (chosen after kind identity day f n) → NoneSoDated after kind identity day f n → chosen after kind identity day f n ≡ None
      missing (inl (is, h)) none = is
      missing (inr (c, (is, best))) none =
          absurd (none best.index best.inside (rw best.there best.eligible))

  -- What is found is one of the first n, of that kind, maker, serial and letter, so dated, and no other so dated is nearer
  pub chosen_found : (n : ℕ) (c : Certificate) → chosen after kind identity day f n ≡ Some c → Nearest after kind identity day f n c
  chosen_found n c e = is_nearest (answer n)
    where
      is_nearest : Answer n (chosen after kind identity day f n) → Nearest after kind identity day f n c
      is_nearest (inl (is, h)) = absurd (found_something (sym e ∙ is))
      is_nearest (inr (b, (is, best))) =
          let same : b ≡ c = cc in
          rw same at best

-- Two choices that are both of the same certificates agree
module _ (after : Bool) (kind : ℕ) (identity : Identity) (day : ℕ) (f : ℕ → Certificate) (n : ℕ) (g : ℕ → Certificate) (m : ℕ) where
  -- what is found among the first is found among the second
  elsewhere : Included kind identity f n g m → (c : Certificate) → Nearest after kind identity day f n c → (j : ℕ) × ((j < m) × (g j ≡ c))
  elsewhere within c best =
      let there : f best.index ≡ c = best.there in
      let (j, (inside, same)) = within.held best.index best.inside (rw there best.eligible.is) in
      (j, (inside, same ∙ there))

  -- so a choice that finds nothing in the second finds nothing in the first
  nothing_either : Included kind identity f n g m → chosen after kind identity day g m ≡ None → chosen after kind identity day f n ≡ None
  nothing_either within e =
      (chosen_nothing after kind identity day f n).1
      (λ i l h.
      let (j, (inside, same)) = within.held i l h.is in
      (chosen_nothing after kind identity day g m).0 e j inside (rw same h))

-- Only the certificates of that kind, maker, serial and letter count, in whatever order and among whatever others
module _ (after : Bool) (kind : ℕ) (identity : Identity) (day : ℕ) (f : ℕ → Certificate) (n : ℕ) (g : ℕ → Certificate) (m : ℕ) where
  -- two that are found in both are dated alike, and so are one
  one_found : Unique f n → SameMembers kind identity f n g m → (c d : Certificate) → Nearest after kind identity day f n c → Nearest after kind identity day g m d → c ≡ d
  one_found unique same c d c-best d-best =
      let (i, (i-inside, i-there)) = elsewhere after kind identity day g m f n same.back d d-best in
      let (j, (j-inside, j-there)) = elsewhere after kind identity day f n g m same.into c c-best in
      let c-there : f c-best.index ≡ c = c-best.there in
      let c-first : NoNearer after c.day (f i).day = c-best.nearest i i-inside (rw i-there d-best.eligible) in
      let d-first : NoNearer after d.day (g j).day = d-best.nearest j j-inside (rw j-there c-best.eligible) in
      let day-same : c.day ≡ d.day = none_nearer_both after _ _ (rw i-there at c-first) (rw j-there at d-first) in
      let index_same : c-best.index ≡ i =
      unique.once c-best.index i c-best.inside i-inside
      (rw (c-there, i-there) (record {
        kind = c-best.eligible.is.kind ∙ sym d-best.eligible.is.kind;
        identity = c-best.eligible.is.identity ∙ sym d-best.eligible.is.identity;
      }))
      (rw (c-there, i-there) day-same) in
      sym c-there ∙ ap f index_same ∙ i-there

  pub chosen_same_members : Unique f n → SameMembers kind identity f n g m → chosen after kind identity day f n ≡ chosen after kind identity day g m
  chosen_same_members unique same = go _ _ refl refl
    where
      go : (a b : Option Certificate) → chosen after kind identity day f n ≡ a → chosen after kind identity day g m ≡ b → a ≡ b
      go None None d e = refl
      go None (Some c) d e = sym (nothing_either after kind identity day g m f n same.back d) ∙ e
      go (Some c) None d e = sym d ∙ nothing_either after kind identity day f n g m same.into e
      go (Some b) (Some c) d e =
          ap Some (one_found unique same b c (chosen_found after kind identity day f n b d) (chosen_found after kind identity day g m c e))

-- Demand 3 for certificates: a run's certificates hang on those of its own meter, pitot tube and nozzle alone
pub chosen_for_same_members : (h : RunHeader) (f : ℕ → Certificate) (n : ℕ) (g : ℕ → Certificate) (m : ℕ) → Unique f n → SameForRun h f n g m → chosen_for f n h ≡ chosen_for g m h
unfolding chosen_for
chosen_for_same_members h f n g m unique same =
    λ i. record {
      before = chosen_same_members false meter h.meter h.day f n g m unique same.meter i;
      after = chosen_same_members true meter h.meter h.day f n g m unique same.meter i;
      pitot = chosen_same_members false pitot h.pitot h.day f n g m unique same.pitot i;
      nozzle = chosen_same_members false nozzle h.nozzle h.day f n g m unique same.nozzle i;
    }
