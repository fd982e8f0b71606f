-- What the list holds: a finding of a rule at a place exactly when the run breaks that rule there.
use Prim.Native.Nat.{ℕ, zero, suc, ◌+◌, ◌≤◌, ◌<◌, suc-le-suc}
use mathlib.Core.Path.{◌≡◌, refl, sym, ◌∙◌, ap}
use mathlib.Core.Bool.{Bool, true, false, cond}
use mathlib.Core.List.Memᴰ
use mathlib.Core.List.{List, [], ◌∷◌, ◌++◌, Memᴰ}
use mathlib.Core.Logic.{◌⊎◌, inl, inr, ◌↔◌}
use native.Mathlib.Nat.{not-suc-le-zero, le_of_suc-le-suc, lt-suc_self, lt_trans, zero-lt-suc, eq-or-lt_of_le}
use native.Mathlib.Omega.{arith}
use lib.ListN.{length, get_or}
use Rattle.readings.specs.declared.headers.Version.{Version}
use Rattle.records.specs.declared.Run.{Run}
use Rattle.lines.specs.declared.Lines.{Lines}
use Rattle.choosing.specs.declared.Chosen.{Chosen}
use Rattle.steps.specs.declared.Figure.{Figure}
use Rattle.findings.specs.declared.Finding.{Finding}
use Rattle.classes.specs.Classes.{places_of, place_at}
use Rattle.rules.specs.Rules.{last_rule}
use Rattle.findings.specs.Listing.{broken_at, finding_at, rule_findings, findings_to, findings, no_finding, Breaks, HasFinding}

-- what stands at an index of a list is in it
pub at_index : (fs : List Finding) (i : ℕ) → i < length fs → Memᴰ (get_or fs i no_finding) fs
at_index [] i h = absurd (not-suc-le-zero h)
at_index (f ∷ fs) zero h = Memᴰ.head refl
at_index (f ∷ fs) (suc i) h = Memᴰ.tail (at_index fs i (le_of_suc-le-suc h))

-- and what is in it stands at an index
pub index_of : {f : Finding} {fs : List Finding} → Memᴰ f fs → (i : ℕ) × ((i < length fs) × (get_or fs i no_finding ≡ f))
index_of (Memᴰ.head {xs = xs} e) = (zero, (zero-lt-suc (length xs), sym e))
index_of (Memᴰ.tail m) = let (i, (inside, is)) = index_of m in (suc i, (suc-le-suc inside, is))

-- a rule's findings are those of its broken places
pub record OfRule (v : Version) (is_broken : ℕ → Bool) (rule n : ℕ) (f : Finding) : Type 0 where
  pub index : ℕ
  pub inside : index < n
  pub broken : is_broken index ≡ true
  pub is : f ≡ finding_at v rule index

module _ (v : Version) (is_broken : ℕ → Bool) (rule : ℕ) where
  one_member : {f : Finding} (i : ℕ) (t : Bool) → is_broken i ≡ t → Memᴰ f (cond t (finding_at v rule i ∷ []) []) → OfRule v is_broken rule (suc i) f
  one_member i true e m = record { index = i; inside = lt-suc_self i; broken = e; is = Memᴰ.eq_of_singleton m }
  one_member i false e m = absurd (Memᴰ.not-nil m)

  pub rule_members : {f : Finding} (n : ℕ) → Memᴰ f (rule_findings v is_broken rule n) → OfRule v is_broken rule n f
  unfolding rule_findings
  rule_members zero m = absurd (Memᴰ.not-nil m)
  rule_members {f} (suc n) m = go (λ (m' : Memᴰ f (rule_findings v is_broken rule n)). rule_members n m') (Memᴰ.append_cases (rule_findings v is_broken rule n) m)
    where
      go : (Memᴰ f (rule_findings v is_broken rule n) → OfRule v is_broken rule n f) → Memᴰ f (rule_findings v is_broken rule n) ⊎ Memᴰ f (cond (is_broken n) (finding_at v rule n ∷ []) []) → OfRule v is_broken rule (suc n) f
      go earlier (inl m') =
          let o : OfRule v is_broken rule n f = earlier m' in
          record { index = o.index; inside = lt_trans o.inside (lt-suc_self n); broken = o.broken; is = o.is }
      go earlier (inr m') = one_member n _ refl m'

  pub rule_holds : (n i : ℕ) → i < n → is_broken i ≡ true → Memᴰ (finding_at v rule i) (rule_findings v is_broken rule n)
  unfolding rule_findings
  rule_holds zero i h e = absurd (not-suc-le-zero h)
  rule_holds (suc n) i h e = go (eq-or-lt_of_le (le_of_suc-le-suc h)) (λ (l : i < n). rule_holds n i l e)
    where
      go : (i ≡ n) ⊎ (i < n) → (i < n → Memᴰ (finding_at v rule i) (rule_findings v is_broken rule n)) → Memᴰ (finding_at v rule i) (rule_findings v is_broken rule n ++ cond (is_broken n) (finding_at v rule n ∷ []) [])
      go (inl same) earlier =
          let here : is_broken n ≡ true = ap is_broken (sym same) ∙ e in
          rw here (Memᴰ.append_right (rule_findings v is_broken rule n) (Memᴰ.head (ap (finding_at v rule) same)))
      go (inr l) earlier = Memᴰ.append_left (cond (is_broken n) (finding_at v rule n ∷ []) []) (earlier l)

-- all findings are those of the rules in turn
pub record OfRules (v : Version) (is_broken : ℕ → ℕ → Bool) (places : ℕ → ℕ) (k : ℕ) (f : Finding) : Type 0 where
  pub rule : ℕ
  pub first : 1 ≤ rule
  pub last : rule ≤ k
  pub of : OfRule v (is_broken rule) rule (places rule) f

module _ (v : Version) (is_broken : ℕ → ℕ → Bool) (places : ℕ → ℕ) where
  pub all_members : {f : Finding} (k : ℕ) → Memᴰ f (findings_to v is_broken places k) → OfRules v is_broken places k f
  unfolding findings_to
  all_members zero m = absurd (Memᴰ.not-nil m)
  all_members {f} (suc k) m = go (λ (m' : Memᴰ f (findings_to v is_broken places k)). all_members k m') (Memᴰ.append_cases (findings_to v is_broken places k) m)
    where
      go : (Memᴰ f (findings_to v is_broken places k) → OfRules v is_broken places k f) → Memᴰ f (findings_to v is_broken places k) ⊎ Memᴰ f (rule_findings v (is_broken (k + 1)) (k + 1) (places (k + 1))) → OfRules v is_broken places (suc k) f
      go earlier (inl m') =
          let o : OfRules v is_broken places k f = earlier m' in
          record { rule = o.rule; first = o.first; last = omega (arith, o.last); of = o.of }
      go earlier (inr m') =
          record { rule = k + 1; first = omega arith; last = omega arith; of = rule_members v (is_broken (k + 1)) (k + 1) _ m' }

  pub all_hold : (k rule i : ℕ) → 1 ≤ rule → rule ≤ k → i < places rule → is_broken rule i ≡ true → Memᴰ (finding_at v rule i) (findings_to v is_broken places k)
  unfolding findings_to
  all_hold zero rule i first last inside e = absurd (omega arith)
  all_hold (suc k) rule i first last inside e = go (eq-or-lt_of_le last) (λ (l : rule ≤ k). all_hold k rule i first l inside e)
    where
      go : (rule ≡ suc k) ⊎ (rule < suc k) → (rule ≤ k → Memᴰ (finding_at v rule i) (findings_to v is_broken places k)) → Memᴰ (finding_at v rule i) (findings_to v is_broken places k ++ rule_findings v (is_broken (k + 1)) (k + 1) (places (k + 1)))
      go (inl same) earlier =
          let number : k + 1 ≡ rule = omega arith in
          rw number (Memᴰ.append_right (findings_to v is_broken places k) (rule_holds v (is_broken rule) rule (places rule) i inside e))
      go (inr l) earlier =
          Memᴰ.append_left (rule_findings v (is_broken (k + 1)) (k + 1) (places (k + 1))) (earlier (le_of_suc-le-suc l))

-- Demand 3, the list: a finding of a rule at a place is in it if and only if the run breaks that rule at that place
pub listed_exactly : (v : Version) (fig : Figure) (r : Run) (ch : Chosen) (l : Lines) (rule place : ℕ) → HasFinding (findings v fig r ch l) rule place ↔ Breaks fig r ch l rule place
unfolding findings finding_at
listed_exactly v fig r ch l rule place = (found, present)
  where
    found : HasFinding (findings v fig r ch l) rule place → Breaks fig r ch l rule place
    found h =
        let o : OfRules v (broken_at fig r ch l) (places_of r.header.counts) last_rule (get_or (findings v fig r ch l) h.index no_finding) =
        all_members v (broken_at fig r ch l) (places_of r.header.counts) last_rule (at_index (findings v fig r ch l) h.index h.inside) in
        let number : o.rule ≡ rule = sym (ap (λ (f : Finding). f.rule) o.of.is) ∙ h.same.0 in
        let there : place_at o.rule o.of.index ≡ place = sym (ap (λ (f : Finding). f.place) o.of.is) ∙ h.same.1 in
        rw (← number, ← there)
        (record {
          first = o.first;
          last = o.last;
          index = o.of.index;
          inside = o.of.inside;
          there = refl;
          broken = o.of.broken;
        })

    present : Breaks fig r ch l rule place → HasFinding (findings v fig r ch l) rule place
    present b =
        let (i, (inside, is)) = index_of (all_hold v (broken_at fig r ch l) (places_of r.header.counts) last_rule rule b.index b.first b.last b.inside b.broken) in
        record {
          index = i;
          inside = inside;
          same = (ap (λ (f : Finding). f.rule) is, ap (λ (f : Finding). f.place) is ∙ sym b.there);
        }
