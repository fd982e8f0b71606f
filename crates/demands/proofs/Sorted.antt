-- The order of the list: by rule and then by place, so that none occurs twice; and the class of each finding.
use Prim.Native.Nat.{ℕ, zero, suc, ◌+◌, ◌<◌}
use mathlib.Core.Path.{◌≡◌, sym}
use mathlib.Core.Bool.{Bool}
use mathlib.Core.List.{List, [], ◌∷◌}
use mathlib.Core.Logic.{inl, inr}
use native.Mathlib.Nat.{not-suc-le-zero, le_of_suc-le-suc, le_refl}
use native.Mathlib.Decide.{dec_lt}
use native.Mathlib.Omega.{arith}
use lib.ListN.{length, get_or}
use Rattle.readings.specs.declared.headers.Version.{Version}
use Rattle.records.specs.declared.Counts.{Counts}
use Rattle.records.specs.declared.Run.{Run}
use Rattle.lines.specs.declared.Lines.{Lines}
use Rattle.choosing.specs.declared.Chosen.{Chosen}
use Rattle.findings.specs.declared.Finding.{Finding}
use Rattle.classes.specs.Classes.{places_of, class_number, class_of}
use Rattle.rules.specs.Rules.{last_rule}
use Rattle.steps.specs.declared.Figure.{Figure}
use Rattle.findings.specs.Listing.{broken_at, finding_at, rule_findings, findings_to, findings, no_finding}
use Rattle.demands.specs.Demands.{Precedes}
use Rattle.findings.proofs.Members.{at_index, OfRule, OfRules, rule_members, all_members}
use Rattle.demands.proofs.SortedRule.{Sorted, sorted_append, rule_sorted}

module _ (v : Version) (n : Counts) (is_broken : ℕ → ℕ → Bool) where
  -- all findings, by rule and then by place
  all_sorted : (k : ℕ) → Sorted (findings_to v is_broken (places_of n) k)
  unfolding findings_to finding_at
  all_sorted zero = tt
  all_sorted (suc k) =
      sorted_append (findings_to v is_broken (places_of n) k) (rule_findings v (is_broken (k + 1)) (k + 1) (places_of n (k + 1)))
      (all_sorted k)
      (rule_sorted v n is_broken (k + 1) (places_of n (k + 1)) (le_refl (places_of n (k + 1))))
      (λ f g mf mg.
      let o : OfRules v is_broken (places_of n) k f = all_members v is_broken (places_of n) k mf in
      let p : OfRule v (is_broken (k + 1)) (k + 1) (places_of n (k + 1)) g = rule_members v (is_broken (k + 1)) (k + 1) _ mg in
      let earlier : o.rule < k + 1 = omega (arith, o.last) in
      rw (o.of.is, p.is) (inl earlier))

-- by index
sorted_at : (fs : List Finding) → Sorted fs → (i j : ℕ) → i < j → j < length fs → Precedes (get_or fs i no_finding) (get_or fs j no_finding)
sorted_at [] s i j l inside = absurd (not-suc-le-zero inside)
sorted_at (f ∷ fs) s i zero l inside = absurd (not-suc-le-zero l)
sorted_at (f ∷ fs) s zero (suc j) l inside = s.0 (get_or fs j no_finding) (at_index fs j (le_of_suc-le-suc inside))
sorted_at (f ∷ fs) s (suc i) (suc j) l inside = sorted_at fs s.1 i j (le_of_suc-le-suc l) (le_of_suc-le-suc inside)

-- The list is in order: by rule, and then by place
pub in_order : (v : Version) (fig : Figure) (r : Run) (ch : Chosen) (l : Lines) (i j : ℕ) → i < j → j < length (findings v fig r ch l) → Precedes (get_or (findings v fig r ch l) i no_finding) (get_or (findings v fig r ch l) j no_finding)
unfolding findings
in_order v fig r ch l i j = sorted_at (findings v fig r ch l) (all_sorted v r.header.counts (broken_at fig r ch l) last_rule) i j

not_before_itself : (a b : Finding) → Precedes a b → a.rule ≡ b.rule → a.place ≡ b.place → ⊥
not_before_itself a b (inl lower) rule place = omega arith
not_before_itself a b (inr (same, lower)) rule place = omega arith

-- Each finding occurs once
pub each_once : (v : Version) (fig : Figure) (r : Run) (ch : Chosen) (l : Lines) (i j : ℕ) → i < length (findings v fig r ch l) → j < length (findings v fig r ch l) → (get_or (findings v fig r ch l) i no_finding).rule ≡ (get_or (findings v fig r ch l) j no_finding).rule → (get_or (findings v fig r ch l) i no_finding).place ≡ (get_or (findings v fig r ch l) j no_finding).place → i ≡ j
each_once v fig r ch l i j i-in j-in rule place = go (dec_lt i j) (dec_lt j i)
  where
    at : ℕ → Finding
    at k = get_or (findings v fig r ch l) k no_finding

    go : Dec (i < j) → Dec (j < i) → i ≡ j
    go (yes lower) d = absurd (not_before_itself (at i) (at j) (in_order v fig r ch l i j lower j-in) rule place)
    go (no first) (yes higher) = absurd (not_before_itself (at j) (at i) (in_order v fig r ch l j i higher i-in) (sym rule) (sym place))
    go (no first) (no second) = omega arith

-- Each finding has its rule's class
pub class_at : (v : Version) (fig : Figure) (r : Run) (ch : Chosen) (l : Lines) (i : ℕ) → i < length (findings v fig r ch l) → (get_or (findings v fig r ch l) i no_finding).class ≡ class_number (class_of v (get_or (findings v fig r ch l) i no_finding).rule)
unfolding findings finding_at
class_at v fig r ch l i inside =
    let o : OfRules v (broken_at fig r ch l) (places_of r.header.counts) last_rule (get_or (findings v fig r ch l) i no_finding) =
    all_members v (broken_at fig r ch l) (places_of r.header.counts) last_rule (at_index (findings v fig r ch l) i inside) in
    rw o.of.is
