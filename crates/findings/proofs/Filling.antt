-- Filling the list: one finding more, one place more, one rule more, and room for each.
use Prim.Native.Nat.{ℕ, zero, suc, ◌+◌, ◌≤◌, ◌<◌}
use mathlib.Core.Path.{◌≡◌, ◌∙◌, ap}
use mathlib.Core.Bool.{Bool, true, false, cond}
use mathlib.Core.List.{List, [], ◌∷◌, ◌++◌, append_assoc, append-nil}
use mathlib.Core.Logic.{◌⊎◌, inl, inr}
use native.Mathlib.Nat.{le_refl, le_trans, lt_of_lt_of_le, le_of_suc-le-suc, not-suc-le-zero, eq-or-lt_of_le}
use native.Mathlib.Numerals.{add-one}
use native.Mathlib.Omega.{arith}
use lib.ListN.{length, set, length-append}
use Rattle.arrays.proofs.Filled.{Filled, filled_more}
use Rattle.readings.specs.declared.headers.Version.{Version}
use Rattle.rules.specs.Rules.{last_rule}
use Rattle.findings.specs.declared.Finding.{Finding}
use Rattle.findings.specs.declared.Findings.{Findings}
use Rattle.findings.specs.Listing.{finding_at, rule_findings, findings_to, most_findings, no_finding, listed}

-- the findings fs are entered in the array xs, n of them
abbrev pub Entered : List Finding → ℕ → List Finding → Type 0
Entered fs n xs = Filled most_findings no_finding fs n xs

pub entered_listed : {fs : List Finding} {n : ℕ} {xs : List Finding} → Entered fs n xs → ◌≡◌ {A = Findings} (record { count = n; list = xs }) (listed fs)
unfolding listed
entered_listed s = λ i. record { count = s.count i; list = s.holds i }

-- a number that never falls from one step to the next
pub rising : (f : ℕ → ℕ) → ((i : ℕ) → f i ≤ f (suc i)) → (i j : ℕ) → i ≤ j → f i ≤ f j
rising f up zero zero l = le_refl (f zero)
rising f up (suc i) zero l = absurd (not-suc-le-zero l)
rising f up i (suc j) l = go (eq-or-lt_of_le l) (λ (h : i ≤ j). rising f up i j h)
  where
    go : (i ≡ suc j) ⊎ (i < suc j) → (i ≤ j → f i ≤ f j) → f i ≤ f (suc j)
    go (inl e) below = rw e (le_refl (f (suc j)))
    go (inr lt) below = le_trans (below (le_of_suc-le-suc lt)) (up j)

module _ (v : Version) (is_broken : ℕ → ℕ → Bool) where
  -- one place more
  found_more : (rule i : ℕ) {test : Bool} → test ≡ is_broken rule i → test ≡ true → rule_findings v (is_broken rule) rule (i + 1) ≡ rule_findings v (is_broken rule) rule i ++ (finding_at v rule i ∷ [])
  unfolding rule_findings
  found_more rule i t e = rw (add-one, ← t, e)

  found_passed : (rule i : ℕ) {test : Bool} → test ≡ is_broken rule i → test ≡ false → rule_findings v (is_broken rule) rule (i + 1) ≡ rule_findings v (is_broken rule) rule i
  unfolding rule_findings
  found_passed rule i t e = rw (add-one, ← t, e) (append-nil _)

  found_none : (fs : List Finding) (rule : ℕ) → fs ++ rule_findings v (is_broken rule) rule 0 ≡ fs
  unfolding rule_findings
  found_none fs rule = append-nil fs

  pub rule_rising : (rule i j : ℕ) → i ≤ j → length (rule_findings v (is_broken rule) rule i) ≤ length (rule_findings v (is_broken rule) rule j)
  unfolding rule_findings
  rule_rising rule =
      rising (λ i. length (rule_findings v (is_broken rule) rule i))
      (λ i. omega (arith, length-append (rule_findings v (is_broken rule) rule i) (cond (is_broken rule i) (finding_at v rule i ∷ []) [])))

  -- the fewer places are looked at, the fewer findings there are
  pub fewer : (some all : ℕ → ℕ) → ((rule : ℕ) → some rule ≤ all rule) → (k : ℕ) → length (findings_to v is_broken some k) ≤ length (findings_to v is_broken all k)
  unfolding findings_to
  fewer some all le zero = le_refl 0
  fewer some all le (suc k) =
      omega
      (arith, length-append (findings_to v is_broken some k) (rule_findings v (is_broken (k + 1)) (k + 1) (some (k + 1))), length-append (findings_to v is_broken all k) (rule_findings v (is_broken (k + 1)) (k + 1) (all (k + 1))), fewer some all le k, rule_rising (k + 1) _ _ (le (k + 1)))

  -- what is entered in the list behind the findings fs, through the loop over the places of a rule
  pub entered_first : (fs : List Finding) (rule : ℕ) {n : ℕ} {xs : List Finding} → Entered fs n xs → Entered (fs ++ rule_findings v (is_broken rule) rule 0) n xs
  entered_first fs rule s = rw (found_none fs rule) s

  pub entered_found : (fs : List Finding) (rule i : ℕ) {n : ℕ} {xs : List Finding} {test : Bool} {f : Finding} → n < most_findings → test ≡ is_broken rule i → test ≡ true → f ≡ finding_at v rule i → Entered (fs ++ rule_findings v (is_broken rule) rule i) n xs → Entered (fs ++ rule_findings v (is_broken rule) rule (i + 1)) (n + 1) (set xs n f)
  entered_found fs rule i has_room t e is s =
      rw (found_more rule i t e, is, ← append_assoc) (filled_more (finding_at v rule i) s has_room)

  pub entered_passed : (fs : List Finding) (rule i : ℕ) {n : ℕ} {xs : List Finding} {test : Bool} → test ≡ is_broken rule i → test ≡ false → Entered (fs ++ rule_findings v (is_broken rule) rule i) n xs → Entered (fs ++ rule_findings v (is_broken rule) rule (i + 1)) n xs
  entered_passed fs rule i t e s = rw (found_passed rule i t e) s

  module _ (places : ℕ → ℕ) where
    -- one rule more
    pub rule_more : (k : ℕ) → findings_to v is_broken places (k + 1) ≡ findings_to v is_broken places k ++ rule_findings v (is_broken (k + 1)) (k + 1) (places (k + 1))
    unfolding findings_to
    rule_more k = ap (λ (n : ℕ). findings_to v is_broken places n) (add-one k)

    pub rules_rising : (k m : ℕ) → k ≤ m → length (findings_to v is_broken places k) ≤ length (findings_to v is_broken places m)
    unfolding findings_to
    rules_rising =
        rising (λ k. length (findings_to v is_broken places k))
        (λ k. omega (arith, length-append (findings_to v is_broken places k) (rule_findings v (is_broken (k + 1)) (k + 1) (places (k + 1)))))

    -- where a rule is broken, the list is not yet as long as it will be
    room : (k i : ℕ) {test : Bool} → k < last_rule → i < places (k + 1) → test ≡ is_broken (k + 1) i → test ≡ true → length (findings_to v is_broken places k ++ rule_findings v (is_broken (k + 1)) (k + 1) i) < length (findings_to v is_broken places last_rule)
    room k i rule-in IsPlace-in t e =
        let fs : List Finding = findings_to v is_broken places k in
        let now : List Finding = rule_findings v (is_broken (k + 1)) (k + 1) i in
        let all : List Finding = rule_findings v (is_broken (k + 1)) (k + 1) (places (k + 1)) in
        let more : length (rule_findings v (is_broken (k + 1)) (k + 1) (i + 1)) ≡ length now + 1 =
        ap length (found_more (k + 1) i t e) ∙ length-append now (finding_at v (k + 1) i ∷ []) in
        let place-le : i + 1 ≤ places (k + 1) = omega arith in
        let rule-le : k + 1 ≤ last_rule = omega arith in
        let next : length (findings_to v is_broken places (k + 1)) ≡ length fs + length all = ap length (rule_more k) ∙ length-append fs all in
        omega (arith, length-append fs now, rule_rising (k + 1) _ _ place-le, rules_rising _ _ rule-le)

    -- and through the loop over rules
    pub entered_room : (k i : ℕ) {n : ℕ} {xs : List Finding} {test : Bool} → length (findings_to v is_broken places last_rule) ≤ most_findings → k < last_rule → i < places (k + 1) → test ≡ is_broken (k + 1) i → test ≡ true → Entered (findings_to v is_broken places k ++ rule_findings v (is_broken (k + 1)) (k + 1) i) n xs → n < most_findings
    entered_room k i within rule-in IsPlace-in t e s =
        rw s.count (lt_of_lt_of_le (room k i rule-in IsPlace-in t e) within)

    pub entered_rule : (k i : ℕ) {n : ℕ} {xs : List Finding} → i ≡ places (k + 1) → Entered (findings_to v is_broken places k ++ rule_findings v (is_broken (k + 1)) (k + 1) i) n xs → Entered (findings_to v is_broken places (k + 1)) n xs
    entered_rule k i all s = rw (rule_more k, ← all) s
