-- The search: over the rules that are looked at, up to the finding that is sought or to the end.
use Prim.Native.Nat.{ℕ, zero, suc, ◌+◌, ◌-◌, ◌≤◌, ◌<◌, zero-le}
use mathlib.Core.Path.{◌≡◌, refl, sym, ◌∙◌, ap}
use mathlib.Core.Bool.{Bool, true, false, cond}
use mathlib.Core.List.{List, [], ◌++◌}
use mathlib.Core.Logic.{◌⊎◌, inl, inr}
use native.Mathlib.Nat.{le_refl, le_of_lt, le_trans, eq-or-lt_of_le}
use native.Mathlib.Omega.{arith}
use borrow.Author.Tests.{lt-ltb, le-ltb}
use lib.Dec.{ltb}
use lib.ListN.{length}
use Rattle.readings.specs.declared.headers.Version.{Version}
use Rattle.records.specs.declared.Counts.{Counts}
use Rattle.records.specs.declared.Run.{Run}
use Rattle.lines.specs.declared.Lines.{Lines}
use Rattle.choosing.specs.declared.Chosen.{Chosen}
use Rattle.steps.specs.declared.Figure.{Figure}
use Rattle.grounds.specs.declared.Ground.{Ground}
use Rattle.grounds.specs.declared.Ground.TheVariants.{Silent}
use Rattle.grounds.specs.Grounds.{broken}
use Rattle.classes.specs.Classes.{places_of, place_at}
use Rattle.rules.specs.declared.Beside.{Beside}
use Rattle.rules.specs.Rules.{last_rule, ground_of}
use Rattle.findings.specs.declared.Finding.{Finding}
use Rattle.findings.specs.declared.Findings.{Findings}
use Rattle.findings.specs.declared.Sought.{Sought}
use Rattle.findings.specs.declared.Sought.TheVariants.{All, Why}
use Rattle.findings.specs.declared.Walked.{Walked}
use Rattle.findings.specs.Listing.{part_of, beside_of, broken_at, rule_findings, findings_to, findings, most_findings, listed, Worked}
use Rattle.findings.specs.Seeking.{index_of, ground_at, before_of, last_of, Seekable, place_of, list_for, walked}
use Rattle.findings.proofs.Filling.{Entered, entered_listed, rule_more, rule_rising, rules_rising, fewer}
use Rattle.findings.proofs.Most.{at_most}
use Rattle.findings.proofs.Speaking.{index_of_place, spoken, spoken_inside, spoken_there, spoken_broken}

-- the places of the rules above the first b: those before have none
abbrev pub places_from : ℕ → Counts → ℕ → ℕ
places_from b n rule = cond (ltb b rule) (places_of n rule) 0

pub places_above : (b : ℕ) (n : Counts) (k : ℕ) → b ≤ k → places_from b n (k + 1) ≡ places_of n (k + 1)
places_above b n k h = rw (lt-ltb b (k + 1) (omega (arith, h)))

pub places_fewer : (b : ℕ) (n : Counts) (rule : ℕ) → places_from b n rule ≤ places_of n rule
places_fewer b n rule = go (ltb b rule)
  where
    go : (t : Bool) → cond t (places_of n rule) 0 ≤ places_of n rule
    go true = le_refl _
    go false = zero-le

-- no place of those passed is broken and the one sought: of the first n of a rule, and of the rules above b up to k
abbrev pub Passed : (ℕ → ℕ → Bool) → ℕ → ℕ → ℕ → Type 0
Passed is_broken place rule n = (i : ℕ) → i < n → is_broken rule i ≡ true → place_at rule i ≡ place → ⊥

abbrev pub PassedTo : (ℕ → ℕ → Bool) → Counts → ℕ → ℕ → ℕ → Type 0
PassedTo is_broken n place b k = (rule : ℕ) → b < rule → rule ≤ k → Passed is_broken place rule (places_of n rule)

module _ (is_broken : ℕ → ℕ → Bool) (place : ℕ) where
  -- one place more, which is not broken or not the one sought
  pub passed_more : (rule n : ℕ) → (is_broken rule n ≡ true → place_at rule n ≡ place → ⊥) → Passed is_broken place rule n → Passed is_broken place rule (n + 1)
  passed_more rule n this earlier i h = go (eq-or-lt_of_le (omega (arith, h)))
    where
      go : (i ≡ n) ⊎ (i < n) → is_broken rule i ≡ true → place_at rule i ≡ place → ⊥
      go (inl e) broke at = this (rw (← e) broke) (rw (← e) at)
      go (inr lt) broke at = earlier i lt broke at

  -- one rule more
  pub passed_rule : (n : Counts) (b k : ℕ) → Passed is_broken place (k + 1) (places_of n (k + 1)) → PassedTo is_broken n place b k → PassedTo is_broken n place b (k + 1)
  passed_rule n b k this earlier rule above h = go (eq-or-lt_of_le h)
    where
      go : (rule ≡ k + 1) ⊎ (rule < k + 1) → Passed is_broken place rule (places_of n rule)
      go (inl e) = rw e this
      go (inr lt) = earlier rule above (omega (arith, lt))

module _ (v : Version) (is_broken : ℕ → ℕ → Bool) (n : Counts) where
  -- the rules before those that are looked at give no finding
  pub nothing_before : (b k : ℕ) → k ≤ b → findings_to v is_broken (places_from b n) k ≡ []
  unfolding findings_to rule_findings
  nothing_before b zero h = refl
  nothing_before b (suc k) h =
      rw (nothing_before b k (omega (arith, h)), le-ltb b (k + 1) (omega (arith, h)))

  -- and where none stands before them, they are all
  pub all_from_the_first : (k : ℕ) → findings_to v is_broken (places_from 0 n) k ≡ findings_to v is_broken (places_of n) k
  unfolding findings_to
  all_from_the_first zero = refl
  all_from_the_first (suc k) = rw (all_from_the_first k, places_above 0 n k zero-le)

  -- of one rule, those of that rule
  pub of_one_rule : (b : ℕ) → findings_to v is_broken (places_from b n) (b + 1) ≡ rule_findings v (is_broken (b + 1)) (b + 1) (places_of n (b + 1))
  of_one_rule b = rule_more v is_broken (places_from b n) b ∙ rw (nothing_before b b (le_refl b), places_above b n b (le_refl b))

module _ (v : Version) (fig : Figure) (r : Run) (ch : Chosen) (l : Lines) where
  abbrev is_broken : ℕ → ℕ → Bool
  is_broken = broken_at fig r ch l

  -- the same by what stands beside the rules
  abbrev broken_beside : Beside → ℕ → ℕ → Bool
  broken_beside beside rule i = broken (ground_of (part_of r rule i) beside rule)

  -- what is entered, as it is handed over beside a ground
  handed_over : {fs : List Finding} {n : ℕ} {xs : List Finding} {g : Ground} → Entered fs n xs → ◌≡◌ {A = Walked} (record { findings = record { count = n; list = xs }; basis = g }) (record { findings = listed fs; basis = g })
  handed_over {g = g} entered = ap (λ (found : Findings). record { findings = found; basis = g }) (entered_listed entered)

  met_why : (rule i : ℕ) {n : ℕ} {xs : List Finding} {g : Ground} → i < places_of r.header.counts rule → g ≡ ground_of (part_of r rule i) (beside_of fig r ch l) rule → broken g ≡ true → Entered (rule_findings v (is_broken rule) rule i) n xs → ◌≡◌ {A = Walked} (record { findings = record { count = n; list = xs }; basis = g }) (walked (Why rule (place_at rule i)) v fig r ch l)
  met_why rule i inside is broke entered =
      let at : index_of (place_at rule i) ≡ i = index_of_place r.header.counts rule i inside in
      let same = is ∙ rw at at (spoken fig r ch l rule (place_at rule i) (rw at inside) (rw at refl)) in
      rw (← same, broke, at) (handed_over entered)

  -- The search, by what stands beside the rules, ends at the finding that is sought
  pub met : (sought : Sought) (b k i : ℕ) {beside : Beside} {place n : ℕ} {xs : List Finding} {g : Ground} → beside ≡ beside_of fig r ch l → b ≡ before_of sought → place ≡ place_of sought → b ≤ k → k < last_of sought → i < places_of r.header.counts (k + 1) → i ≤ 255 → place_at (k + 1) i ≡ place → g ≡ ground_of (part_of r (k + 1) i) beside (k + 1) → broken g ≡ true → Entered (findings_to v (broken_beside beside) (places_from b r.header.counts) k ++ rule_findings v (broken_beside beside (k + 1)) (k + 1) i) n xs → ◌≡◌ {A = Walked} (record { findings = record { count = n; list = xs }; basis = g }) (walked sought v fig r ch l)
  unfolding broken_at
  met All b k i by eb ep above below inside few there is broke entered =
      absurd (omega (arith, few, index_of_place r.header.counts (k + 1) i inside, there, ep))
  met (Why rule place) b k i by eb ep above below inside few there is broke entered =
      let this : rule ≡ k + 1 = omega (arith, eb, above, below) in
      let before : k ≤ b = omega (arith, eb, below) in
      rw (this, ← ep, ← there) (met_why (k + 1) i inside (rw by at is) broke (rw (by, nothing_before v is_broken r.header.counts b k before) at entered))

  not_met_why : (b place : ℕ) {n : ℕ} {xs : List Finding} → PassedTo is_broken r.header.counts place b (b + 1) → Entered (findings_to v is_broken (places_from b r.header.counts) (b + 1)) n xs → ◌≡◌ {A = Walked} (record { findings = record { count = n; list = xs }; basis = Silent }) (walked (Why (b + 1) place) v fig r ch l)
  not_met_why b place passed entered = rw stands (handed_over (rw (of_one_rule v is_broken r.header.counts b) at entered))
    where
      stands : broken (ground_at fig r ch l (b + 1) place) ≡ false
      stands = go (broken (ground_at fig r ch l (b + 1) place)) refl
        where
          go : (t : Bool) → broken (ground_at fig r ch l (b + 1) place) ≡ t → broken (ground_at fig r ch l (b + 1) place) ≡ false
          go true e = absurd (passed (b + 1) (omega arith) (le_refl (b + 1)) (index_of place) (spoken_inside fig r ch l (b + 1) place e) (spoken_broken fig r ch l (b + 1) place e) (sym (spoken_there fig r ch l (b + 1) place e)))
          go false e = e

  -- or behind the last rule
  pub not_met : (sought : Sought) (b : ℕ) {beside : Beside} {place n : ℕ} {xs : List Finding} → beside ≡ beside_of fig r ch l → b ≡ before_of sought → place ≡ place_of sought → before_of sought < last_of sought → PassedTo (broken_beside beside) r.header.counts place b (last_of sought) → Entered (findings_to v (broken_beside beside) (places_from b r.header.counts) (last_of sought)) n xs → ◌≡◌ {A = Walked} (record { findings = record { count = n; list = xs }; basis = Silent }) (walked sought v fig r ch l)
  unfolding findings broken_at
  not_met All b by eb ep some passed entered =
      handed_over (rw (by, eb, all_from_the_first v is_broken r.header.counts) at entered)
  not_met (Why rule place) b by eb ep some passed entered =
      let this : rule ≡ b + 1 = omega (arith, eb, some) in
      rw this (not_met_why b place (rw (by, ep, this) at passed) (rw (by, this) at entered))

  -- What is listed is never more than all findings
  pub listed_few : Worked r l → (sought : Sought) → Seekable sought → length (list_for sought v fig r ch l) ≤ most_findings
  unfolding findings
  listed_few w All ok = at_most v fig r ch l w
  listed_few w (Why rule place) ok =
      let n = r.header.counts in
      let b : ℕ = rule - 1 in
      let this : rule ≡ b + 1 = omega (arith, ok.some) in
      let in-rule = rule_rising v is_broken rule _ _ (up_to_all (broken (ground_at fig r ch l rule place)) refl) in
      let rule-among = ap length (of_one_rule v is_broken n b) in
      let among-all = le_trans (rules_rising v is_broken (places_from b n) (b + 1) last_rule (omega (arith, ok.last, this))) (fewer v is_broken (places_from b n) (places_of n) (places_fewer b n) last_rule) in
      le_trans in-rule (le_trans (rw (this, ← rule-among) among-all) (at_most v fig r ch l w))
    where
      up_to_all : (t : Bool) → broken (ground_at fig r ch l rule place) ≡ t → cond t (index_of place) (places_of r.header.counts rule) ≤ places_of r.header.counts rule
      up_to_all true e = le_of_lt (spoken_inside fig r ch l rule place e)
      up_to_all false e = le_refl _

-- all findings can be sought
pub all_seekable : Seekable All
all_seekable = record { some = omega arith; last = omega arith }
