-- A run has at most 98 findings: of 3 and 6, of 4 and 5, and of 12, 14, 15 and 16 at most one can be broken, and with eight weighings not both 18 and 19.
use Rattle.std.specs.Prelude.{Option, Some, None}
use Rattle.arith.specs.declared.Division.{Division}
use Rattle.records.specs.declared.Certificate.{Certificate}
use Prim.Native.Nat.{ℕ, zero, suc, ◌+◌, ◌≤◌, ◌<◌}
use mathlib.Core.Path.{◌≡◌, refl, ◌∙◌, ap}
use mathlib.Core.Bool.{Bool, true, false, cond}
use mathlib.Core.List.{List, [], ◌∷◌}
use native.Mathlib.Nat.{le_refl, lt_of_not-le}
use native.Mathlib.Decide.{dec_le}
use native.Mathlib.Omega.{arith}
use borrow.Author.Tests.{eq-eqb, ne_eqb, eqb-true, le-ltb}
use lib.Dec.{eqb}
use lib.ListN.{length, get_or, length-append}
use Rattle.readings.specs.declared.headers.Version.{Version}
use Rattle.readings.specs.Ranges.{greatest_point_count, greatest_segment_count, greatest_weighing_count, filter_kind, rinse_kind}
use Rattle.readings.proofs.Ranges.{within_least, within_greatest}
use Rattle.records.specs.declared.Weighing.{Weighing}
use Rattle.records.specs.declared.Run.{Run}
use Rattle.records.specs.Records.{no_weighing, sum_to}
use Rattle.records.specs.InRange.{RunOk}
use Rattle.lines.specs.declared.Lines.{Lines}
use Rattle.choosing.specs.declared.Chosen.{Chosen}
use Rattle.steps.specs.declared.Figure.{Figure}
use Rattle.grounds.specs.declared.comparison.Way.TheVariants.{Below, Above, Same}
use Rattle.grounds.specs.Comparing.{holds, deciding, compare_exactly}
use Rattle.rules.specs.declared.Beside.{Beside}
use Rattle.grounds.specs.Grounds.{broken}
use Rattle.conditions.specs.Conditions.{missing, moved, uneven, line_against, ratio_against, least_isokinetic, greatest_isokinetic, lacking}
use Rattle.classes.specs.Classes.{places_of}
use Rattle.rules.specs.Rules.{last_rule, table, ground_of}
use Rattle.findings.specs.Listing.{part_of, one_of_kind, of_kind, beside_of, broken_at, finding_at, rule_findings, findings_to, findings, lines_for, findings_for, most_findings, Worked}
use Rattle.findings.proofs.Filling.{rising}
use Rattle.findings.proofs.Absent.{no_volume, no_moisture, no_velocity, no_flow}

-- one where a rule is broken, and otherwise nothing
abbrev bit : Bool → ℕ
bit true = 1
bit false = 0

bit_le : (t : Bool) → bit t ≤ 1
bit_le true = le_refl 1
bit_le false = omega arith

-- how many findings a rule has
module _ (v : Version) (is_broken : ℕ → ℕ → Bool) (places : ℕ → ℕ) where
  many : ℕ → ℕ
  many rule = length (rule_findings v (is_broken rule) rule (places rule))

  one_more : (rule i : ℕ) → length (cond (is_broken rule i) (finding_at v rule i ∷ []) []) ≡ bit (is_broken rule i)
  one_more rule i = go (is_broken rule i)
    where
      go : (t : Bool) → length (cond t (finding_at v rule i ∷ []) []) ≡ bit t
      go true = refl
      go false = refl

  -- no more than it has places
  upto : (rule n : ℕ) → length (rule_findings v (is_broken rule) rule n) ≤ n
  unfolding rule_findings
  upto rule zero = le_refl 0
  upto rule (suc n) =
      let more = length-append (rule_findings v (is_broken rule) rule n) (cond (is_broken rule n) (finding_at v rule n ∷ []) []) in
      omega (arith, more, one_more rule n, bit_le (is_broken rule n), upto rule n)

  many_le : (rule : ℕ) → many rule ≤ places rule
  unfolding many
  many_le rule = upto rule (places rule)

  -- a rule about the whole run
  many_whole : (rule : ℕ) → places rule ≡ 1 → many rule ≡ bit (is_broken rule 0)
  unfolding many rule_findings
  many_whole rule e = rw e (one_more rule 0)

  -- all of them
  many_all : (k : ℕ) → length (findings_to v is_broken places k) ≡ sum_to (λ i. many (i + 1)) k
  unfolding many findings_to sum_to
  many_all zero = refl
  many_all (suc k) =
      length-append (findings_to v is_broken places k) (rule_findings v (is_broken (k + 1)) (k + 1) (places (k + 1)))
      ∙ ap (λ (n : ℕ). n + length (rule_findings v (is_broken (k + 1)) (k + 1) (places (k + 1)))) (many_all k)

-- 3 and 6: without a nozzle certificate there is no diameter to compare
nozzle_once : (n : Option Certificate) → bit (broken (missing n)) + bit (broken (uneven n)) ≤ 1
unfolding broken missing uneven
nozzle_once None = omega arith
nozzle_once (Some c) = omega (arith, bit_le (broken (uneven (Some c))))

-- 4 and 5: without an after certificate the factor did not move
factor_once : (b a : Option Certificate) → bit (broken (missing a)) + bit (broken (moved b a)) ≤ 1
unfolding broken missing moved
factor_once None None = omega arith
factor_once (Some b) None = omega arith
factor_once b (Some a) = omega (arith, bit_le (broken (moved b (Some a))))

-- 12 to 16: each speaks of a line that the next needs
zero_once : (v : Option ℕ) (rest : ℕ) → rest ≤ 1 → (v ≡ Some 0 → rest ≡ 0) → bit (broken (line_against v Same 0)) + rest ≤ 1
unfolding broken line_against holds
zero_once None rest le none = omega arith
zero_once (Some n) rest le none = go (eqb n 0) (λ e. none (ap Some (eqb-true n 0 e)))
  where
    go : (t : Bool) → (t ≡ true → rest ≡ 0) → bit t + rest ≤ 1
    go true h = omega (arith, h refl)
    go false h = omega arith

zero_missing : (v : Option ℕ) (rest : ℕ) → v ≡ None → rest ≡ 0 → bit (broken (line_against v Same 0)) + rest ≡ 0
unfolding broken line_against
zero_missing v rest e none = rw e (omega arith)

-- the percent isokinetic is not below 9,000 and above 11,000
percent_once : (v : Option Division) → bit (broken (ratio_against v Below least_isokinetic)) + bit (broken (ratio_against v Above greatest_isokinetic)) ≤ 1
unfolding broken ratio_against holds deciding
percent_once None = omega arith
percent_once (Some n) = go (dec_le n.quotient least_isokinetic)
  where
    q : ℕ
    q = n.quotient

    fifteen : Bool
    fifteen = holds (deciding (compare_exactly q n.remainder Below least_isokinetic))

    sixteen : Bool
    sixteen = holds (deciding (compare_exactly q n.remainder Above greatest_isokinetic))

    not_sixteen : q ≤ least_isokinetic → sixteen ≡ false
    not_sixteen low = rw (ne_eqb q greatest_isokinetic (omega arith)) (le-ltb greatest_isokinetic q (omega arith))

    not_fifteen : least_isokinetic < q → fifteen ≡ false
    not_fifteen high = rw (ne_eqb q least_isokinetic (omega arith)) (le-ltb q least_isokinetic (omega arith))

    go : Dec (q ≤ least_isokinetic) → bit fifteen + bit sixteen ≤ 1
    go (yes low) = rw (not_sixteen low) (omega (arith, bit_le fifteen))
    go (no high) = rw (not_fifteen (lt_of_not-le high)) (omega (arith, bit_le sixteen))

percent_missing : (v : Option Division) → v ≡ None → bit (broken (ratio_against v Below least_isokinetic)) + bit (broken (ratio_against v Above greatest_isokinetic)) ≡ 0
unfolding broken ratio_against
percent_missing v e = rw e (omega arith)

-- 18 and 19: a weighing is of a filter or of a rinse
kind_some : (kind : ℕ) (ws : List Weighing) (n : ℕ) → 1 ≤ n → (get_or ws 0 no_weighing).kind ≡ kind → 1 ≤ of_kind kind ws n
unfolding of_kind sum_to
kind_some kind ws n some e =
    let one : 0 + one_of_kind kind (get_or ws 0 no_weighing) ≡ 1 = rw (eq-eqb _ _ e) in
    let up : of_kind kind ws 1 ≤ of_kind kind ws n = rising (λ m. of_kind kind ws m) (λ m. omega arith) 1 n some in
    omega arith

not_lacking : (n : ℕ) → 1 ≤ n → broken (lacking n) ≡ false
unfolding broken holds
not_lacking n some = le-ltb _ _ some

weighed_once : (ws : List Weighing) (n many : ℕ) → n ≤ greatest_weighing_count → many ≤ n → ((i : ℕ) → i < n → (filter_kind ≤ (get_or ws i no_weighing).kind) × ((get_or ws i no_weighing).kind ≤ rinse_kind)) → many + bit (broken (lacking (of_kind filter_kind ws n))) + bit (broken (lacking (of_kind rinse_kind ws n))) ≤ greatest_weighing_count + 1
weighed_once ws n many few le kinds = go (dec_le 1 n)
  where
    first : ℕ
    first = (get_or ws 0 no_weighing).kind

    no_filter : ℕ
    no_filter = bit (broken (lacking (of_kind filter_kind ws n)))

    no_rinse : ℕ
    no_rinse = bit (broken (lacking (of_kind rinse_kind ws n)))

    filter : 1 ≤ n → first ≡ filter_kind → many + no_filter + no_rinse ≤ greatest_weighing_count + 1
    filter some e =
        rw (not_lacking _ (kind_some filter_kind ws n some e)) (omega (arith, bit_le (broken (lacking (of_kind rinse_kind ws n)))))

    rinse : 1 ≤ n → first ≡ rinse_kind → many + no_filter + no_rinse ≤ greatest_weighing_count + 1
    rinse some e =
        rw (not_lacking _ (kind_some rinse_kind ws n some e)) (omega (arith, bit_le (broken (lacking (of_kind filter_kind ws n)))))

    either : 1 ≤ n → Dec (first ≤ filter_kind) → (filter_kind ≤ first) × (first ≤ rinse_kind) → many + no_filter + no_rinse ≤ greatest_weighing_count + 1
    either some (yes low) range = filter some (omega arith)
    either some (no high) range = rinse some (omega arith)

    go : Dec (1 ≤ n) → many + no_filter + no_rinse ≤ greatest_weighing_count + 1
    go (yes some) = either some (dec_le first filter_kind) (kinds 0 some)
    go (no none) =
        omega (arith, bit_le (broken (lacking (of_kind filter_kind ws n))), bit_le (broken (lacking (of_kind rinse_kind ws n))))

module _ (v : Version) (fig : Figure) (r : Run) (ch : Chosen) (l : Lines) (w : Worked r l) where
  -- rules 12 to 16 together
  lines_once : bit (broken_at fig r ch l 12 0) + (bit (broken_at fig r ch l 14 0) + (bit (broken_at fig r ch l 15 0) + bit (broken_at fig r ch l 16 0))) ≤ 1
  unfolding beside_of broken_at table ground_of
  lines_once =
      zero_once _ _ (zero_once _ _ (percent_once _) (λ e. percent_missing _ (no_flow r l w e)))
      (λ e.
      let no-volume-drawn : l.metering.corrected ≡ 0 = cc in
      after_velocity (no_moisture r l w (no_volume r l w no-volume-drawn)))
    where
      after_velocity : l.stack.velocity ≡ None → bit (broken (line_against l.stack.velocity Same 0)) + (bit (broken (ratio_against l.sampling.isokinetic Below least_isokinetic)) + bit (broken (ratio_against l.sampling.isokinetic Above greatest_isokinetic))) ≡ 0
      after_velocity e = zero_missing _ _ e (percent_missing _ (no_velocity r l w e))

  -- how many findings rule number `rule` has
  has : ℕ → ℕ
  has rule = many v (broken_at fig r ch l) (places_of r.header.counts) rule

  has_le : (rule : ℕ) → has rule ≤ places_of r.header.counts rule
  unfolding has
  has_le rule = many_le v (broken_at fig r ch l) (places_of r.header.counts) rule

  has_whole : (rule : ℕ) → places_of r.header.counts rule ≡ 1 → has rule ≡ bit (broken_at fig r ch l rule 0)
  unfolding has
  has_whole rule e = many_whole v (broken_at fig r ch l) (places_of r.header.counts) rule e

  three_and_six : has 3 + has 6 ≤ 1
  unfolding places_of beside_of broken_at table ground_of
  three_and_six = rw (has_whole 3 refl, has_whole 6 refl) (nozzle_once ch.nozzle)

  four_and_five : has 4 + has 5 ≤ 1
  unfolding places_of beside_of broken_at table ground_of
  four_and_five = rw (has_whole 4 refl, has_whole 5 refl) (factor_once ch.before ch.after)

  twelve_to_sixteen : has 12 + (has 14 + (has 15 + has 16)) ≤ 1
  unfolding places_of
  twelve_to_sixteen = rw (has_whole 12 refl, has_whole 14 refl, has_whole 15 refl, has_whole 16 refl) lines_once

  -- a number without a rule has none
  no_thirteen : has 13 ≡ 0
  unfolding places_of broken_at broken table ground_of
  no_thirteen = rw (has_whole 13 refl)

  seventeen_to_nineteen : has 17 + has 18 + has 19 ≤ greatest_weighing_count + 1
  unfolding places_of beside_of broken_at table ground_of
  seventeen_to_nineteen =
      rw (has_whole 18 refl, has_whole 19 refl)
      (weighed_once r.weighings r.header.counts.weighings (has 17) (within_greatest _ _ _ w.ok.header.weighings) (has_le 17)
      (λ i inside.
      let kind = (w.ok.weighings i inside).kind in
      (within_least _ _ _ kind, within_greatest _ _ _ kind)))

  all_fit : length (findings_to v (broken_at fig r ch l) (places_of r.header.counts) last_rule) ≤ most_findings
  unfolding places_of sum_to has
  all_fit =
      let points : r.header.counts.points ≤ greatest_point_count = within_greatest _ _ _ w.ok.header.points in
      let segments : r.header.counts.segments ≤ greatest_segment_count = within_greatest _ _ _ w.ok.header.segments in
      let ten : has 10 ≤ r.header.counts.points = has_le 10 in
      let eleven : has 11 ≤ r.header.counts.segments = has_le 11 in
      let one : has 1 ≤ 1 = has_le 1 in
      let two : has 2 ≤ 1 = has_le 2 in
      let seven : has 7 ≤ 1 = has_le 7 in
      let eight : has 8 ≤ 1 = has_le 8 in
      let nine : has 9 ≤ 1 = has_le 9 in
      let twenty : has 20 ≤ 1 = has_le 20 in
      omega (arith, many_all v (broken_at fig r ch l) (places_of r.header.counts) last_rule, three_and_six, four_and_five, twelve_to_sixteen, no_thirteen, seventeen_to_nineteen)

  -- the same where what stands beside is known only to be the run's
  pub all_fit_beside : {beside : Beside} → beside ≡ beside_of fig r ch l → length (findings_to v (λ rule i. broken (ground_of (part_of r rule i) beside rule)) (places_of r.header.counts) last_rule) ≤ most_findings
  unfolding broken_at
  all_fit_beside is = rw is all_fit

  -- At most 98 findings
  pub at_most : length (findings v fig r ch l) ≤ most_findings
  unfolding findings
  at_most = all_fit

-- with the lines that a run in range gives
pub at_most_for : (v : Version) (fig : Figure) (r : Run) (ch : Chosen) → RunOk r → length (findings_for v fig r ch) ≤ most_findings
unfolding lines_for findings_for
at_most_for v fig r ch ok = at_most v fig r ch (lines_for v r ch) (record { ok = ok; y = _; cp = _; nozzle = _; is = refl })
