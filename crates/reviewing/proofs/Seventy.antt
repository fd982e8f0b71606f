-- No explanation has more than 70 bytes: two conditions and no certificate day, or one condition and four days.
use Rattle.std.specs.Prelude.{Option, Some, None}
use Rattle.arith.specs.declared.Division.{Division}
use Prim.Native.Nat.{ℕ, ◌+◌, ◌*◌, ◌≤◌}
use mathlib.Core.Path.{◌≡◌, refl, sym, ◌∙◌, subst⁻¹}
use mathlib.Core.Bool.{Bool, true, false, true≢false, cond}
use mathlib.Core.List.{List, [], ◌∷◌, ◌++◌}
use native.Mathlib.Omega.{arith}
use borrow.Author.Tests.{eqb-true}
use lib.Dec.{eqb}
use lib.IntN.{ℤ}
use lib.ListN.{length, length-append}
use Rattle.numbered.specs.Numbered.{Numbered, row_of}
use Rattle.readings.specs.declared.headers.Version.{Version}
use Rattle.readings.specs.Ranges.{meter, pitot, nozzle}
use Rattle.records.specs.declared.Certificate.{Certificate}
use Rattle.records.specs.declared.Run.{Run}
use Rattle.records.specs.declared.Site.{Site}
use Rattle.records.specs.declared.RunHeader.{RunHeader}
use Rattle.choosing.specs.Choosing.{chosen, chosen_for}
use Rattle.grounds.specs.declared.comparison.Way.{Way}
use Rattle.grounds.specs.declared.Ground.{Ground}
use Rattle.grounds.specs.declared.Ground.TheVariants.{Silent}
use Rattle.grounds.specs.Showing.{Condition, conditions, broken_of, shown}
use Rattle.conditions.specs.declared.Part.{Part}
use Rattle.conditions.specs.declared.Part.TheVariants.{Whole, OnePoint, OneSegment, OneWeighing}
use Rattle.conditions.specs.Conditions.{missing, moved, uneven, short, leaking, line_against, ratio_against, unsteady, lacking, negative}
use Rattle.site.specs.Site.{narrow}
use Rattle.rules.specs.declared.Beside.{Beside}
use Rattle.rules.specs.Rules.{table, ground_of}
use Rattle.steps.specs.declared.Figure.{Figure}
use Rattle.dates.specs.declared.Use.{Use}
use Rattle.dates.specs.declared.Use.TheVariants.{Neither, Before, Both}
use Rattle.dates.specs.declared.Sides.{Sides}
use Rattle.dates.specs.declared.Days.{Days}
use Rattle.dates.specs.Side.{before, after}
use Rattle.dates.specs.Dates.{worked_use, meter_use, pitot_use, nozzle_use, day_of, sides_of, days_of, entries_on, entries_of, entries}
use Rattle.dates.proofs.Entries.{one_a_side}
use Rattle.reasons.proofs.Lengths.{condition_bytes_length, day_bytes_length}
use Rattle.explaining.specs.declared.Explanation.{Explanation}
use Rattle.findings.specs.Listing.{part_of, beside_of, lines_for}
use Rattle.findings.specs.Seeking.{index_of, speaks_of, ground_at}
use Rattle.explaining.specs.Explaining.{ground_for, explanation}
use Rattle.forms.specs.Forms.{Bytes, head_in, condition_in, day_in}
use Rattle.explanations.specs.Written.{conditions_in, sides_in, days_in, written}
use Rattle.explanations.proofs.Lengths.{shown_few, at_most_two}
use Rattle.reviewing.specs.Numbers.{SeventyBytes}
use Rattle.reviewing.proofs.Rows.{EachRow, end, ◌then◌, any_rule}

-- How many bytes there are: 2, 34 a condition, 5 a certificate day

conditions_bytes : (rule : ℕ) (round : Bool) (cs : List Condition) → length (conditions_in Bytes rule round cs) ≡ 34 * length cs
unfolding conditions_in condition_in
conditions_bytes rule round [] = refl
conditions_bytes rule round (c ∷ cs) =
    omega (arith, length-append (condition_in Bytes rule round c) (conditions_in Bytes rule round cs), condition_bytes_length c, conditions_bytes rule round cs)

sides_bytes : (kind : ℕ) (s : Sides) → length (sides_in Bytes kind s) ≡ 5 * entries_of s
unfolding sides_in day_in entries_of
sides_bytes kind s =
    omega (arith, length-append (day_in Bytes kind before s.before) (day_in Bytes kind after s.after), day_bytes_length kind before s.before, day_bytes_length kind after s.after)

days_bytes : (d : Days) → length (days_in Bytes d) ≡ 5 * entries d
unfolding days_in entries
days_bytes d =
    let a = sides_in Bytes meter d.meter in
    let b = sides_in Bytes pitot d.pitot in
    let c = sides_in Bytes nozzle d.nozzle in
    omega (arith, length-append a b, length-append (a ++ b) c, sides_bytes meter d.meter, sides_bytes pitot d.pitot, sides_bytes nozzle d.nozzle)

written_bytes : (e : Explanation) → length (written Bytes e) ≡ 2 + 34 * length (shown e.basis) + 5 * entries e.days
unfolding written head_in
written_bytes e =
    let head = head_in Bytes e in
    let told = conditions_in Bytes e.finding.rule e.round (shown e.basis) in
    omega (arith, length-append head told, length-append (head ++ told) (days_in Bytes e.days), conditions_bytes e.finding.rule e.round (shown e.basis), days_bytes e.days)

-- How many certificate days a rule uses

count : Use → ℕ
count Neither = 0
count Before = 1
count Both = 2

counted : (u : Use) (b a : Option Certificate) → entries_of (sides_of u b a) ≤ count u
unfolding count sides_of entries_of entries_on
counted Neither b a = omega arith
counted Before b a = omega (arith, one_a_side (day_of b))
counted Both b a = omega (arith, one_a_side (day_of b), one_a_side (day_of a))

-- in all three kinds
uses : Version → ℕ → ℕ
uses v rule = count (meter_use v rule) + count (pitot_use rule) + count (nozzle_use rule)

days_counted : (v : Version) (f : ℕ → Certificate) (n : ℕ) (h : RunHeader) (rule : ℕ) → entries (days_of v f n h rule) ≤ uses v rule
unfolding days_of entries uses
days_counted v f n h rule =
    omega (
      arith,
      counted (meter_use v rule) (chosen false meter h.meter h.day f n) (chosen true meter h.meter h.day f n),
      counted (pitot_use rule) (chosen false pitot h.pitot h.day f n) (chosen true pitot h.pitot h.day f n),
      counted (nozzle_use rule) (chosen false nozzle h.nozzle h.day f n) (chosen true nozzle h.nozzle h.day f n),
    )

two_at_most : (u : Use) → count u ≤ 2
unfolding count
two_at_most Neither = omega arith
two_at_most Before = omega arith
two_at_most Both = omega arith

-- what holds of one number, and of every other, holds of a rule
settle : (P : ℕ → Type 0) (k rule : ℕ) → P k → (eqb rule k ≡ false → P rule) → P rule
settle P k rule here else = go (eqb rule k) refl
  where
    go : (b : Bool) → eqb rule k ≡ b → P rule
    go true e = subst⁻¹ P (eqb-true rule k e) here
    go false e = else e

-- where the meter's are not among them
without_meter : (v : Version) (rule : ℕ) → meter_use v rule ≡ Neither → uses v rule ≤ 4
unfolding uses count
without_meter v rule none = rw none (omega (arith, two_at_most (pitot_use rule), two_at_most (nozzle_use rule)))

four_uses : (v : Version) (rule : ℕ) → uses v rule ≤ 4
unfolding uses meter_use pitot_use nozzle_use count
four_uses v rule =
    let P : ℕ → Type 0 = λ r. uses v r ≤ 4 in
    let worked = two_at_most (worked_use v) in
    settle P 1 rule (omega arith) (λ a.
    settle P 4 rule (omega arith) (λ b.
    settle P 5 rule (omega arith) (λ c.
    settle P 14 rule (omega (arith, worked)) (λ d.
    settle P 15 rule (omega (arith, worked)) (λ e.
    settle P 16 rule (omega (arith, worked)) (λ f.
    without_meter v rule (rw (a, b, c, d, e, f))))))))

no_uses : (v : Version) → (uses v 8 ≡ 0) × (uses v 9 ≡ 0)
unfolding uses meter_use pitot_use nozzle_use count
no_uses v = (refl, refl)

-- How many conditions a rule has: but for 8 and 9, one or none

missing_one : (l : Option Certificate) → length (conditions (missing l)) ≤ 1
unfolding missing conditions
missing_one None = omega arith
missing_one (Some c) = omega arith

moved_one : (b a : Option Certificate) → length (conditions (moved b a)) ≤ 1
unfolding moved conditions
moved_one None a = omega arith
moved_one (Some b) None = omega arith
moved_one (Some b) (Some a) = omega arith

uneven_one : (l : Option Certificate) → length (conditions (uneven l)) ≤ 1
unfolding uneven conditions
uneven_one None = omega arith
uneven_one (Some c) = omega arith

short_one : (p : Part) → length (conditions (short p)) ≤ 1
unfolding short conditions
short_one Whole = omega arith
short_one (OnePoint p) = omega arith
short_one (OneSegment s) = omega arith
short_one (OneWeighing w) = omega arith

leaking_one : (t v : ℕ) (p : Part) → length (conditions (leaking t v p)) ≤ 1
unfolding leaking conditions
leaking_one t v Whole = omega arith
leaking_one t v (OnePoint p) = omega arith
leaking_one t v (OneSegment s) = omega arith
leaking_one t v (OneWeighing w) = omega arith

line_one : (x : Option ℕ) (way : Way) (limit : ℕ) → length (conditions (line_against x way limit)) ≤ 1
unfolding line_against conditions
line_one None way limit = omega arith
line_one (Some n) way limit = omega arith

ratio_one : (x : Option Division) (way : Way) (limit : ℕ) → length (conditions (ratio_against x way limit)) ≤ 1
unfolding ratio_against conditions
ratio_one None way limit = omega arith
ratio_one (Some n) way limit = omega arith

unsteady_one : (p : Part) → length (conditions (unsteady p)) ≤ 1
unfolding unsteady conditions
unsteady_one Whole = omega arith
unsteady_one (OnePoint p) = omega arith
unsteady_one (OneSegment s) = omega arith
unsteady_one (OneWeighing w) = omega arith

-- a ground has one condition at most
abbrev AtMostOne : Ground → Type 0
AtMostOne g = length (conditions g) ≤ 1

narrow_one : (s : Site) → AtMostOne (narrow s)
unfolding conditions
narrow_one s = omega arith

lacking_one : (weighed : ℕ) → AtMostOne (lacking weighed)
unfolding conditions
lacking_one weighed = omega arith

negative_one : (catch : ℤ) → AtMostOne (negative catch)
unfolding conditions
negative_one catch = omega arith

rows_one : (part : Part) (b : Beside) (n : ℕ) → eqb n 8 ≡ false → eqb n 9 ≡ false → EachRow AtMostOne n (table part b)
unfolding table conditions
rows_one part b n not_eight not-nine =
    (λ e. missing_one _)
    then (λ e. missing_one _)
    then (λ e. missing_one _)
    then (λ e. missing_one _)
    then (λ e. moved_one _ _)
    then (λ e. uneven_one _)
    then (λ e. narrow_one b.site)
    then (λ e. absurd (true≢false (sym e ∙ not_eight)))
    then (λ e. absurd (true≢false (sym e ∙ not-nine)))
    then (λ e. short_one part)
    then (λ e. leaking_one _ _ part)
    then (λ e. line_one _ _ _)
    then (λ e. line_one _ _ _)
    then (λ e. ratio_one _ _ _)
    then (λ e. ratio_one _ _ _)
    then (λ e. unsteady_one part)
    then (λ e. lacking_one b.filters)
    then (λ e. lacking_one b.rinses)
    then (λ e. negative_one b.lines.sampling.catch)
    then end

module _ (v : Version) (fig : Figure) (f : ℕ → Certificate) (n : ℕ) (r : Run) (place : ℕ) where
  -- what is shown of any rule but 8 and 9
  one_shown : (rule : ℕ) → eqb rule 8 ≡ false → eqb rule 9 ≡ false → length (shown (ground_for v fig r (chosen_for f n r.header) rule place)) ≤ 1
  unfolding shown ground_for ground_at ground_of conditions
  one_shown rule not_eight not-nine = go (speaks_of r.header.counts rule place)
    where
      rows : List (Numbered Ground)
      rows = table (part_of r rule (index_of place)) (beside_of fig r (chosen_for f n r.header) (lines_for v r (chosen_for f n r.header)))

      none_at_all : AtMostOne Silent
      none_at_all = omega arith

      few : AtMostOne (row_of Silent rows rule)
      few = any_rule AtMostOne none_at_all rule (rows_one (part_of r rule (index_of place)) (beside_of fig r (chosen_for f n r.header) (lines_for v r (chosen_for f n r.header))) rule not_eight not-nine)

      go : (b : Bool) → length (broken_of (conditions (cond b (row_of Silent rows rule) Silent))) ≤ 1
      go true = omega (arith, shown_few (conditions (row_of Silent rows rule)), few)
      go false = omega (arith, shown_few (conditions Silent))

  two_shown : (rule : ℕ) → length (shown (ground_for v fig r (chosen_for f n r.header) rule place)) ≤ 2
  unfolding shown
  two_shown rule = let g = ground_for v fig r (chosen_for f n r.header) rule place in omega (arith, shown_few (conditions g), at_most_two g)

  abbrev bytes : ℕ → ℕ
  bytes rule = length (written Bytes (explanation v fig f n r rule place))

  at_most : (rule shows dates : ℕ) → length (shown (ground_for v fig r (chosen_for f n r.header) rule place)) ≤ shows → entries (days_of v f n r.header rule) ≤ dates → 2 + 34 * shows + 5 * dates ≤ 70 → bytes rule ≤ 70
  unfolding explanation
  at_most rule shows dates few used fits = omega (arith, written_bytes (explanation v fig f n r rule place), few, used, fits)

  seventy_at_most : (rule : ℕ) → bytes rule ≤ 70
  seventy_at_most rule =
      let none = no_uses v in
      settle (λ r. bytes r ≤ 70) 8 rule (at_most 8 2 0 (two_shown 8) (omega (arith, days_counted v f n r.header 8, none.0)) (omega arith)) (λ not_eight.
      settle (λ r. bytes r ≤ 70) 9 rule (at_most 9 2 0 (two_shown 9) (omega (arith, days_counted v f n r.header 9, none.1)) (omega arith)) (λ not-nine.
      at_most rule 1 4 (one_shown rule not_eight not-nine) (omega (arith, days_counted v f n r.header rule, four_uses v rule)) (omega arith)))

-- Of every explanation
pub seventy_bytes : SeventyBytes
seventy_bytes v fig f n r rule place = seventy_at_most v fig f n r place rule
