-- How long a text can be: a line, a finding, a run.
use Rattle.std.specs.Prelude.{Option, Some, None, ℤ}
use Prim.Native.Nat.{ℕ, ◌+◌, ◌-◌, ◌≤◌, ◌<◌}
use mathlib.Core.Path.{refl}
use mathlib.Core.Bool.{Bool, true, false, cond}
use mathlib.Core.List.{[], ◌∷◌, ◌++◌}
use native.Mathlib.Omega.{arith}
use lib.Dec.{eqb}
use lib.ListN.{length, get_or, replicate, length-append, get_or-append}
use Rattle.readings.specs.declared.headers.Version.{Version}
use Rattle.readings.specs.Ranges.{least_run_number, greatest_run_number, least_point_count, greatest_point_count, least_segment_count, greatest_segment_count, greatest_weighing_count}
use Rattle.numbered.specs.Numbered.{one_of}
use Rattle.readings.proofs.Ranges.{within_greatest}
use Rattle.arrays.specs.Arrays.{filled_to}
use Rattle.records.specs.declared.Run.{Run}
use Rattle.records.specs.InRange.{RunOk}
use Rattle.lines.specs.declared.Entry.{Entry}
use Rattle.lines.specs.declared.Sheet.{Sheet}
use Rattle.lines.specs.Sheet.{line_count}
use Rattle.choosing.specs.declared.Chosen.{Chosen}
use Rattle.findings.specs.declared.Finding.{Finding}
use Rattle.classes.specs.Classes.{places_of, place_at, fault}
use Rattle.steps.specs.declared.Figure.{Figure}
use Rattle.findings.specs.Listing.{no_finding, most_findings, listed, findings_for, lines_for, Breaks}
use Rattle.findings.proofs.Members.{listed_exactly}
use Rattle.findings.proofs.Most.{at_most_for}
use Rattle.reduction.specs.Reducing.{worked}
use Rattle.characters.specs.Numbers.{decimal}
use Rattle.characters.specs.Words.{spelled}
use Rattle.characters.proofs.Decimals.{decimal_short, decimal_digits, signed_short}
use Rattle.characters.proofs.Texts.{either_short, joined_short}
use Rattle.text.specs.Sheets.{space, newline, value_text, line_text, line_at, sheet_text}
use Rattle.text.specs.Runs.{class_name, finding_text, findings_text, standing, run_word, run_text}

-- A sheet

value_short : (line : Option ℤ) → length (value_text line) ≤ 21
unfolding value_text
value_short (Some z) = signed_short z
value_short None = omega arith

line_short : (number : ℕ) (entry : Entry) → number < 100 → length (line_text number entry) ≤ 25
unfolding line_text
line_short number entry few =
    let value = value_text entry.line in
    let one = length-append (decimal number) space in
    let two = length-append (decimal number ++ space) value in
    let three = length-append (decimal number ++ space ++ value) newline in
    omega (arith, one, two, three, decimal_digits 1 number few, value_short entry.line)

sheet_short : (sheet : Sheet) → length (sheet_text sheet) ≤ 500
unfolding sheet_text
sheet_short sheet = joined_short (line_at sheet.entries) line_count 25 (λ i inside. line_short (i + 1) _ (omega arith))

-- Findings

class_short : (class : ℕ) → length (class_name class) ≤ 6
unfolding class_name spelled
class_short class = either_short (eqb class fault) _ _ 6 (omega arith) (omega arith)

finding_short : (f : Finding) → f.rule < 100 → f.place < 100 → length (finding_text f) ≤ 12
unfolding finding_text
finding_short f rule place =
    let class = class_name f.class in
    let one = length-append class (decimal f.rule) in
    let two = length-append (class ++ decimal f.rule) space in
    let three = length-append (class ++ decimal f.rule ++ space) (decimal f.place) in
    let four = length-append (class ++ decimal f.rule ++ space ++ decimal f.place) newline in
    omega (arith, one, two, three, four, class_short f.class, decimal_digits 1 f.rule rule, decimal_digits 1 f.place place)

-- whatever its numbers are
pub any_finding_short : (f : Finding) → length (finding_text f) ≤ 48
unfolding finding_text
any_finding_short f =
    let class = class_name f.class in
    let one = length-append class (decimal f.rule) in
    let two = length-append (class ++ decimal f.rule) space in
    let three = length-append (class ++ decimal f.rule ++ space) (decimal f.place) in
    let four = length-append (class ++ decimal f.rule ++ space ++ decimal f.place) newline in
    omega (arith, one, two, three, four, class_short f.class, decimal_short f.rule, decimal_short f.place)

-- a number that is one of two is at most what both are
either_most : (test : Bool) (a b n : ℕ) → a ≤ n → b ≤ n → cond test a b ≤ n
either_most true a b n h k = h
either_most false a b n h k = k

-- no rule has more places than there can be points, and no finding stands behind the last of them
places_few : (r : Run) → RunOk r → (rule : ℕ) → places_of r.header.counts rule ≤ greatest_point_count
unfolding places_of
places_few r ok rule =
    let points = within_greatest least_point_count greatest_point_count _ ok.header.points in
    let segments = within_greatest least_segment_count greatest_segment_count _ ok.header.segments in
    let weighings = within_greatest 0 greatest_weighing_count _ ok.header.weighings in
    either_most (eqb rule 10) _ _ greatest_point_count points (either_most (eqb rule 11) _ _ greatest_point_count (omega arith) (either_most (eqb rule 17) _ _ greatest_point_count (omega arith) (omega arith)))

place_few : (rule i : ℕ) → i < greatest_point_count → place_at rule i ≤ greatest_point_count
unfolding place_at
place_few rule i h = either_most (one_of (10 ∷ 11 ∷ 17 ∷ []) rule) _ _ greatest_point_count (omega arith) (omega arith)

-- what a run breaks, and where, are numbers of two digits
module _ (v : Version) (fig : Figure) (r : Run) (ch : Chosen) (ok : RunOk r) where
  breaks_at : (i : ℕ) → i < length (findings_for v fig r ch) → Breaks fig r ch (lines_for v r ch) (get_or (findings_for v fig r ch) i no_finding).rule (get_or (findings_for v fig r ch) i no_finding).place
  unfolding findings_for
  breaks_at i inside = (listed_exactly v fig r ch (lines_for v r ch) _ _).0 (record { index = i; inside = inside; same = (refl, refl) })

  finding_at_short : (i : ℕ) → i < length (findings_for v fig r ch) → length (finding_text (get_or (findings_for v fig r ch) i no_finding)) ≤ 12
  finding_at_short i inside =
      let b = breaks_at i inside in
      let few = places_few r ok (get_or (findings_for v fig r ch) i no_finding).rule in
      let place = place_few (get_or (findings_for v fig r ch) i no_finding).rule b.index (omega (arith, few, b.inside)) in
      finding_short _ (omega (arith, b.last)) (omega (arith, place, b.there))

  found_short : length (findings_text (listed (findings_for v fig r ch)).list (listed (findings_for v fig r ch)).count) ≤ 1176
  unfolding findings_text listed filled_to
  found_short =
      let fs = findings_for v fig r ch in
      let behind = replicate (most_findings - length fs) no_finding in
      let all = joined_short (λ i. finding_text (get_or (fs ++ behind) i no_finding)) (length fs) 12 (λ i inside. rw (get_or-append fs behind no_finding i inside) (finding_at_short i inside)) in
      omega (arith, all, at_most_for v fig r ch ok)

-- A run

standing_short : (accepted : Bool) → length (standing accepted) ≤ 10
unfolding standing spelled
standing_short accepted = either_short accepted _ _ 10 (omega arith) (omega arith)

pub run_short : (v : Version) (fig : Figure) (r : Run) (ch : Chosen) → RunOk r → length (run_text (worked v fig r ch)) ≤ 1693
unfolding run_text worked spelled
run_short v fig r ch ok =
    let number = decimal r.header.number in
    let stands = standing (worked v fig r ch).accepted in
    let sheet = sheet_text (worked v fig r ch).sheet in
    let found = findings_text (listed (findings_for v fig r ch)).list (listed (findings_for v fig r ch)).count in
    let one = length-append run_word number in
    let two = length-append (run_word ++ number) stands in
    let three = length-append (run_word ++ number ++ stands) sheet in
    let four = length-append (run_word ++ number ++ stands ++ sheet) found in
    let small = within_greatest least_run_number greatest_run_number _ ok.header.number in
    omega (arith, one, two, three, four, decimal_digits 2 r.header.number (omega (arith, small)), standing_short (worked v fig r ch).accepted, sheet_short (worked v fig r ch).sheet, found_short v fig r ch ok)
