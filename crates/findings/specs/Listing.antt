-- The list of a run's findings (docs/RULES.md, The findings): every rule at each of its places, in order, kept where it is broken.
use Rattle.std.specs.Prelude.{ℕ, zero, suc, ◌+◌, ◌≤◌, ◌<◌, ◌≡◌, Bool, true, cond, not, ◌&&◌, List, [], ◌∷◌, ◌++◌, eqb, length, get_or, Option}
use Rattle.readings.specs.declared.headers.Version.{Version}
use Rattle.readings.specs.Ranges.{filter_kind, rinse_kind}
use Rattle.arrays.specs.Arrays.{filled_to}
use Rattle.records.specs.declared.Weighing.{Weighing}
use Rattle.records.specs.declared.Run.{Run}
use Rattle.records.specs.Records.{no_weighing, point_of, segment_of, weighing_of, sum_to}
use Rattle.records.specs.InRange.{RunOk}
use Rattle.values.specs.declared.Diameters.{Diameters}
use Rattle.lines.specs.declared.Lines.{Lines}
use Rattle.lines.specs.Sheet.{lines}
use Rattle.choosing.specs.declared.Chosen.{Chosen}
use Rattle.factors.specs.Factor.{factor_of, coefficient_of, diameters_of}
use Rattle.conditions.specs.declared.Part.{Part}
use Rattle.conditions.specs.declared.Part.TheVariants.{Whole, OnePoint, OneSegment, OneWeighing}
use Rattle.rules.specs.declared.Beside.{Beside}
use Rattle.grounds.specs.Grounds.{broken}
use Rattle.steps.specs.declared.Figure.{Figure}
use Rattle.site.specs.Site.{minimum_points}
use Rattle.classes.specs.Classes.{places_of, place_at, fault, class_number, class_of}
use Rattle.rules.specs.Rules.{last_rule, ground_of}
use Rattle.findings.specs.declared.Finding.{Finding}
use Rattle.findings.specs.declared.Findings.{Findings}

-- what a rule looks at, at its place i, counted from 0: 10 a point, 11 a segment, 17 a weighing, and the others the whole run
unfoldable pub part_of : Run → ℕ → ℕ → Part
part_of r rule i =
    cond (eqb rule 10) (OnePoint (point_of r i))
    (cond (eqb rule 11) (OneSegment (segment_of r i)) (cond (eqb rule 17) (OneWeighing (weighing_of r i)) Whole))

-- one where a weighing is of that kind, and otherwise nothing
abbrev pub one_of_kind : ℕ → Weighing → ℕ
one_of_kind kind w = cond (eqb w.kind kind) 1 0

-- how many of the first n weighings are of that kind
unfoldable pub of_kind : ℕ → List Weighing → ℕ → ℕ
of_kind kind weighings n = sum_to (λ i. one_of_kind kind (get_or weighings i no_weighing)) n

-- what the rules may see of a run beside their part, with the least number of points by that figure
unfoldable pub beside_of : Figure → Run → Chosen → Lines → Beside
beside_of fig r ch l =
    record {
      chosen = ch;
      lines = l;
      site = r.header.site;
      counts = r.header.counts;
      filters = of_kind filter_kind r.weighings r.header.counts.weighings;
      rinses = of_kind rinse_kind r.weighings r.header.counts.weighings;
      least = minimum_points fig r.header.site;
    }

-- a rule is broken at its place i
unfoldable pub broken_at : Figure → Run → Chosen → Lines → ℕ → ℕ → Bool
broken_at fig r ch l rule i = broken (ground_of (part_of r rule i) (beside_of fig r ch l) rule)

-- the finding of a rule at its place i, in a job of that version
unfoldable pub finding_at : Version → ℕ → ℕ → Finding
finding_at v rule i = record { rule = rule; class = class_number (class_of v rule); place = place_at rule i }

-- a rule's findings at its first n places, by place
unfoldable pub rule_findings : Version → (ℕ → Bool) → ℕ → ℕ → List Finding
rule_findings v is_broken rule zero = []
rule_findings v is_broken rule (suc i) = rule_findings v is_broken rule i ++ cond (is_broken i) (finding_at v rule i ∷ []) []

-- the findings of rules 1 to k, by rule and then by place
unfoldable pub findings_to : Version → (ℕ → ℕ → Bool) → (ℕ → ℕ) → ℕ → List Finding
findings_to v is_broken places zero = []
findings_to v is_broken places (suc k) =
    findings_to v is_broken places k ++ rule_findings v (is_broken (k + 1)) (k + 1) (places (k + 1))

-- The findings of a run of a job of that version, judged by that figure
unfoldable pub findings : Version → Figure → Run → Chosen → Lines → List Finding
findings v fig r ch l = findings_to v (broken_at fig r ch l) (places_of r.header.counts) last_rule

-- no finding is a fault
unfoldable pub accepted : List Finding → Bool
accepted [] = true
accepted (f ∷ fs) = not (eqb f.class fault) && accepted fs

-- the most findings that a run can have
abbrev pub most_findings : ℕ
most_findings = 98

-- what stands behind the last finding
abbrev pub no_finding : Finding
no_finding = record { rule = 0; class = 0; place = 0 }

-- a list of findings as it is handed over: how many, and zeros behind them
unfoldable pub listed : List Finding → Findings
listed fs = record { count = length fs; list = filled_to most_findings no_finding fs }

-- the lines of a run with its chosen certificates, in a job of that version
unfoldable pub lines_for : Version → Run → Chosen → Lines
lines_for v r ch = lines r (factor_of v ch) (coefficient_of ch) (diameters_of ch)

-- the findings that those lines give by that figure
unfoldable pub findings_for : Version → Figure → Run → Chosen → List Finding
findings_for v fig r ch = findings v fig r ch (lines_for v r ch)

-- a run in range, with lines of its own, whatever certificates gave the values that they are worked with
pub record Worked (r : Run) (l : Lines) : Type 0 where
  pub ok : RunOk r
  pub y : Option ℕ
  pub cp : Option ℕ
  pub nozzle : Option Diameters
  pub is : l ≡ lines r y cp nozzle

-- What the list is promised to be, in the words of docs/RULES.md

-- a run, judged by that figure, breaks a rule at a place: from rule 1 to the last, at one of its places
pub record Breaks (fig : Figure) (r : Run) (ch : Chosen) (l : Lines) (rule place : ℕ) : Type 0 where
  pub first : 1 ≤ rule
  pub last : rule ≤ last_rule
  pub index : ℕ
  pub inside : index < places_of r.header.counts rule
  pub there : place ≡ place_at rule index
  pub broken : broken_at fig r ch l rule index ≡ true

-- a list holds a finding of that rule at that place
pub record HasFinding (fs : List Finding) (rule place : ℕ) : Type 0 where
  pub index : ℕ
  pub inside : index < length fs
  pub same : ((get_or fs index no_finding).rule ≡ rule) × ((get_or fs index no_finding).place ≡ place)
