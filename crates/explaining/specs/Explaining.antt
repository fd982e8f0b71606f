-- A finding explained (docs/RULES.md): what its rule goes by at its place, from the definitions that the list of findings comes from; and the
-- certificate days that it uses.
use Rattle.std.specs.Prelude.{Option, Some, None, ℕ, cond, List}
use Rattle.readings.specs.declared.headers.Version.{Version}
use Rattle.records.specs.declared.Certificate.{Certificate}
use Rattle.records.specs.declared.Run.{Run}
use Rattle.choosing.specs.declared.Chosen.{Chosen}
use Rattle.choosing.specs.Choosing.{chosen_for}
use Rattle.diameters.specs.Diameters.{is_round}
use Rattle.steps.specs.declared.Figure.{Figure}
use Rattle.grounds.specs.declared.Ground.{Ground}
use Rattle.grounds.specs.Grounds.{broken}
use Rattle.classes.specs.Classes.{class_number, class_of}
use Rattle.findings.specs.Listing.{lines_for}
use Rattle.findings.specs.Seeking.{ground_at}
use Rattle.dates.specs.Dates.{days_of}
use Rattle.heads.specs.Values.{certificate_of}
use Rattle.opening.specs.Opening.{version_of, certificate_count_of}
use Rattle.job.specs.Places.{run_of}
use Rattle.explaining.specs.declared.Explanation.{Explanation}

-- a run's ground of a rule at a place, with the certificates chosen for it
unfoldable pub ground_for : Version → Figure → Run → Chosen → ℕ → ℕ → Ground
ground_for v fig r ch rule place = ground_at fig r ch (lines_for v r ch) rule place

-- why a run has a finding by that ground, with the first n certificates, in a job of that version
abbrev pub explanation_by : Ground → Version → (ℕ → Certificate) → ℕ → Run → ℕ → ℕ → Explanation
explanation_by basis v f n r rule place =
    record {
      finding = record { rule = rule; class = class_number (class_of v rule); place = place };
      round = is_round r.header.site;
      basis = basis;
      days = days_of v f n r.header rule;
    }

-- Why a run has a finding, by that figure
unfoldable pub explanation : Version → Figure → (ℕ → Certificate) → ℕ → Run → ℕ → ℕ → Explanation
explanation v fig f n r rule place =
    explanation_by (ground_for v fig r (chosen_for f n r.header) rule place) v f n r rule place

-- or that it does not have it: the rule is not broken there
unfoldable pub explained : Version → Figure → (ℕ → Certificate) → ℕ → Run → ℕ → ℕ → Option Explanation
explained v fig f n r rule place =
    cond (broken (ground_for v fig r (chosen_for f n r.header) rule place)) (Some (explanation v fig f n r rule place)) None

-- Run k of a job, by that figure
unfoldable pub explained_run : Figure → List ℕ → ℕ → ℕ → ℕ → Option Explanation
explained_run fig s k rule place = explained (version_of s) fig (certificate_of s) (certificate_count_of s) (run_of s k) rule place
