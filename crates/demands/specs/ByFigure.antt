-- What a figure changes (docs/RULES.md, A figure): rule 9, at a site that is not undisturbed, and nothing else. And why demand 3 compares two
-- jobs of one figure.
use Rattle.std.specs.Prelude.{ℕ, ◌≡◌, true, List, [], ◌∷◌, ◌++◌, ◌↔◌}
use Rattle.readings.specs.declared.headers.Version.{Version}
use Rattle.records.specs.declared.Run.{Run}
use Rattle.lines.specs.Starred.{worked_lines}
use Rattle.choosing.specs.declared.Chosen.{Chosen}
use Rattle.steps.specs.declared.Figure.{Figure}
use Rattle.site.specs.Site.{undisturbed}
use Rattle.findings.specs.Listing.{lines_for, Breaks}
use Rattle.job.specs.Worked.{near_job}
use Rattle.reduction.specs.Reducing.{worked}
use Rattle.demands.specs.FigureFile.{Lent, no_file, file}
use Rattle.demands.specs.Starred.{PrintedAs}

-- a run judged by two figures, or by one and without: the same sheet, the same rules broken but for rule 9, and at an undisturbed site all the same
pub record OnlyNine (v : Version) (f g : Figure) (r : Run) (ch : Chosen) : Type 0 where
  pub sheet : (worked v f r ch).sheet ≡ (worked v g r ch).sheet
  pub others :
      (rule place : ℕ)
      → (rule ≡ 9 → ⊥)
      → Breaks f r ch (lines_for v r ch) rule place ↔ Breaks g r ch (lines_for v r ch) rule place
  pub undisturbed : undisturbed r.header.site ≡ true → worked v f r ch ≡ worked v g r ch

-- a list of one step, from any distance on, that asks for n points of either shape
abbrev pub one_step : ℕ → List ℕ
one_step n = 1 ∷ 0 ∷ 0 ∷ n ∷ n ∷ []

-- "FIG", version 1, and such a list for either distance
abbrev pub asks_for : ℕ → List ℕ
asks_for n = (70 ∷ 73 ∷ 71 ∷ 1 ∷ 0 ∷ []) ++ one_step n ++ one_step n

-- with room for two findings, the worked job's lines and its note, and behind it what was there: accepted
abbrev pub Passes : Lent → List ℕ → Type 0
Passes l job = PrintedAs l job 2 65537 worked_lines.expected (11 ∷ 2 ∷ 1 ∷ 0 ∷ 0 ∷ 0 ∷ 0 ∷ 0 ∷ [])

-- the same lines, and a fault of rule 9 before the note: void
abbrev pub FailsNine : Lent → List ℕ → Type 0
FailsNine l job = PrintedAs l job 2 2 worked_lines.expected (9 ∷ 1 ∷ 0 ∷ 0 ∷ 11 ∷ 2 ∷ 1 ∷ 0 ∷ [])

-- the worked job with its last disturbance nearer than eight diameters: its 8 points pass by a figure and fail without, 24 the other way round
pub record EitherWay : Type 0 where
  pub fewer_without : FailsNine no_file (near_job 8 450)
  pub fewer_by : Passes (file (asks_for 8)) (near_job 8 450)
  pub more_without : Passes no_file (near_job 24 150)
  pub more_by : FailsNine (file (asks_for 36)) (near_job 24 150)

-- two calls that are given whatever figures
abbrev pub AnyFigures : Lent → Lent → Type 0
AnyFigures l m = Unit {0}
