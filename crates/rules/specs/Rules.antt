-- The table of the rules of docs/RULES.md, The findings: what each goes by.
use Rattle.std.specs.Prelude.{ℕ, ◌≤◌, List, [], ◌∷◌, Some}
use Rattle.numbered.specs.Numbered.{Numbered, row_of}
use Rattle.readings.specs.Ranges.{greatest_above_first, greatest_total_seconds}
use Rattle.grounds.specs.declared.comparison.Way.TheVariants.{Below, Above, Same}
use Rattle.grounds.specs.declared.Ground.{Ground}
use Rattle.grounds.specs.declared.Ground.TheVariants.{Silent}
use Rattle.conditions.specs.declared.Part.{Part}
use Rattle.site.specs.Site.{narrow, disturbed, wrong_points}
use Rattle.conditions.specs.Conditions.{missing, moved, uneven, short, leaking, line_against, ratio_against, least_isokinetic, greatest_isokinetic, unsteady, lacking, negative}
use Rattle.rules.specs.declared.Beside.{Beside}

infixl 50 ◌goes_by◌
-- a rule: its number, and what it goes by
abbrev pub ◌goes_by◌ : ℕ → Ground → Numbered Ground
number goes_by g = record { number = number; row = g }

-- The table: what each rule goes by, of its part and of what stands beside it; the number 13 is given to none
unfoldable pub table : Part → Beside → List (Numbered Ground)
table part b =
    (1 goes_by missing b.chosen.before)
    ∷ (2 goes_by missing b.chosen.pitot)
    ∷ (3 goes_by missing b.chosen.nozzle)
    ∷ (4 goes_by missing b.chosen.after)
    ∷ (5 goes_by moved b.chosen.before b.chosen.after)
    ∷ (6 goes_by uneven b.chosen.nozzle)
    ∷ (7 goes_by narrow b.site)
    ∷ (8 goes_by disturbed b.site)
    ∷ (9 goes_by wrong_points b.site.shape b.least b.counts.points)
    ∷ (10 goes_by short part)
    ∷ (11 goes_by leaking b.lines.metering.time b.lines.metering.volume part)
    ∷ (12 goes_by line_against (Some b.lines.metering.corrected) Same 0)
    ∷ (14 goes_by line_against b.lines.stack.velocity Same 0)
    ∷ (15 goes_by ratio_against b.lines.sampling.isokinetic Below least_isokinetic)
    ∷ (16 goes_by ratio_against b.lines.sampling.isokinetic Above greatest_isokinetic)
    ∷ (17 goes_by unsteady part)
    ∷ (18 goes_by lacking b.filters)
    ∷ (19 goes_by lacking b.rinses)
    ∷ (20 goes_by negative b.lines.sampling.catch)
    ∷ []

-- the highest number of a rule
abbrev pub last_rule : ℕ
last_rule = 20

-- what a rule goes by; a number without a rule goes by nothing
unfoldable pub ground_of : Part → Beside → ℕ → Ground
ground_of part b rule = row_of Silent (table part b) rule

-- beside lines that are small enough to compare
pub record Judgeable (b : Beside) : Type 0 where
  pub time : b.lines.metering.time ≤ greatest_total_seconds
  pub volume : b.lines.metering.volume ≤ greatest_above_first
