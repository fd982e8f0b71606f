-- Rule 17 in the words of docs/RULES.md, The findings: by the difference of two final weights, and by 1 percent of the net.
use Rattle.std.specs.Prelude.{ℕ, ◌+◌, ◌*◌, ◌<◌, ◌≡◌, ◌↔◌, pos, ◌<ℤ◌}
use Rattle.readings.specs.declared.headers.Version.{Version}
use Rattle.records.specs.declared.Run.{Run}
use Rattle.records.specs.Records.{weighing_of}
use Rattle.choosing.specs.declared.Chosen.{Chosen}
use Rattle.conditions.specs.Conditions.{difference, net}
use Rattle.steps.specs.declared.Figure.{Figure}
use Rattle.findings.specs.Listing.{lines_for, Breaks}

-- a run, worked with its chosen certificates in a job of that version, breaks rule 17 at a place
abbrev pub BreaksWeighing : Version → Figure → Run → Chosen → ℕ → Type 0
BreaksWeighing v fig r ch place = Breaks fig r ch (lines_for v r ch) 17 place

-- the place is that of a weighing, counted from 1, whose difference is above 5 units, and 100 times it above the net
pub record Unsteady (r : Run) (place : ℕ) : Type 0 where
  pub index : ℕ
  pub inside : index < r.header.counts.weighings
  pub there : place ≡ index + 1
  pub units : 5 < difference (weighing_of r index)
  pub percent : net (weighing_of r index) <ℤ pos (100 * difference (weighing_of r index))

-- a run breaks rule 17 exactly at the places of such weighings, and at that of a weighing whose net is negative exactly when its difference is above 5 units
pub record JudgedByNet (v : Version) (fig : Figure) (r : Run) (ch : Chosen) : Type 0 where
  pub both : (place : ℕ) → BreaksWeighing v fig r ch place ↔ Unsteady r place
  pub negative : (i : ℕ) → i < r.header.counts.weighings → net (weighing_of r i) <ℤ pos 0 → BreaksWeighing v fig r ch (i + 1) ↔ (5 < difference (weighing_of r i))
