-- A meter that moved (docs/RULES.md, Choosing certificates): what each version makes of it, and why demand 3 compares two jobs of one version.
use Rattle.std.specs.Prelude.{Some, None, ℕ, ◌*◌, ◌<◌, min, ◌≡◌, true, List, [], ◌∷◌}
use Rattle.readings.specs.declared.headers.Version.TheVariants.{One, Two}
use Rattle.records.specs.declared.Certificate.{Certificate}
use Rattle.records.specs.declared.Run.{Run}
use Rattle.lines.specs.Starred.{worked_lines}
use Rattle.choosing.specs.declared.Chosen.{Chosen}
use Rattle.grounds.specs.Comparing.{apart}
use Rattle.factors.specs.Factor.{factor_of}
use Rattle.classes.specs.declared.Class.TheVariants.{Fault, Note}
use Rattle.classes.specs.Classes.{class_of}
use Rattle.steps.specs.declared.Figure.{Figure}
use Rattle.steps.specs.Steps.{no_figure}
use Rattle.findings.specs.Listing.{accepted, lines_for, findings_for, Breaks}
use Rattle.opening.specs.Opening.{version_of}
use Rattle.job.specs.Places.{run_of}
use Rattle.job.specs.Worked.{moved_job}
use Rattle.reduction.specs.Reducing.{chosen_in}
use Rattle.demands.specs.FigureFile.{no_file}
use Rattle.demands.specs.Demands.{SameRecords}
use Rattle.demands.specs.Starred.{PrintedAs}

-- twenty times the difference of two factors is above the first
abbrev pub Moved : ℕ → ℕ → Type 0
Moved before after = before < 20 * apart before after

-- In version 1 a finding of rule 5 is a note, and Y is the lower factor where it moved, and otherwise the before factor
pub record LowerAndNote (ch : Chosen) : Type 0 where
  pub class : class_of One 5 ≡ Note
  pub moved :
      (b a : Certificate)
      → ch.before ≡ Some b
      → ch.after ≡ Some a
      → Moved b.first a.first
      → factor_of One ch ≡ Some (min b.first a.first)
  pub stayed :
      (b a : Certificate)
      → ch.before ≡ Some b
      → ch.after ≡ Some a
      → (Moved b.first a.first → ⊥)
      → factor_of One ch ≡ Some b.first
  pub alone : (b : Certificate) → ch.before ≡ Some b → ch.after ≡ None → factor_of One ch ≡ Some b.first
  pub missing : ch.before ≡ None → factor_of One ch ≡ None

-- In version 2 a finding of rule 5 is a fault, so that a run which breaks it is void, and Y is always the before factor
pub record BeforeAndVoid (fig : Figure) (r : Run) (ch : Chosen) : Type 0 where
  pub class : class_of Two 5 ≡ Fault
  pub factor : (b : Certificate) → ch.before ≡ Some b → factor_of Two ch ≡ Some b.first
  pub missing : ch.before ≡ None → factor_of Two ch ≡ None
  pub void : Breaks fig r ch (lines_for Two r ch) 5 0 → accepted (findings_for Two fig r ch) ≡ true → ⊥

-- Two jobs of whatever versions hold the same records, and the run does not break rule 5, which no figure changes
pub record SameUnmoved (s t : List ℕ) (run : ℕ) : Type 0 where
  pub records : SameRecords s t run
  pub unmoved :
      Breaks no_figure (run_of s records.index) (chosen_in s records.index) (lines_for (version_of s) (run_of s records.index) (chosen_in s records.index)) 5 0
      → ⊥

-- the worked job's lines with the lower factor, 9,499
abbrev pub lower_lines : List ℕ
lower_lines =
    3600 ∷ 40000 ∷ 39400 ∷ 301471 ∷ 5400 ∷ 36857 ∷ 4707 ∷ 11325 ∷ 30160 ∷ 28783
    ∷ 299500 ∷ 6600 ∷ 70711 ∷ 8750 ∷ 44431 ∷ 34089 ∷ 86556 ∷ 9525 ∷ 1056 ∷ 4421 ∷ []

-- in version 1: accepted, with notes of rules 5 and 11 and the lower factor's lines
abbrev pub Kept : Type 0
Kept = PrintedAs no_file (moved_job One) 2 65538 lower_lines (5 ∷ 2 ∷ 0 ∷ 0 ∷ 11 ∷ 2 ∷ 1 ∷ 0 ∷ [])

-- in version 2: void, with a fault of rule 5, the note of rule 11 and the before factor's lines, those of the worked job
abbrev pub Voided : Type 0
Voided = PrintedAs no_file (moved_job Two) 2 2 worked_lines.expected (5 ∷ 1 ∷ 0 ∷ 0 ∷ 11 ∷ 2 ∷ 1 ∷ 0 ∷ [])

-- The counter-example: the same records in both versions, another Y, another answer
pub record AnotherY : Type 0 where
  pub first : version_of (moved_job One) ≡ One
  pub second : version_of (moved_job Two) ≡ Two
  pub same : SameRecords (moved_job One) (moved_job Two) 7
  pub lower : factor_of (version_of (moved_job One)) (chosen_in (moved_job One) 0) ≡ Some 9499
  pub before : factor_of (version_of (moved_job Two)) (chosen_in (moved_job Two) 0) ≡ Some 10000
  pub kept : Kept
  pub voided : Voided
