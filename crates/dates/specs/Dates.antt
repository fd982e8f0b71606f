-- The certificate days of docs/RULES.md, A finding explained: on which sides each rule uses certificates of a kind, and the nearest days there.
use Rattle.std.specs.Prelude.{Option, Some, None, ℕ, ◌+◌, true, false, cond, [], ◌∷◌}
use Rattle.readings.specs.declared.headers.Version.{Version}
use Rattle.readings.specs.declared.headers.Version.TheVariants.{One, Two}
use Rattle.readings.specs.Ranges.{meter, pitot, nozzle}
use Rattle.numbered.specs.Numbered.{one_of}
use Rattle.records.specs.declared.Certificate.{Certificate}
use Rattle.records.specs.declared.RunHeader.{RunHeader}
use Rattle.choosing.specs.Choosing.{chosen}
use Rattle.dates.specs.declared.Use.{Use}
use Rattle.dates.specs.declared.Use.TheVariants.{Neither, Before, Both}
use Rattle.dates.specs.declared.Day.{Day}
use Rattle.dates.specs.declared.Day.TheVariants.{Unused, On, NoneSoDated}
use Rattle.dates.specs.declared.Sides.{Sides}
use Rattle.dates.specs.declared.Days.{Days}

-- the meter's, for a line that is worked with Y: in version 1 the later factor counts too
unfoldable pub worked_use : Version → Use
worked_use One = Both
worked_use Two = Before

-- The meter's: 1, 4 and 5 both sides; 14, 15 and 16 by the version
unfoldable pub meter_use : Version → ℕ → Use
meter_use v rule = cond (one_of (1 ∷ 4 ∷ 5 ∷ []) rule) Both (cond (one_of (14 ∷ 15 ∷ 16 ∷ []) rule) (worked_use v) Neither)

-- The pitot tube's: 2 both sides; 14, 15 and 16 before
unfoldable pub pitot_use : ℕ → Use
pitot_use rule = cond (one_of (2 ∷ []) rule) Both (cond (one_of (14 ∷ 15 ∷ 16 ∷ []) rule) Before Neither)

-- The nozzle's: 3 both sides; 6, 15 and 16 before
unfoldable pub nozzle_use : ℕ → Use
nozzle_use rule = cond (one_of (3 ∷ []) rule) Both (cond (one_of (6 ∷ 15 ∷ 16 ∷ []) rule) Before Neither)

-- the day of what was found, or that none is so dated
unfoldable pub day_of : Option Certificate → Day
day_of None = NoneSoDated
day_of (Some c) = On c.day

-- the days of a kind, from what was found on or before the run's day and later
unfoldable pub sides_of : Use → Option Certificate → Option Certificate → Sides
sides_of Neither b a = record { before = Unused; after = Unused }
sides_of Before b a = record { before = day_of b; after = Unused }
sides_of Both b a = record { before = day_of b; after = day_of a }

-- The days that a rule uses, of a run among the first n certificates of a job of that version
unfoldable pub days_of : Version → (ℕ → Certificate) → ℕ → RunHeader → ℕ → Days
days_of v f n h rule =
    record {
      meter = sides_of (meter_use v rule) (chosen false meter h.meter h.day f n) (chosen true meter h.meter h.day f n);
      pitot = sides_of (pitot_use rule) (chosen false pitot h.pitot h.day f n) (chosen true pitot h.pitot h.day f n);
      nozzle = sides_of (nozzle_use rule) (chosen false nozzle h.nozzle h.day f n) (chosen true nozzle h.nozzle h.day f n);
    }

-- how many entries a side has: one where it is used
unfoldable pub entries_on : Day → ℕ
entries_on Unused = 0
entries_on (On day) = 1
entries_on NoneSoDated = 1

-- those of a kind
unfoldable pub entries_of : Sides → ℕ
entries_of s = entries_on s.before + entries_on s.after

-- those of all kinds
unfoldable pub entries : Days → ℕ
entries d = entries_of d.meter + entries_of d.pitot + entries_of d.nozzle
