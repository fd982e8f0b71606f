-- Of what places each rule of docs/RULES.md, The findings, speaks, and the class of its findings.
use Rattle.std.specs.Prelude.{ℕ, ◌+◌, cond, List, [], ◌∷◌, eqb}
use Rattle.readings.specs.declared.headers.Version.{Version}
use Rattle.readings.specs.declared.headers.Version.TheVariants.{One, Two}
use Rattle.numbered.specs.Numbered.{one_of}
use Rattle.records.specs.declared.Counts.{Counts}
use Rattle.classes.specs.declared.Class.{Class}
use Rattle.classes.specs.declared.Class.TheVariants.{Fault, Note}

-- of how many places a rule speaks: points, segments or weighings, and otherwise the whole run
unfoldable pub places_of : Counts → ℕ → ℕ
places_of n rule =
    cond (eqb rule 10) n.points (cond (eqb rule 11) n.segments (cond (eqb rule 17) n.weighings 1))

-- the place of a finding: 1 upward, and 0 when the rule is about the whole run
unfoldable pub place_at : ℕ → ℕ → ℕ
place_at rule i = cond (one_of (10 ∷ 11 ∷ 17 ∷ []) rule) (i + 1) 0

-- the number of a fault
abbrev pub fault : ℕ
fault = 1

-- the number of a note
abbrev pub note : ℕ
note = 2

-- the number of a class
abbrev pub class_number : Class → ℕ
class_number Fault = fault
class_number Note = note

-- the notes of a job, by its version: 5 and 11, and in version 2 no longer 5
abbrev pub notes : Version → List ℕ
notes One = 5 ∷ 11 ∷ []
notes Two = 11 ∷ []

-- The class of a finding: notes, and the rest are faults
unfoldable pub class_of : Version → ℕ → Class
class_of v rule = cond (one_of (notes v) rule) Note Fault
