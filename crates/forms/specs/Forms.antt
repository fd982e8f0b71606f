-- The parts of an explanation in a form, as bytes or as text (docs/RULES.md, A finding explained).
use Rattle.std.specs.Prelude.{Option, Some, None, ℕ, Bool, List, [], ◌∷◌, length}
use Rattle.grounds.specs.Showing.{Condition, shown}
use Rattle.dates.specs.declared.Day.{Day}
use Rattle.dates.specs.declared.Day.TheVariants.{On, NoneSoDated}
use Rattle.dates.specs.Dates.{entries}
use Rattle.text.specs.Runs.{finding_text}
use Rattle.reasons.specs.Bytes.{condition_bytes, day_bytes}
use Rattle.reasons.specs.Text.{condition_text, day_text}
use Rattle.explaining.specs.declared.Explanation.{Explanation}

-- how an explanation is handed over
pub data Form : Type 0 where
  Bytes : Form
  Text : Form

-- the head: how many conditions and how many certificate days follow, or the finding's line
unfoldable pub head_in : Form → Explanation → List ℕ
head_in Bytes e = length (shown e.basis) ∷ entries e.days ∷ []
head_in Text e = finding_text e.finding

-- a condition
unfoldable pub condition_in : Form → ℕ → Bool → Condition → List ℕ
condition_in Bytes rule round c = condition_bytes c
condition_in Text rule round c = condition_text rule round c

-- a certificate day
unfoldable pub day_in : Form → ℕ → ℕ → Day → List ℕ
day_in Bytes kind side day = day_bytes kind side day
day_in Text kind side day = day_text kind side day

-- a day that is used: that of the nearest certificate, or that none is so dated
abbrev pub nearest : Option ℕ → Day
nearest None = NoneSoDated
nearest (Some day) = On day
