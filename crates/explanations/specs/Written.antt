-- An explanation written, as bytes or as text (docs/RULES.md, A finding explained): its head, its broken conditions, its certificate days.
use Rattle.std.specs.Prelude.{ℕ, Bool, List, [], ◌∷◌, ◌++◌}
use Rattle.readings.specs.Ranges.{meter, pitot, nozzle}
use Rattle.grounds.specs.Showing.{Condition, shown}
use Rattle.dates.specs.declared.Sides.{Sides}
use Rattle.dates.specs.declared.Days.{Days}
use Rattle.dates.specs.Side.{before, after}
use Rattle.explaining.specs.declared.Explanation.{Explanation}
use Rattle.forms.specs.Forms.{Form, head_in, condition_in, day_in}

-- conditions, one after another
unfoldable pub conditions_in : Form → ℕ → Bool → List Condition → List ℕ
conditions_in form rule round [] = []
conditions_in form rule round (c ∷ cs) = condition_in form rule round c ++ conditions_in form rule round cs

-- the certificate days of a kind: before, and then after
unfoldable pub sides_in : Form → ℕ → Sides → List ℕ
sides_in form kind s = day_in form kind before s.before ++ day_in form kind after s.after

-- those of the meter, of the pitot tube and of the nozzle
unfoldable pub days_in : Form → Days → List ℕ
days_in form d = sides_in form meter d.meter ++ sides_in form pitot d.pitot ++ sides_in form nozzle d.nozzle

-- An explanation
unfoldable pub written : Form → Explanation → List ℕ
written form e =
    head_in form e ++ conditions_in form e.finding.rule e.round (shown e.basis) ++ days_in form e.days
