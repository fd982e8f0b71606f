-- The steps of a figure (docs/RULES.md, A figure): which of them a distance takes, and how many points they ask for.
use Rattle.std.specs.Prelude.{ℕ, zero, suc, ◌*◌, max, Bool, cond, not, ◌&&◌, List, leb, eqb, get_or, replicate}
use Rattle.readings.specs.Ranges.{greatest_step_count}
use Rattle.records.specs.declared.Site.{Site}
use Rattle.diameters.specs.declared.Length.{Length}
use Rattle.diameters.specs.Diameters.{is_round, diameter}
use Rattle.steps.specs.declared.Step.{Step}
use Rattle.steps.specs.declared.Figure.{Figure}

-- no step: a place without points, as behind the last step of a list
abbrev pub no_step : Step
no_step = record { least = 0; round = 0; rectangular = 0 }

-- a place with points holds a step
abbrev pub is_step : Step → Bool
is_step step = not (eqb step.round 0)

-- no figure: none of the places of either list holds a step
unfoldable pub no_figure : Figure
no_figure = record { last = replicate greatest_step_count no_step; next = replicate greatest_step_count no_step }

-- a list's step by index from 0
abbrev pub step_of : List Step → ℕ → Step
step_of l i = get_or l i no_step

-- there is a figure: its first list begins with a step
abbrev pub is_figure : Figure → Bool
is_figure f = is_step (step_of f.last 0)

-- a distance reaches a step, which is in hundredths of a diameter
unfoldable pub reaches : Length → ℕ → Step → Bool
reaches d distance step = is_step step && leb (step.least * d.over) (100 * (distance * d.under))

-- of the first n steps the last that is reached, or the list's first if none is
unfoldable pub last_reached : (Step → Bool) → List Step → ℕ → Step
last_reached is_reached l zero = step_of l 0
last_reached is_reached l (suc i) = cond (is_reached (step_of l i)) (step_of l i) (last_reached is_reached l i)

-- the step that a distance takes
abbrev pub taken : Length → ℕ → List Step → Step
taken d distance l = last_reached (reaches d distance) l greatest_step_count

-- the points that a step asks for, by the site's shape
abbrev pub points_for : Site → Step → ℕ
points_for s step = cond (is_round s) step.round step.rectangular

-- The points that a figure asks for at a site: the higher of the two numbers
unfoldable pub asked : Figure → Site → ℕ
asked f s = max (points_for s (taken (diameter s) s.last f.last)) (points_for s (taken (diameter s) s.next f.next))
