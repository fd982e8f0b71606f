-- The loop keeps the last step that the distance reaches of those tried.
use mathlib.Core.Path.{◌≡◌}
use Rattle.diameters.specs.Diameters.{diameter}
use Rattle.steps.specs.Steps.{reaches, last_reached}
use Rattle.steps.proofs.taken.Given as goal

abbrev pub invariant-loop-later : goal.invariant-loop-later
invariant-loop-later l =
    l.step ≡ last_reached (reaches (diameter l.site) l.distance) l.later-items l.later-index
