-- A number of points is a grid's exactly when it is the next grid's.
use mathlib.Core.Path.{◌∙◌, ap}
use lib.Dec.{eqb}
use Rattle.grids.proofs.Grids.{grid_exactly}
use Rattle.grids.proofs.GridPoints.check.Goals as goal

pub returns : goal.returns
returns c = ap (λ m. eqb c.args.value m) c.next.ensures ∙ grid_exactly c.args.value
