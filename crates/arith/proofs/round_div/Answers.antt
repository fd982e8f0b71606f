-- `round_div` is the rounded one of the division's three numbers.
use mathlib.Core.Path.{ap}
use Rattle.arith.specs.Rounding.{division}
use Rattle.arith.proofs.round_div.Goals as goal

pub returns : goal.returns
unfolding division
returns c = ap (λ x. x.rounded) c.divide.ensures
