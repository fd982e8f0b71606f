-- No trouble met before the row, and the number is the reason's.
use Rattle.fields.specs.Trouble.{first}
use Rattle.fields.proofs.trouble.row.Goals as goal

pub returns : goal.returns
unfolding first
returns c = rw (← c.number.ensures) c.unless.ensures
