-- The mark, and then the version.
use Rattle.fields.specs.Trouble.{checks}
use Rattle.figures.specs.Figures.{opening_rows}
use Rattle.figures.proofs.opening_trouble.Goals as goal

pub returns : goal.returns
unfolding opening_rows checks
returns c = rw (c.met.ensures, c.met-mark.ensures, c.marked.ensures, c.check.ensures, c.number.ensures)
