-- Before, and then after.
use Rattle.characters.proofs.Texts.{wrote_more}
use Rattle.explanations.specs.Written.{sides_in}
use Rattle.explanations.proofs.put_sides.Goals as goal

pub returns : goal.returns
unfolding sides_in
returns g c = wrote_more c.put_day.ensures c.put_day-2.ensures c.requires
