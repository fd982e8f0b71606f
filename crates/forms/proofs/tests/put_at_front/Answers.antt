-- Any day has at most 49 characters.
use native.Mathlib.Omega.{arith}
use Rattle.dates.specs.Side.{side_number}
use Rattle.forms.specs.Forms.{nearest}
use Rattle.forms.proofs.Lengths.{day_short}
use Rattle.forms.proofs.tests.put_at_front.Goals as goal

pub put_day-requires : goal.put_day-requires
put_day-requires g c =
    record { fits = omega (arith, c.requires, day_short g.F.Form.form 1 (side_number c.args.side) (nearest c.args.day)) }

pub returns : goal.returns
returns g c = omega (arith, c.requires, c.put_day.ensures.after, c.put_day.ensures.kept, day_short g.F.Form.form 1 (side_number c.args.side) (nearest c.args.day))
