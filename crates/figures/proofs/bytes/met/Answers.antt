-- The trouble met so far; the file is long enough; and then the field is good.
use mathlib.Core.Path.{refl}
use Rattle.fields.specs.Trouble.{checks, first}
use Rattle.fields.proofs.Refusals.{adds}
use Rattle.figures.proofs.bytes.met.Goals as goal

pub returns : goal.returns
unfolding checks first
returns c =
    let long = adds _ _ c.and.ensures refl c.row.ensures in
    adds _ _ c.and-2.ensures long c.row-2.ensures
