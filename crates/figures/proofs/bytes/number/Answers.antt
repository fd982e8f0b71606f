-- `number` is `u16_at`: two bytes.
use native.Mathlib.Omega.{arith}
use Rattle.fields.specs.Numbers.{u16_at}
use Rattle.figures.proofs.bytes.number.Goals as goal

pub returns : goal.returns
unfolding u16_at
returns c = omega (arith, c.from_le_bytes.ensures)
