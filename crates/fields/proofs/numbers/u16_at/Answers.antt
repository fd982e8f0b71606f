-- `u16_at` is `u16_at`: two bytes.
use native.Mathlib.Omega.{arith}
use Rattle.fields.specs.Numbers.{u16_at}
use Rattle.fields.proofs.numbers.u16_at.Goals as goal

pub returns : goal.returns
unfolding u16_at
returns c = omega (arith, c.from_le_bytes.ensures)
