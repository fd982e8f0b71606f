-- `u32_at` is `u32_at`: two pairs of bytes.
use native.Mathlib.Omega.{arith}
use native.Mathlib.Nat.{add_assoc}
use Rattle.fields.specs.Numbers.{u16_at, u32_at}
use Rattle.fields.proofs.numbers.u32_at.Goals as goal

pub returns : goal.returns
unfolding u32_at u16_at
returns c = rw (add_assoc c.args.at 2 1) (omega (arith, c.from_le_bytes.ensures))
