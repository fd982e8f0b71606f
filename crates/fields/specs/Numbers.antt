-- Little-endian numbers at a place of a file; past its end there are zeros.
use Rattle.std.specs.Prelude.{ℕ, ◌+◌, ◌*◌, List, get_or, ℤ}
use Rattle.std.specs.Int.{w16}
use Rattle.std.proofs.Common.{to_z}

abbrev pub byte_at : List ℕ → ℕ → ℕ
byte_at s at = get_or s at 0

unfoldable pub u16_at : List ℕ → ℕ → ℕ
u16_at s at = byte_at s at + 256 * byte_at s (at + 1)

unfoldable pub u32_at : List ℕ → ℕ → ℕ
u32_at s at = u16_at s at + 65536 * u16_at s (at + 2)

-- two's complement
unfoldable pub i16_at : List ℕ → ℕ → ℤ
i16_at s at = to_z w16 (u16_at s at)
