-- Numbers as little-endian bytes, and records one after another.
use Rattle.std.specs.Prelude.{ℕ, zero, suc, ◌/◌, ◌%◌, ◌^◌, List, [], ◌∷◌, ◌++◌, ℤ}
use Rattle.std.specs.Int.{w64}
use Rattle.std.proofs.Common.{of_z}

-- a number in so many bytes, the lowest first
unfoldable pub le : ℕ → ℕ → List ℕ
le zero n = []
le (suc width) n = le width n ++ (n / 256 ^ width % 256 ∷ [])

-- the 64 bits of a signed number, two's complement
abbrev pub signed_bits : ℤ → ℕ
signed_bits z = of_z w64 z

-- the first n of some records, one after another
unfoldable pub joined : (ℕ → List ℕ) → ℕ → List ℕ
joined bytes zero = []
joined bytes (suc n) = joined bytes n ++ bytes n
