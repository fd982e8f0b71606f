-- Distances as bytes, one after another.
use Prim.Native.Nat.{ℕ}
use mathlib.Core.Path.{◌≡◌}
use mathlib.Core.List.{List}
use lib.ListN.{length, get_or}
use Rattle.output.specs.Bytes.{le}
use Rattle.output.proofs.Bytes.{length_le}
use Rattle.layouts.specs.Outcomes.{distance_size}

-- the bytes of the distance at an index
abbrev pub distance_at : List ℕ → ℕ → List ℕ
distance_at ds i = le distance_size (get_or ds i 0)

pub distance_size_lem : (ds : List ℕ) (i : ℕ) → length (distance_at ds i) ≡ distance_size
distance_size_lem ds i = length_le distance_size (get_or ds i 0)
