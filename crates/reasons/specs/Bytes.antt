-- A condition and a certificate day as bytes (docs/RULES.md, A finding explained).
use Rattle.std.specs.Prelude.{ℕ, List, [], ◌∷◌, ◌++◌}
use Rattle.output.specs.Bytes.{le, signed_bits}
use Rattle.grounds.specs.declared.comparison.Way.{Way}
use Rattle.grounds.specs.declared.comparison.Way.TheVariants.{Below, Above, Same, Differs}
use Rattle.grounds.specs.Showing.{Condition}
use Rattle.dates.specs.declared.Day.{Day}
use Rattle.dates.specs.declared.Day.TheVariants.{Unused, On, NoneSoDated}

-- the number of a way
unfoldable pub way_number : Way → ℕ
way_number Below = 1
way_number Above = 2
way_number Same = 3
way_number Differs = 4

-- a condition, 34 bytes: which, way, left, right, remainder, its limit
unfoldable pub condition_bytes : Condition → List ℕ
condition_bytes c =
    (c.which ∷ way_number c.way ∷ [])
    ++ le 8 (signed_bits c.left) ++ le 8 (signed_bits c.right) ++ le 8 (signed_bits c.remainder) ++ le 8 (signed_bits c.limit)

-- a certificate day, 5 bytes: kind, side, found, day; nothing where none is used
unfoldable pub day_bytes : ℕ → ℕ → Day → List ℕ
day_bytes kind side Unused = []
day_bytes kind side (On day) = (kind ∷ side ∷ []) ++ (1 ∷ []) ++ le 2 day
day_bytes kind side NoneSoDated = (kind ∷ side ∷ []) ++ (0 ∷ []) ++ le 2 0
