-- The sides of the run's day as numbers (docs/RULES.md, A finding explained).
use Rattle.std.specs.Prelude.{ℕ}
use Rattle.dates.specs.declared.Side.{Side}
use Rattle.dates.specs.declared.Side.TheVariants.{Before, After}

-- on it or before it
abbrev pub before : ℕ
before = 1

-- and later
abbrev pub after : ℕ
after = 2

-- the number of a side
abbrev pub side_number : Side → ℕ
side_number Before = before
side_number After = after
