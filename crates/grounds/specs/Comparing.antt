-- When a comparison of whole numbers holds.
use Rattle.std.specs.Prelude.{ℕ, ◌+◌, ◌-◌, Bool, cond, not, ltb, eqb}
use Rattle.grounds.specs.declared.comparison.Way.{Way}
use Rattle.grounds.specs.declared.comparison.Way.TheVariants.{Below, Above, Same, Differs}
use Rattle.grounds.specs.declared.comparison.Comparison.{Comparison}
use Rattle.grounds.specs.declared.comparison.ExactComparison.{ExactComparison}

-- a stands to b this way
abbrev pub stands_to : Way → ℕ → ℕ → Bool
stands_to Below a b = ltb a b
stands_to Above a b = ltb b a
stands_to Same a b = eqb a b
stands_to Differs a b = not (eqb a b)

-- the left number stands to the right one as the comparison says
unfoldable pub holds : Comparison → Bool
holds c = stands_to c.way c.left c.right

-- the comparison of a with b
abbrev pub compare : ℕ → Way → ℕ → Comparison
compare a way b = record { left = a; way = way; right = b }

-- of a quotient and a remainder against a limit and 0, what decides: the quotient, and the remainder only where the quotient equals the limit
unfoldable pub deciding : ExactComparison → Comparison
deciding c =
    cond (eqb c.quotient c.limit) (compare c.remainder c.way 0) (compare c.quotient c.way c.limit)

-- the comparison of a quotient and a remainder with a limit and 0
abbrev pub compare_exactly : ℕ → ℕ → Way → ℕ → ExactComparison
compare_exactly quotient remainder way limit =
    record { quotient = quotient; remainder = remainder; way = way; limit = limit }

-- how far apart two numbers are
unfoldable pub apart : ℕ → ℕ → ℕ
apart a b = a - b + (b - a)
