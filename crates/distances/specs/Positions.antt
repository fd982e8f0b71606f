-- Where the points of a diameter stand, in thousandths of the diameter (docs/RULES.md, Traverse layouts).
use Rattle.std.specs.Prelude.{ℕ, ◌+◌, ◌-◌, ◌*◌, ◌/◌, ◌^◌, ◌≤◌, ◌<◌, cond, List, [], ◌∷◌, leb}
use Rattle.arith.specs.Root.{nearest_root}

-- p is the position of point i of n, where i is at most n/2. Up to 499 no subtraction is cut off, and above it the two inequalities contradict each other
pub record IsPosition (n i p : ℕ) : Type 0 where
  pub near : p ≤ 499
  pub low : (999 - 2 * p) * (999 - 2 * p) * n < 10 ^ 6 * (n - 2 * i + 1)
  pub high : 10 ^ 6 * (n - 2 * i + 1) < (1001 - 2 * p) * (1001 - 2 * p) * n

-- that number: in q = 500 - p the inequalities are those of a nearest root
unfoldable pub near_position : ℕ → ℕ → ℕ
near_position n i = 500 - nearest_root (10 ^ 6 * (n - 2 * i + 1) / n)

-- the position of point i of n: the far half mirrors the near one
unfoldable pub position : ℕ → ℕ → ℕ
position n i = cond (leb (2 * i) n) (near_position n i) (1000 - near_position n (n + 1 - i))

-- the starred positions for 6 points
unfoldable pub starred_positions : List ℕ
starred_positions = 44 ∷ 146 ∷ 296 ∷ 704 ∷ 854 ∷ 956 ∷ []
