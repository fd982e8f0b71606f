-- The grids of a rectangular stack, in a run and in a layout.
use Rattle.std.specs.Prelude.{ℕ, ◌*◌, Bool, cond, List, [], ◌∷◌, map, leb}
use Rattle.numbered.specs.Numbered.{one_of}

infixl 50 ◌by◌
-- a grid's two counts of cells
pub record Grid : Type 0 where
  pub larger : ℕ
  pub smaller : ℕ

-- a cells by b, the larger count first
abbrev pub ◌by◌ : ℕ → ℕ → Grid
a by b = record { larger = a; smaller = b }

-- 3x3 to 7x7, by rising number of cells
abbrev pub grids : List Grid
grids = (3 by 3) ∷ (4 by 3) ∷ (4 by 4) ∷ (5 by 4) ∷ (5 by 5) ∷ (6 by 5) ∷ (6 by 6) ∷ (7 by 6) ∷ (7 by 7) ∷ []

-- the numbers of points that they have, one in each cell
abbrev pub grid_numbers : List ℕ
grid_numbers = map (λ g. g.larger * g.smaller) grids

-- points of a grid
abbrev pub grid_points : ℕ → Bool
grid_points v = one_of grid_numbers v

-- the first number listed that is not below n, or the last
unfoldable pub next_of : ℕ → List ℕ → ℕ → ℕ
next_of last [] n = last
next_of last (g ∷ gs) n = cond (leb n g) g (next_of g gs n)

-- the number of points of the next grid from n on, or of the largest
unfoldable pub next_grid : ℕ → ℕ
next_grid n = next_of 0 grid_numbers n
