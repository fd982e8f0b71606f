-- The points of a rectangular stack (docs/RULES.md, Traverse layouts): n at the centers of equal cells, on sides of 0.1 in.
use Rattle.std.specs.Prelude.{ℕ, ◌+◌, ◌-◌, ◌*◌, Bool, cond, ◌&&◌, List, [], ◌∷◌, leb, eqb}
use Rattle.arith.specs.Rounding.{round_div}
use Rattle.readings.specs.Ranges.{side, least_layout_diameter}
use Rattle.grids.specs.Grids.{Grid, ◌by◌, grids, grid_points}

-- a rectangle's diameter 2LW/(L+W) is 12 in or more
unfoldable pub wide_enough : ℕ → ℕ → Bool
wide_enough first second = leb (least_layout_diameter * (first + second)) (2 * first * second)

-- a rectangular layout inside its ranges
unfoldable pub rectangle_fits : ℕ → ℕ → ℕ → Bool
rectangle_fits n first second = grid_points n && (side first && (side second && wide_enough first second))

-- the one of a list that has n cells
abbrev pub with_cells : ℕ → List Grid → Grid
with_cells n [] = 0 by 0
with_cells n (g ∷ gs) = cond (eqb n (g.larger * g.smaller)) g (with_cells n gs)

-- the grid of n points
unfoldable pub grid_of : ℕ → Grid
grid_of n = with_cells n grids

-- cells along the first and the second side: the larger count is on the longer side, on the first if they are equal
unfoldable pub first_cells : ℕ → ℕ → ℕ → ℕ
first_cells n first second = cond (leb second first) (grid_of n).larger (grid_of n).smaller

unfoldable pub second_cells : ℕ → ℕ → ℕ → ℕ
second_cells n first second = cond (leb second first) (grid_of n).smaller (grid_of n).larger

-- the center of cell i along a side, 0.001 in
unfoldable pub center : ℕ → ℕ → ℕ → ℕ
center side cells i = round_div ((2 * i - 1) * 100 * side) (2 * cells)
