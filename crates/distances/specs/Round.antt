-- The points of a round stack (docs/RULES.md, Traverse layouts): n on a diameter of 0.1 in, sampled with a nozzle of 0.001 in.
use Rattle.std.specs.Prelude.{ℕ, ◌-◌, ◌*◌, min, max, Bool, cond, ◌&&◌, leb}
use Rattle.arith.specs.Rounding.{round_div}
use Rattle.readings.specs.Ranges.{diameter_points, layout_diameter, nozzle_diameter}
use Rattle.distances.specs.Positions.{position}

-- a round layout inside its ranges
unfoldable pub round_fits : ℕ → ℕ → ℕ → Bool
round_fits n diameter nozzle = diameter_points n && (layout_diameter diameter && nozzle_diameter nozzle)

-- how far a point stays from the walls, 0.001 in: the larger of the nozzle and 1,000, or 500 at 24 in and below
unfoldable pub margin : ℕ → ℕ → ℕ
margin diameter nozzle = max nozzle (cond (leb diameter 240) 500 1000)

-- a distance kept at least m from both walls of a stack this wide. m is at most half the width, so either wall may come first
unfoldable pub kept : ℕ → ℕ → ℕ → ℕ
kept m width x = min (max x m) (width - m)

-- a position's distance, 0.001 in, before it is kept from the walls
unfoldable pub measured : ℕ → ℕ → ℕ → ℕ
measured n diameter i = round_div (position n i * diameter) 10

-- the distance of point i, 0.001 in
unfoldable pub distance : ℕ → ℕ → ℕ → ℕ → ℕ
distance n diameter nozzle i = kept (margin diameter nozzle) (100 * diameter) (measured n diameter i)
