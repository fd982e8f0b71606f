-- Rules 7 to 9 of docs/RULES.md: the sampling site and its number of points.
use Rattle.std.specs.Prelude.{ℕ, ◌+◌, ◌*◌, ◌/◌, Bool, cond, ◌&&◌, leb, ltb, eqb}
use Rattle.readings.specs.Ranges.{round_shape}
use Rattle.grids.specs.Grids.{next_grid}
use Rattle.records.specs.declared.Site.{Site}
use Rattle.grounds.specs.declared.comparison.Way.TheVariants.{Below, Differs}
use Rattle.grounds.specs.Comparing.{compare}
use Rattle.grounds.specs.declared.Ground.{Ground}
use Rattle.grounds.specs.declared.Ground.TheVariants.{Compared, Either}
use Rattle.diameters.specs.Diameters.{is_round, diameter, half_diameter}
use Rattle.steps.specs.declared.Figure.{Figure}
use Rattle.steps.specs.Steps.{is_figure, asked}

-- the least diameter, 0.1 in
abbrev pub least_diameter : ℕ
least_diameter = 120

-- 7: the diameter is below 12 in
abbrev pub narrow : Site → Ground
narrow s = Compared (compare (diameter s).over Below (least_diameter * (diameter s).under))

-- how near the last disturbance may be, in diameters
abbrev pub nearest_last : ℕ
nearest_last = 2

-- 8: the next disturbance is nearer than half a diameter, or the last one nearer than two
abbrev pub disturbed : Site → Ground
disturbed s =
    Either
    (compare (s.next * (half_diameter s).under) Below (half_diameter s).over)
    (compare (s.last * (diameter s).under) Below (nearest_last * (diameter s).over))

-- from where on a site is undisturbed, in diameters from the last disturbance
abbrev pub far_last : ℕ
far_last = 8

-- and in diameters to the next
abbrev pub far_next : ℕ
far_next = 2

-- at least 8 diameters from the last disturbance and 2 to the next
unfoldable pub undisturbed : Site → Bool
undisturbed s =
    leb (far_last * (diameter s).over) (s.last * (diameter s).under) && leb (far_next * (diameter s).over) (s.next * (diameter s).under)

-- the diameter above which more points are needed, 0.1 in
abbrev pub wide_diameter : ℕ
wide_diameter = 240

-- above 24 in
abbrev pub wide : Site → Bool
wide s = ltb (wide_diameter * (diameter s).under) (diameter s).over

-- the least number of points at an undisturbed site: above 24 in
abbrev pub least_wide : ℕ
least_wide = 12

-- otherwise of a round stack
abbrev pub least_round : ℕ
least_round = 8

-- and of a rectangular one
abbrev pub least_rectangular : ℕ
least_rectangular = 9

-- the house's least number of points short of that: of a round stack
abbrev pub least_disturbed_round : ℕ
least_disturbed_round = 24

-- and of a rectangular one
abbrev pub least_disturbed_rectangular : ℕ
least_disturbed_rectangular = 25

-- the allowed number of points from n on: multiples of 4 round, the grids rectangular
unfoldable pub next_allowed : ℕ → ℕ → ℕ
next_allowed shape n = cond (eqb shape round_shape) ((n + 3) / 4 * 4) (next_grid n)

-- short of that: what the figure asks for, raised to the next allowed number, or without a figure the house's
unfoldable pub minimum_disturbed : Figure → Site → ℕ
minimum_disturbed f s =
    cond (is_figure f) (next_allowed s.shape (asked f s)) (cond (is_round s) least_disturbed_round least_disturbed_rectangular)

-- the least number of points at a site
unfoldable pub minimum_points : Figure → Site → ℕ
minimum_points f s =
    cond (undisturbed s) (cond (wide s) least_wide (cond (is_round s) least_round least_rectangular)) (minimum_disturbed f s)

-- 9: wrong number of points, below the least or not allowed for the shape
abbrev pub wrong_points : ℕ → ℕ → ℕ → Ground
wrong_points shape least n = Either (compare n Below least) (compare n Differs (next_allowed shape n))
