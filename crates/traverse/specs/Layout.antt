-- The layouts of docs/RULES.md, Traverse layouts: the list of distances of each, and the array that holds them.
use Rattle.std.specs.Prelude.{ℕ, zero, suc, List, [], ◌∷◌, ◌++◌, ◌≡◌, length}
use Rattle.arrays.specs.Arrays.{filled_to}
use Rattle.distances.specs.Round.{distance}
use Rattle.distances.specs.Rectangle.{first_cells, second_cells, center}
use Rattle.traverse.specs.declared.Layout.{Layout}

-- f 1, then f 2, and so on to f n, in one list
unfoldable pub each_to : (ℕ → List ℕ) → ℕ → List ℕ
each_to f zero = []
each_to f (suc n) = each_to f n ++ f (suc n)

-- of a round stack: the distance of each point, across the diameter
unfoldable pub round_layout : ℕ → ℕ → ℕ → List ℕ
round_layout n diameter nozzle = each_to (λ i. distance n diameter nozzle i ∷ []) n

-- of a rectangular stack: the two distances of each point, the first side's first; the first side's cell is the fastest count
unfoldable pub rectangle_layout : ℕ → ℕ → ℕ → List ℕ
rectangle_layout n first second =
    let columns : ℕ = first_cells n first second in
    let rows : ℕ = second_cells n first second in
    each_to (λ j. each_to (λ i. center first columns i ∷ center second rows j ∷ []) columns) rows

-- the most distances of a layout: two for each of 49 points
abbrev pub most_distances : ℕ
most_distances = 98

-- a layout holds these distances and no others
pub record IsLayout (ds : List ℕ) (l : Layout) : Type 0 where
  pub count : l.count ≡ length ds
  pub distances : l.distances ≡ filled_to most_distances 0 ds
