-- The least number of points at a site is small, by a good figure or none.
use Prim.Native.Nat.{ℕ, ◌+◌, ◌*◌, ◌/◌, ◌≤◌, max}
use mathlib.Core.Path.{◌≡◌, refl}
use mathlib.Core.Bool.{Bool, true, false, cond}
use mathlib.Core.List.{List, [], ◌∷◌}
use native.Mathlib.Omega.{arith}
use lib.Dec.{leb, eqb, lit≤}
use Rattle.readings.specs.Ranges.{round_shape}
use Rattle.grids.specs.Grids.{next_of, next_grid}
use Rattle.records.specs.declared.Site.{Site}
use Rattle.diameters.specs.Diameters.{is_round}
use Rattle.steps.specs.declared.Step.{Step}
use Rattle.steps.specs.declared.Figure.{Figure}
use Rattle.steps.specs.Steps.{no_figure, points_for}
use Rattle.figures.specs.Figures.{step_at, last_at, next_at, read_figure}
use Rattle.site.specs.Site.{least_round, least_rectangular, least_wide, least_disturbed_round, least_disturbed_rectangular, next_allowed, undisturbed, wide, minimum_disturbed, minimum_points}
use Rattle.demands.specs.FigureFile.{Lent, no_file, file, figure_in, GoodLent, GoodStep, GoodFigure}
use Rattle.demands.proofs.GoodFigures.{good_exactly}
use Rattle.demands.proofs.StepsTaken.{least_by_steps}

-- The next allowed number is not far
abbrev NoneAbove : ℕ → List ℕ → Type 0
NoneAbove most [] = Unit {0}
NoneAbove most (g ∷ gs) = (g ≤ most) × NoneAbove most gs

next_of_most : (most last : ℕ) (gs : List ℕ) (n : ℕ) → last ≤ most → NoneAbove most gs → next_of last gs n ≤ most
unfolding next_of
next_of_most most last [] n few none = few
next_of_most most last (g ∷ gs) n few (own, rest) = go (leb n g) (next_of_most most g gs n own rest)
  where
    go : (t : Bool) → next_of g gs n ≤ most → cond t g (next_of g gs n) ≤ most
    go true later = own
    go false later = later

next_grid_most : (n : ℕ) → next_grid n ≤ 49
unfolding next_grid
next_grid_most n =
    next_of_most 49 0 _ n (lit≤ tt) (lit≤ tt, (lit≤ tt, (lit≤ tt, (lit≤ tt, (lit≤ tt, (lit≤ tt, (lit≤ tt, (lit≤ tt, (lit≤ tt, tt)))))))))

-- by a round stack less than 4 above it, by a rectangular one at most the largest grid's
pub next_allowed_most : (shape n : ℕ) → next_allowed shape n ≤ n + 49
unfolding next_allowed
next_allowed_most shape n = go (eqb shape round_shape)
  where
    go : (round : Bool) → cond round ((n + 3) / 4 * 4) (next_grid n) ≤ n + 49
    go true = omega arith
    go false = omega (arith, next_grid_most n)

-- The least number, at most what a step asks for, 49, raised to the next allowed number
abbrev pub most_points : ℕ
most_points = 98

-- at an undisturbed site, whatever the figure
undisturbed_few : (f : Figure) (s : Site) → undisturbed s ≡ true → minimum_points f s ≤ most_points
unfolding minimum_points
undisturbed_few f s far = rw far (go (wide s) (is_round s))
  where
    go : (large round : Bool) → cond large least_wide (cond round least_round least_rectangular) ≤ most_points
    go true round = lit≤ tt
    go false true = lit≤ tt
    go false false = lit≤ tt

-- without a figure
house_few : (s : Site) → undisturbed s ≡ false → minimum_points (figure_in no_file) s ≤ most_points
unfolding minimum_points minimum_disturbed no_figure
house_few s near = rw near (go (is_round s))
  where
    go : (round : Bool) → cond round least_disturbed_round least_disturbed_rectangular ≤ most_points
    go true = lit≤ tt
    go false = lit≤ tt

-- by a good figure
step_few : (s : Site) (p : Step) → GoodStep p → points_for s p ≤ 49
step_few s p good = go (is_round s)
  where
    go : (round : Bool) → cond round p.round p.rectangular ≤ 49
    go true = omega (arith, good.few_round)
    go false = good.few_rectangular

figure_few : (f : List ℕ) → GoodFigure f → (s : Site) → undisturbed s ≡ false → minimum_points (read_figure f).figure s ≤ most_points
figure_few f good s near =
    let by = least_by_steps f good s near in
    let last = step_few s (step_at f last_at by.i) (good.last.steps by.i by.last.inside) in
    let next = step_few s (step_at f (next_at f) by.j) (good.next.steps by.j by.next.inside) in
    rw by.least (omega (arith, next_allowed_most s.shape (max (points_for s (step_at f last_at by.i)) (points_for s (step_at f (next_at f) by.j)))))

-- by either
pub least_few : (l : Lent) → GoodLent l → (s : Site) → minimum_points (figure_in l) s ≤ most_points
least_few l good s = go l good (undisturbed s) refl
  where
    go : (l : Lent) → GoodLent l → (b : Bool) → undisturbed s ≡ b → minimum_points (figure_in l) s ≤ most_points
    go l good true far = undisturbed_few (figure_in l) s far
    go no_file good false near = house_few s near
    go (file f) good false near = figure_few f ((good_exactly f).0 good) s near
