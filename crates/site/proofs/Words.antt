-- Rule 9 in the words of docs/RULES.md.
use Prim.Native.Nat.{ℕ, ◌+◌, ◌*◌, ◌/◌, ◌%◌}
use mathlib.Core.Path.{◌≡◌, refl, ap}
use mathlib.Core.Bool.{Bool, true, false, cond, not}
use native.Mathlib.Omega.{arith}
use borrow.Author.Tests.{eq-eqb, ne_eqb, eqb-true, eqb-false}
use lib.Dec.{eqb}
use Rattle.readings.specs.Ranges.{round_shape}
use Rattle.grids.specs.Grids.{grid_points, next_grid}
use Rattle.grids.proofs.Grids.{grid_exactly}
use Rattle.grounds.specs.declared.comparison.Way.TheVariants.{Differs}
use Rattle.grounds.specs.Comparing.{holds, compare}
use Rattle.site.specs.Site.{next_allowed}

-- the allowed numbers of points: multiples of 4 round, the grids rectangular
abbrev pub allowed : ℕ → ℕ → Bool
allowed shape n = cond (eqb shape round_shape) (eqb (n % 4) 0) (grid_points n)

multiple_exactly : (n : ℕ) → eqb n ((n + 3) / 4 * 4) ≡ eqb (n % 4) 0
multiple_exactly n = go (eqb (n % 4) 0) refl
  where
    go : (t : Bool) → eqb (n % 4) 0 ≡ t → eqb n ((n + 3) / 4 * 4) ≡ t
    go true e = let even : n % 4 ≡ 0 = eqb-true _ _ e in eq-eqb n ((n + 3) / 4 * 4) (omega arith)
    go false e = let odd : n % 4 ≡ 0 → ⊥ = eqb-false _ _ e in ne_eqb n ((n + 3) / 4 * 4) (omega arith)

-- Rule 9: a number of points differs from the next allowed one exactly when it is not allowed
pub allowed_exactly : (shape n : ℕ) → holds (compare n Differs (next_allowed shape n)) ≡ not (allowed shape n)
unfolding holds next_allowed
allowed_exactly shape n = ap not (go (eqb shape round_shape))
  where
    go : (t : Bool) → eqb n (cond t ((n + 3) / 4 * 4) (next_grid n)) ≡ cond t (eqb (n % 4) 0) (grid_points n)
    go true = multiple_exactly n
    go false = grid_exactly n
