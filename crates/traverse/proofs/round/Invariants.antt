-- A loop that fills the array with the distances of points 1, 2, .. in order.
use Prim.Native.Nat.{ℕ, ◌≤◌}
use mathlib.Core.List.{List, [], ◌∷◌}
use Rattle.arrays.proofs.Filled.{Filled}
use Rattle.distances.specs.Round.{distance}
use Rattle.traverse.specs.Layout.{each_to, most_distances}
use Rattle.traverse.proofs.round.Given as goal

-- the first i points' distances stand in the array
pub record Laid (n d z : ℕ) (array : List ℕ) (i : ℕ) : Type 0 where
  pub past : i ≤ n
  pub filled : Filled most_distances 0 (each_to (λ i. distance n d z i ∷ []) i) i array

abbrev pub invariant-loop-i : goal.invariant-loop-i
invariant-loop-i l =
    Laid l.points l.diameter l.nozzle l.distances l.i
