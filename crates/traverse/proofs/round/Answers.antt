-- A loop that fills the array with the distances of points 1, 2, .. in order.
use Prim.Native.Nat.{ℕ, ◌+◌, ◌≤◌, ◌<◌}
use mathlib.Core.Path.{◌≡◌}
use mathlib.Core.List.{List, [], ◌∷◌}
use native.Mathlib.Nat.{le_antisymm}
use native.Mathlib.Omega.{arith}
use lib.ListN.{set}
use Rattle.arrays.proofs.Filled.{Filled, filled_none, filled_more}
use Rattle.distances.specs.Round.{distance}
use Rattle.distances.proofs.PositionLaws.{points_of}
use Rattle.distances.proofs.RoundLaws.{round_ok}
use Rattle.traverse.specs.Layout.{each_to, round_layout, most_distances, IsLayout}
use Rattle.traverse.proofs.ListLaws.{each_none, each_more}
use Rattle.traverse.proofs.round.Invariants.{Laid}
use Rattle.traverse.proofs.round.Goals as goal

laid_none : (n d z : ℕ) (array : List ℕ) → Filled most_distances 0 [] 0 array → Laid n d z array 0
laid_none n d z array t = record { past = omega arith; filled = rw (each_none (λ i. distance n d z i ∷ [])) t }

laid_more : {n d z : ℕ} {array : List ℕ} {i : ℕ} (a : ℕ) → Laid n d z array i → n ≤ 24 → i < n → a ≡ distance n d z (i + 1) → Laid n d z (set array i a) (i + 1)
laid_more {n} {d} {z} {array} {i} a t few inside e =
    record {
      past = omega arith;
      filled = rw (e, each_more (λ i. distance n d z i ∷ []) i) (filled_more (distance n d z (i + 1)) t.filled (omega arith));
    }

laid_all : {n d z : ℕ} {array : List ℕ} {i : ℕ} → Laid n d z array i → n ≤ i → IsLayout (round_layout n d z) (record { count = n; distances = array })
unfolding round_layout
laid_all {n} {d} {z} {array} {i} t end =
    let all : i ≡ n = le_antisymm t.past end in
    let filled : Filled most_distances 0 (each_to (λ i. distance n d z i ∷ []) n) n array = rw all at t.filled in
    record { count = filled.count; distances = filled.holds }

pub loop-i-init : goal.loop-i-init
loop-i-init c = laid_none _ _ _ _ (filled_none _ _)

pub overflow_add-i : goal.overflow_add-i
overflow_add-i c = omega arith

pub distance-requires : goal.distance-requires
distance-requires c = record { layout = c.requires; point = omega arith }

pub overflow_cast-distances : goal.overflow_cast-distances
overflow_cast-distances c = omega (arith, c.distance.ensures.high)

pub loop-i-preserved : goal.loop-i-preserved
loop-i-preserved c =
    laid_more _ c.loop-i.invariant (((points_of c.args.points (round_ok _ _ _ c.requires).points).most)) c.loop-i-test.true c.distance.ensures.is

pub offset_bounds-distances-i : goal.offset_bounds-distances-i
offset_bounds-distances-i c = omega (arith, ((points_of c.args.points (round_ok _ _ _ c.requires).points).most))

pub bounds-distances-i : goal.bounds-distances-i
bounds-distances-i c = omega (arith, ((points_of c.args.points (round_ok _ _ _ c.requires).points).most))

pub returns : goal.returns
returns c = laid_all c.loop-i.invariant c.loop-i-test.false
