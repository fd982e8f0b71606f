-- The position rounded to a distance and kept from the walls. The range of each part bounds the products.
use Prim.Native.Nat.{ℕ, ◌*◌}
use mathlib.Core.Path.{◌≡◌}
use native.Mathlib.Nat.{mul-le-mul}
use native.Mathlib.Omega.{arith}
use Rattle.arith.specs.Rounding.{round_div}
use Rattle.distances.specs.Promise.{AtMost}
use Rattle.distances.specs.Positions.{position}
use Rattle.distances.specs.Round.{margin, kept, measured, distance}
use Rattle.distances.proofs.RoundLaws.{RoundOk, round_ok, margin_half, kept_most}
use Rattle.distances.proofs.diameters.distance.Goals as goal

is_distance : {n d z : ℕ} (i : ℕ) {p x m r : ℕ} → RoundOk n d z → p ≡ position n i → x ≡ round_div (p * d) 10 → m ≡ margin d z → r ≡ kept m (100 * d) x → AtMost 999900 (distance n d z i) r
unfolding distance measured
is_distance {n} {d} {z} i {r = r} ok ep ex em er =
    let e : r ≡ kept (margin d z) (100 * d) (round_div (position n i * d) 10) = rw (er, em, ex, ep) in
    record {
      is = e;
      high = rw e (omega (arith, kept_most (margin d z) (100 * d) (margin_half ok) (round_div (position n i * d) 10), ok.diameter_most));
    }

pub position-requires : goal.position-requires
position-requires c = record { points = (round_ok _ _ _ c.requires.layout).points; point = c.requires.point }

pub overflow_mul-position : goal.overflow_mul-position
overflow_mul-position c =
    omega (arith, mul-le-mul c.position.ensures.high (round_ok _ _ _ c.requires.layout).diameter_most)

pub margin-requires : goal.margin-requires
margin-requires c = (round_ok _ _ _ c.requires.layout).nozzle_most

pub overflow_mul-diameter : goal.overflow_mul-diameter
overflow_mul-diameter c = omega (arith, (round_ok _ _ _ c.requires.layout).diameter_most)

pub kept-requires : goal.kept-requires
kept-requires c = omega (arith, c.margin.ensures.high, (round_ok _ _ _ c.requires.layout).diameter_least)

pub returns : goal.returns
returns c =
    is_distance _ (round_ok _ _ _ c.requires.layout) c.position.ensures.is c.round_div-measured.ensures c.margin.ensures.is c.kept.ensures
