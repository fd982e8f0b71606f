-- One rounded division, no wider than the side.
use native.Mathlib.Omega.{arith}
use Rattle.distances.specs.Rectangle.{center}
use Rattle.distances.proofs.RectangleLaws.{center_product, center_high}
use Rattle.distances.proofs.cells.center.Goals as goal

pub overflow_mul-i-3 : goal.overflow_mul-i-3
overflow_mul-i-3 c = omega (arith, center_product c.requires.1 c.requires.5 c.requires.3)

pub returns : goal.returns
unfolding center
returns c =
    let p = c.requires in
    let a = c.args in
    record {
      is = c.round_div.ensures;
      high = rw c.round_div.ensures (omega (arith, center_high a.side a.cells p.0 p.2 p.3 a.i p.4 p.5, p.1));
    }
