-- The margin of a narrow stack and of a wide one.
use Prim.Native.Nat.{◌≤◌, ◌<◌}
use mathlib.Core.Path.{◌∙◌, sym}
use native.Mathlib.Omega.{arith}
use Rattle.distances.proofs.RoundLaws.{margin_narrow, margin_wide}
use Rattle.distances.proofs.diameters.margin.Goals as goal

pub returns-then-diameter-le-NARROW : goal.returns-then-diameter-le-NARROW
returns-then-diameter-le-NARROW c =
    let narrow : c.args.diameter ≤ 240 = omega arith in
    record { is = c.max.ensures ∙ sym (margin_narrow _ _ narrow); high = omega arith }

pub returns : goal.returns
returns c =
    let wide : 240 < c.args.diameter = omega arith in
    record { is = c.max-2.ensures ∙ sym (margin_wide _ _ wide); high = omega arith }
