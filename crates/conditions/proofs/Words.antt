-- Rules 15, 16 and 17 in the words of docs/RULES.md.
use Rattle.std.specs.Prelude.{Some}
use Prim.Native.Nat.{ℕ, ◌+◌, ◌*◌, ◌<◌}
use mathlib.Core.Path.{◌≡◌}
use mathlib.Core.Bool.{true}
use mathlib.Core.Logic.{◌↔◌}
use native.Mathlib.Nat.{div-add-mod', mod-lt}
use native.Mathlib.Omega.{arith}
use borrow.Author.Tests.{lt-ltb, ltb-true}
use Rattle.arith.specs.Rounding.{division}
use Rattle.grounds.specs.declared.comparison.Way.{Way}
use Rattle.grounds.specs.Comparing.{stands_to, holds, apart}
use Rattle.grounds.specs.Grounds.{broken}
use Rattle.grounds.proofs.Exactly.{exactly}
use Rattle.records.specs.declared.Weighing.{Weighing}
use Rattle.conditions.specs.declared.Part.TheVariants.{OneWeighing}
use Rattle.conditions.specs.Conditions.{ratio_against, difference, net, steady_limit, unsteady}
use Rattle.conditions.proofs.Net.{limit_of_net}

-- a line that is n / d rounded stands to its limit as n stands to so many times d
pub ratio_exactly : (way : Way) (n d limit : ℕ) → 0 < d → broken (ratio_against (Some (division n d)) way limit) ≡ stands_to way n (limit * d)
unfolding division broken ratio_against
ratio_exactly way n d limit some = exactly way n d _ _ limit (div-add-mod' n d) (mod-lt n some)

-- a weighing is unsteady exactly when its final weights differ by more than 5 units, and 100 times as much is above the second less the tare
pub unsteady_exactly : (w : Weighing) → (broken (unsteady (OneWeighing w)) ≡ true) ↔ ((5 < apart w.first w.second) × (w.second < w.tare + 100 * apart w.first w.second))
unfolding apart holds broken unsteady
unsteady_exactly w =
    let limit = limit_of_net w.second w.tare in (
      λ e.
          let above : steady_limit (net w) < 100 * difference w = ltb-true _ _ e in
          (omega (arith, limit), omega (arith, limit)),
      λ both. lt-ltb (steady_limit (net w)) (100 * difference w) (omega (arith, limit, both.0, both.1)),
    )
