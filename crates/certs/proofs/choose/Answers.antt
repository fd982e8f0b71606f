-- `choose` is `chosen`. The invariant: the best so far is the choice among the certificates passed.
use mathlib.Core.Path.{◌≡◌, refl, ◌∙◌, ap}
use native.Mathlib.Omega.{arith}
use borrow.Author.Rules.{rules}
use Rattle.choosing.specs.Choosing.{chosen}
use Rattle.certs.proofs.Best.{day_of, mapped, best_replaced, best_kept}
use Rattle.certs.proofs.choose.Goals as goal
use Rattle.certs.proofs.choose.Goals.{then-replaces, else-replaces}

pub loop-i-init : goal.loop-i-init
unfolding chosen
loop-i-init c = refl

pub loop-i-preserved : goal.loop-i-preserved
loop-i-preserved c =
    let so_far = c.loop-i.invariant in
    let days : c.map.result ≡ day_of c.loop-i.best = mapped _ c.map.ensures.cases (λ b d h. search rules) in
    elim c.if-replaces.branch [
      | then-replaces w ↦ rw w.best-is (best_replaced _ _ _ _ _ _ so_far days c.nth-c.ensures c.replaces.ensures w.if-replaces.true)
      | else-replaces w ↦ rw w.best-is (best_kept _ _ _ _ _ _ so_far days c.nth-c.ensures c.replaces.ensures w.if-replaces.false)
    ]

pub returns : goal.returns
returns c =
    let end : c.loop-i.i ≡ c.args.all.count = omega arith in
    c.loop-i.invariant ∙ ap (chosen _ _ _ _ _) end
