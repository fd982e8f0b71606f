-- The loop keeps the sum of the seconds passed, each below 65,536.
use Prim.Native.Nat.{ℕ, ◌+◌}
use mathlib.Core.Path.{sym, ◌∙◌, ap}
use native.Mathlib.Nat.{le_antisymm}
use borrow.Author.Rules.{rules}
use Rattle.fields.proofs.Tails.{u16_front}
use Rattle.records.specs.Records.{sum_to}
use Rattle.records.proofs.Sums.{sum_none, sum_more}
use Rattle.parts.proofs.seconds.Goals as goal

pub loop-i-init : goal.loop-i-init
loop-i-init c = (search rules, search rules, sum_none _)

pub loop-i-preserved : goal.loop-i-preserved
loop-i-preserved c =
    let turn = c.loop-i in
    let own = c.u16_at.ensures ∙ sym (u16_front _ _) in
    (search rules, search rules, ap (λ (x : ℕ). turn.total + x) own ∙ sum_more _ _ turn.invariant.2)

pub returns : goal.returns
returns c =
    let passed = c.loop-i.invariant in
    passed.2 ∙ ap (sum_to _) (le_antisymm passed.0 c.loop-i-test.false)
