-- The loop keeps the run that has the number.
use native.Mathlib.Omega.{arith}
use mathlib.Core.Logic.{inl, inr}
use mathlib.Core.Path.{◌≡◌, ◌∙◌, ap}
use Rattle.fields.specs.Numbers.{u16_at}
use Rattle.reduction.specs.Reducing.{run_named}
use Rattle.job.proofs.ReadJobs.{few_runs, count_of_runs, start_of, number_left}
use Rattle.reduction.proofs.Naming.{sought_none, sought_more}
use native.Mathlib.Nat.{le_antisymm}
use Rattle.reduction.proofs.find_run.Goals as goal
use Rattle.reduction.proofs.find_run.Goals.{then-u16_at-number, else-u16_at-number}

pub loop-k-init : goal.loop-k-init
loop-k-init c = (omega arith, sought_none _ _)

pub offset_bounds-job-k : goal.offset_bounds-job-k
offset_bounds-job-k c = omega (arith, c.loop-k-test.true, few_runs _ _ c.args.read.clear)

pub bounds-job-k : goal.bounds-job-k
bounds-job-k c = omega (arith, c.loop-k-test.true, few_runs _ _ c.args.read.clear)

pub u16_at-requires : goal.u16_at-requires
u16_at-requires c = number_left _ _ c.args.read.clear _ c.loop-k-test.true c.tail.ensures

pub loop-k-preserved : goal.loop-k-preserved
loop-k-preserved c =
    let inside = c.loop-k-test.true in
    let place = start_of _ _ c.args.read.clear _ (rw (count_of_runs _ _ c.args.read.clear) at inside) in (
      omega (arith, inside),
      sought_more _ _ _ _ c.loop-k.invariant.1 place (c.u16_at.ensures ∙ ap (λ t. u16_at t 0) c.tail.ensures)
          (elim c.if-u16_at-number.branch [
            | then-u16_at-number w ↦ inl (w.if-u16_at-number.true, w.found-is)
            | else-u16_at-number w ↦ inr (w.if-u16_at-number.false, w.found-is)
          ]),
    )

pub returns : goal.returns
returns c =
    let whole : c.loop-k.k ≡ c.args.read.job.runs = le_antisymm c.loop-k.invariant.0 c.loop-k-test.false in
    c.loop-k.invariant.1.is ∙ ap (run_named _ _) whole
