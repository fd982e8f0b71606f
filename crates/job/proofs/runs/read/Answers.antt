-- The loop keeps where it stands, the number before, and that the runs passed are clear and noted; it stops at the first that is not.
use Prim.Native.Nat.{ℕ, ◌+◌, ◌≤◌, ◌<◌}
use mathlib.Core.Path.{◌≡◌, refl, sym, ◌∙◌, ap, ap₂, subst}
use mathlib.Core.List.{List}
use native.Mathlib.Nat.{le_antisymm}
use native.Mathlib.Omega.{arith}
use borrow.Author.Rules.{rules}
use borrow.Author.Tests.{le-leb, lt-leb}
use lib.ListN.{length, drop}
use Rattle.heads.specs.Values.{run_header_size}
use Rattle.readings.specs.Ranges.{greatest_run_count}
use Rattle.fields.specs.Numbers.{u16_at}
use Rattle.fields.specs.Trouble.{Clear, At, left_over}
use Rattle.fields.proofs.FirstTrouble.{none_clear, stops, ends}
use Rattle.fields.proofs.Refusals.{refuses, passes, still_clear}
use Rattle.arrays.specs.Arrays.{padded}
use Rattle.arrays.proofs.Arrays.{pad_none, pad_more}
use Rattle.fields.proofs.Tails.{enough}
use Rattle.job.specs.Places.{next_start, run_start}
use Rattle.job.specs.Troubles.{run_trouble, end_trouble}
use Rattle.job.proofs.ClearRuns.{header_fits, run_fits, start_more, number_none, number_more}
use Rattle.job.proofs.runs.read.Goals as goal
use Rattle.job.proofs.runs.read.Goals.{In_ok-run_trouble}

-- the header of a clear run is complete
complete : (c : In_ok-run_trouble) → c.loop-k.at + run_header_size c.args.f.version ≤ length c.args.f.bytes.now
complete c =
    rw c.args.f.said (header_fits _ _ _ (sym c.in_ok-run_trouble.ensures))

pub loop-k-init : goal.loop-k-init
loop-k-init c =
    let first = c.requires in
    (search rules, first.2, first.1, number_none _, none_clear _, pad_none greatest_run_count 0 _)

pub returns-in_err-run_trouble-clause-trouble : goal.returns-in_err-run_trouble-clause-trouble
returns-in_err-run_trouble-clause-trouble c =
    let passed = c.loop-k.invariant in
    let own = c.in_err-run_trouble.ensures ∙ ap₂ (run_trouble _) passed.2 passed.3 in
    refuses _ _ _ c.from_residual.ensures.1 (stops _ _ _ passed.4 own refl c.loop-k-test.true)

pub u16_at-lower-requires : goal.u16_at-lower-requires
u16_at-lower-requires c =
    enough c.args.f.bytes.now c.loop-k.at 2 c.tail.ensures (omega (arith, complete (goal.at.u16_at-lower-requires c).In_ok-run_trouble))

pub next_start-at-requires : goal.next_start-at-requires
next_start-at-requires c = complete (goal.at.next_start-at-requires c).In_ok-run_trouble

pub loop-k-preserved : goal.loop-k-preserved
loop-k-preserved c =
    let passed = c.loop-k.invariant in
    let s = c.args.f.bytes.now in
    let own = c.in_ok-run_trouble.ensures ∙ ap₂ (run_trouble _) passed.2 passed.3 in (
      search rules,
      subst (λ (p : ℕ). p ≤ length s) (sym c.next_start-at.ensures) (run_fits _ _ _ (sym c.in_ok-run_trouble.ensures)),
      c.next_start-at.ensures ∙ ap (next_start _) passed.2 ∙ start_more _ _,
      c.u16_at-lower.ensures ∙ ap (λ (t : List ℕ). u16_at t 0) (c.tail.ensures ∙ ap (λ (p : ℕ). drop p s) passed.2) ∙ number_more _ _,
      still_clear _ _ passed.4 own,
      pad_more greatest_run_count 0 _ _ passed.5 passed.2,
    )

-- past all runs, bytes are left over ..
pub returns-then-at-f-clause-trouble : goal.returns-then-at-f-clause-trouble
returns-then-at-f-clause-trouble c =
    let left = c.loop-k-test.false in
    let passed = c.loop-k.invariant in
    let s = c.args.f.bytes.now in
    let done = le_antisymm passed.0 left in
    let at = c.loop-k.at in
    let more : at < length s = c.if-at-f.true in
    let over : At left_over at ≡ end_trouble s at = rw (lt-leb _ _ more) in
    rw c.number.ensures (passes (ends _ _ _ passed.4 passed.0 left) (over ∙ ap (end_trouble s) (passed.2 ∙ ap (run_start _) done)))

-- .. or none are
pub returns : goal.returns
returns c =
    let left = c.loop-k-test.false in
    let passed = c.loop-k.invariant in
    let s = c.args.f.bytes.now in
    let done = le_antisymm passed.0 left in
    let at = c.loop-k.at in
    let past : length s ≤ at = c.if-at-f.false in
    let whole : Clear ≡ end_trouble s at = rw (le-leb _ _ past) in
    record {
      trouble = passes (ends _ _ _ passed.4 passed.0 left) (whole ∙ ap (end_trouble s) (passed.2 ∙ ap (run_start _) done));
      starts = passed.5 ∙ ap (padded greatest_run_count 0 _) done;
    }
