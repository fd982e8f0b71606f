-- The header, then the number, then what follows.
use Prim.Native.Nat.{◌+◌, ◌≤◌, ◌<◌}
use mathlib.Core.Path.{◌∙◌, sym, ap, ap₂, subst}
use borrow.Author.Tests.{le-ltb, lt-ltb}
use native.Mathlib.Omega.{arith}
use lib.ListN.{length}
use Rattle.fields.proofs.FirstTrouble.{first_at, first_clear}
use Rattle.fields.proofs.Refusals.{refuses, passes}
use Rattle.records.specs.declared.RunHeader.{RunHeader}
use Rattle.opening.specs.Opening.{version_of}
use Rattle.heads.specs.Values.{header, run_header_size}
use Rattle.fields.proofs.RecordTrouble.{complete_at}
use Rattle.fields.proofs.Tails.{enough}
use Rattle.job.specs.Troubles.{parts_trouble, run_trouble}
use Rattle.job.proofs.runs.run_trouble.Goals as goal
use Rattle.job.proofs.runs.run_trouble.Goals.{In_ok-trouble}

-- a header whose fields are clear is complete
complete : (c : In_ok-trouble) → c.args.start + run_header_size c.args.f.version ≤ length c.args.f.bytes.now
complete c =
    rw c.args.f.said (complete_at _ _ (run_header_size (version_of c.args.f.bytes.now)) _ (omega arith) (sym c.in_ok-trouble.ensures))

pub returns-in_err-trouble : goal.returns-in_err-trouble
unfolding run_trouble
returns-in_err-trouble c = refuses _ _ _ c.from_residual.ensures.1 c.in_err-trouble.ensures

pub header-h-requires : goal.header-h-requires
header-h-requires c =
    rw c.at.ensures.1 (enough c.args.f.bytes.now c.args.start _ c.at.ensures.0 (complete (goal.at.header-h-requires c).In_ok-trouble))

pub returns-then-h-lower : goal.returns-then-h-lower
unfolding run_trouble
returns-then-h-lower c =
    let h = c.header-h.ensures ∙ ap₂ header (c.at.ensures.1 ∙ c.args.f.said) c.at.ensures.0 in
    let low = subst (λ (r : RunHeader). r.number ≤ c.args.lower) h c.if-h-lower.true in
    rw c.number.ensures (passes c.in_ok-trouble.ensures (sym (first_at _ (rw (le-ltb _ _ low)))))

pub parts_trouble-requires : goal.parts_trouble-requires
parts_trouble-requires c = complete (goal.at.parts_trouble-requires c).In_ok-trouble

pub returns : goal.returns
unfolding run_trouble
returns c =
    let h = c.header-h.ensures ∙ ap₂ header (c.at.ensures.1 ∙ c.args.f.said) c.at.ensures.0 in
    let high = subst (λ (r : RunHeader). c.args.lower < r.number) h c.if-h-lower.false in
    passes c.in_ok-trouble.ensures
    (c.parts_trouble.ensures ∙ ap (λ (r : RunHeader). parts_trouble c.args.f.bytes.now c.args.start r.counts) h ∙ sym (first_clear _ (rw (lt-ltb _ _ high))))
