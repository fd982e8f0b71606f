-- One row after the other: the first that is refused is the answer.
use mathlib.Core.Path.{refl}
use Rattle.fields.specs.Trouble.{checks, first}
use Rattle.fields.proofs.Refusals.{handed}
use Rattle.opening.proofs.rows.Goals as goal

pub returns-in_err-row : goal.returns-in_err-row
unfolding checks first
returns-in_err-row c = rw (← c.marked.ensures, ← c.in_err-row.ensures) (handed _ _ c.from_residual.ensures.1 refl)

pub returns-in_err-row-2 : goal.returns-in_err-row-2
unfolding checks first
returns-in_err-row-2 c =
    rw (← c.marked.ensures, ← c.in_ok-row.ensures, ← c.u16_at-version.ensures, ← c.check.ensures, ← c.in_err-row-2.ensures)
    (handed _ _ c.from_residual-in_err-row-2.ensures.1 refl)

pub returns-in_err-count : goal.returns-in_err-count
unfolding checks first
returns-in_err-count c =
    rw (← c.marked.ensures, ← c.in_ok-row.ensures, ← c.u16_at-version.ensures, ← c.check.ensures, ← c.in_ok-row-2.ensures, ← c.u16_at-certificates.ensures, ← c.check-2.ensures, ← c.in_err-count.ensures)
    (handed _ _ c.from_residual-in_err-count.ensures.1 refl)

pub returns : goal.returns
unfolding checks first
returns c =
    rw (← c.marked.ensures, ← c.in_ok-row.ensures, ← c.u16_at-version.ensures, ← c.check.ensures, ← c.in_ok-row-2.ensures, ← c.u16_at-certificates.ensures, ← c.check-2.ensures, ← c.in_ok-count.ensures, ← c.u16_at-runs.ensures, ← c.check-3.ensures)
    c.count-2.ensures
