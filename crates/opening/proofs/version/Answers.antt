-- The version's number is 2 or it is not.
use mathlib.Core.Path.{◌∙◌, sym}
use borrow.Author.Tests.{eq-eqb, ne_eqb}
use Rattle.opening.specs.Opening.{version_of}
use Rattle.opening.proofs.version.Goals as goal

pub returns-then-u16_at-eq2 : goal.returns-then-u16_at-eq2
unfolding version_of
returns-then-u16_at-eq2 c = rw (eq-eqb _ _ (sym c.u16_at.ensures ∙ c.if-u16_at-eq2.true))

pub returns-else-u16_at-eq2 : goal.returns-else-u16_at-eq2
unfolding version_of
returns-else-u16_at-eq2 c = rw (ne_eqb _ _ (λ e. c.if-u16_at-eq2.false (c.u16_at.ensures ∙ e)))
