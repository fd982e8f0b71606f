-- `unless` keeps the first trouble, case by case.
use Rattle.fields.specs.Trouble.{first}
use Rattle.fields.proofs.trouble.unless.Goals as goal

pub returns-in-Err : goal.returns-in-Err
unfolding first
returns-in-Err c = rw c.in-Err.is

pub returns-then-ok : goal.returns-then-ok
unfolding first
returns-then-ok c = rw (c.in-Ok.is, c.if-ok.true)

pub returns-else-ok : goal.returns-else-ok
unfolding first
returns-else-ok c = rw (c.in-Ok.is, c.if-ok.false)
