-- By the two cases of an answer; a refusal is its high bits and its low ones.
use native.Mathlib.Omega.{arith}
use Rattle.output.specs.Answers.{packed}
use Rattle.output.proofs.packed.Goals as goal

pub returns-in-Ok : goal.returns-in-Ok
unfolding packed
returns-in-Ok c = rw c.in-Ok.is

pub returns-in-Err : goal.returns-in-Err
unfolding packed
returns-in-Err c = rw c.in-Err.is (omega arith)
