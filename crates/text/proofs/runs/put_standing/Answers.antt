-- By the test.
use Rattle.characters.specs.Words.{spelled}
use Rattle.text.specs.Runs.{standing}
use Rattle.text.proofs.runs.put_standing.Goals as goal

pub word-requires : goal.word-requires
unfolding standing spelled
word-requires c = rw c.if-accepted.true at c.requires

pub returns-then-accepted : goal.returns-then-accepted
unfolding standing spelled
returns-then-accepted c = rw c.if-accepted.true c.word.ensures

pub word-requires-else-accepted : goal.word-requires-else-accepted
unfolding standing spelled
word-requires-else-accepted c = rw c.if-accepted.false at c.requires

pub returns-else-accepted : goal.returns-else-accepted
unfolding standing spelled
returns-else-accepted c = rw c.if-accepted.false c.word-else-accepted.ensures
