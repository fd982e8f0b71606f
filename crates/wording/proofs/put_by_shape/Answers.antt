-- By the shape.
use Rattle.wording.proofs.put_by_shape.Goals as goal

pub word-requires : goal.word-requires
word-requires c = rw c.if-round.true at c.requires

pub returns-then-round : goal.returns-then-round
returns-then-round c = rw c.if-round.true c.word.ensures

pub word-requires-else-round : goal.word-requires-else-round
word-requires-else-round c = rw c.if-round.false at c.requires

pub returns-else-round : goal.returns-else-round
returns-else-round c = rw c.if-round.false c.word-else-round.ensures
