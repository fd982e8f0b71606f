-- The words of its row, by which of the two conditions it is.
use borrow.Author.Tests.{eq-eqb, ne_eqb}
use Rattle.characters.specs.Words.{spelled}
use Rattle.wording.specs.Wording.{sayings, words_of}
use Rattle.wording.proofs.put_points.Goals as goal

pub put_by_shape-requires : goal.put_by_shape-requires
unfolding words_of sayings spelled
put_by_shape-requires c = rw (eq-eqb _ _ c.if-which-eq1.true) at c.requires

pub returns-then-which-eq1 : goal.returns-then-which-eq1
unfolding words_of sayings spelled
returns-then-which-eq1 c = rw (eq-eqb _ _ c.if-which-eq1.true) c.put_by_shape.ensures

pub put_by_shape-requires-else-which-eq1 : goal.put_by_shape-requires-else-which-eq1
unfolding words_of sayings spelled
put_by_shape-requires-else-which-eq1 c = rw (ne_eqb _ _ c.if-which-eq1.false) at c.requires

pub returns-else-which-eq1 : goal.returns-else-which-eq1
unfolding words_of sayings spelled
returns-else-which-eq1 c = rw (ne_eqb _ _ c.if-which-eq1.false) c.put_by_shape-else-which-eq1.ensures
