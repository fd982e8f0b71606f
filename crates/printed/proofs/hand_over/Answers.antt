-- Too short is refused before anything is written; otherwise the text is copied to the front.
use Rattle.std.proofs.Common.{refl}
use Rattle.printed.proofs.Printing.{refused_short, copied}
use Rattle.printed.proofs.hand_over.Goals as goal

pub returns-then-out-text : goal.returns-then-out-text
returns-then-out-text c = rw c.into.ensures (refused_short _ _ refl c.if-out-text.true)

pub returns : goal.returns
returns c = copied _ _ c.if-out-text.false c.copy_from_slice.ensures.after
