-- Incomplete, or row by row.
use mathlib.Core.Path.{refl}
use Rattle.opening.specs.Opening.{file_header_size}
use Rattle.fields.proofs.FirstTrouble.{from_zero}
use Rattle.fields.proofs.RecordTrouble.{short_at, whole_at}
use Rattle.opening.proofs.trouble.Goals as goal

pub returns-then-s-lt-SIZE : goal.returns-then-s-lt-SIZE
returns-then-s-lt-SIZE c = rw c.number.ensures (short_at c.args.s.now 0 file_header_size _ refl c.if-s-lt-SIZE.true)

pub returns : goal.returns
returns c =
    whole_at c.args.s.now 0 file_header_size _ refl c.if-s-lt-SIZE.false c.rows.ensures (from_zero _)
