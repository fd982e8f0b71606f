-- The decimal number: its last digit behind the others.
use Rattle.std.proofs.Common.{arith}
use Rattle.characters.proofs.Decimals.{decimal_few}
use Rattle.characters.proofs.Texts.{decimal_parts, room_front, room_behind, wrote_more}
use Rattle.characters.proofs.Writer.+decimal.Goals as goal

pub byte-requires : goal.byte-requires
byte-requires t c = rw (decimal_few c.args.n c.if-n-lt10.true) at c.requires

pub returns-then-n-lt10 : goal.returns-then-n-lt10
returns-then-n-lt10 t c = rw (decimal_few c.args.n c.if-n-lt10.true) c.byte.ensures

pub decimal-requires : goal.decimal-requires
decimal-requires t c =
    let parts = decimal_parts c.args.n c.if-n-lt10.false c.ranges.n.fits in
    (omega arith, room_front _ _ (rw parts at c.requires))

pub byte-requires-else-n-lt10 : goal.byte-requires-else-n-lt10
byte-requires-else-n-lt10 t c =
    let parts = decimal_parts c.args.n c.if-n-lt10.false c.ranges.n.fits in
    room_behind _ c.decimal.ensures (rw parts at c.requires)

pub returns-else-n-lt10 : goal.returns-else-n-lt10
returns-else-n-lt10 t c =
    let parts = decimal_parts c.args.n c.if-n-lt10.false c.ranges.n.fits in
    rw parts (wrote_more c.decimal.ensures c.byte-else-n-lt10.ensures (rw parts at c.requires))
