-- The loop writes one byte more a turn: the bytes so far are spliced in, and the rest is what is left of the value.
use Rattle.output.proofs.Bytes.{written_none, written_length, written_more, written_all}
use native.Mathlib.Omega.{arith}
use Rattle.output.proofs.put_number.Goals as goal

pub loop-i-init : goal.loop-i-init
loop-i-init c = written_none _ _ _ _ c.requires

pub overflow_add-at : goal.overflow_add-at
overflow_add-at c =
    let w = c.loop-i.invariant in
    omega (arith, w.room, c.loop-i-test.true, c.well_formed.0.0)

pub overflow_cast-rest : goal.overflow_cast-rest
overflow_cast-rest c = omega arith

pub put_byte-requires : goal.put_byte-requires
put_byte-requires c =
    let w = c.loop-i.invariant in
    omega (arith, written_length w, w.room, c.loop-i-test.true)

pub loop-i-preserved : goal.loop-i-preserved
loop-i-preserved c = written_more c.loop-i.invariant c.loop-i-test.true c.put_byte.ensures

pub shape_of-out : goal.shape_of-out
shape_of-out c = written_length c.loop-i.invariant

pub returns : goal.returns
returns c = written_all c.loop-i.invariant c.loop-i-test.false
