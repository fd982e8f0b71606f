-- The loop writes one byte more a turn: the bytes so far are spliced in, and the rest is what is left of the value.
use Rattle.output.proofs.Bytes.{Written}
use Rattle.output.proofs.put_number.Given as goal

abbrev pub invariant-loop-i : goal.invariant-loop-i
invariant-loop-i l =
    Written l.initial.out l.at l.width l.value l.out l.rest l.i
