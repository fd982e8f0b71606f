-- The loop writes one distance a turn, just after those before it.
use native.Mathlib.Omega.{arith}
use Rattle.output.proofs.Records.{put_none, put_length, put_more, put_all}
use Rattle.layouts.specs.Outcomes.{distance_bytes}
use Rattle.layouts.proofs.Distances.{distance_size_lem}
use Rattle.layouts.proofs.put_distances.Goals as goal

pub loop-i-init : goal.loop-i-init
loop-i-init c = (omega arith, put_none _ (distance_size_lem c.args.distances.now))

pub overflow_mul-i : goal.overflow_mul-i
overflow_mul-i c = omega arith

pub put_number-requires : goal.put_number-requires
put_number-requires c =
    let (past, put) = c.loop-i.invariant in
    omega (arith, put_length put (omega arith))

pub loop-i-preserved : goal.loop-i-preserved
loop-i-preserved c = (omega arith, put_more c.loop-i.invariant.1 (omega arith) c.put_number.ensures)

pub shape_of-out : goal.shape_of-out
shape_of-out c = put_length c.loop-i.invariant.1 (omega arith)

pub returns : goal.returns
unfolding distance_bytes
returns c =
    let (past, put) = c.loop-i.invariant in
    put_all put past c.loop-i-test.false
