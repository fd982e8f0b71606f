-- The loop writes one finding a turn.
use native.Mathlib.Omega.{arith}
use Rattle.output.proofs.Records.{put_none, put_length, put_more, put_all}
use Rattle.writing.specs.Bytes.{findings_bytes}
use Rattle.writing.proofs.Sizes.{finding_length}
use Rattle.writing.proofs.put_findings.Goals as goal

pub loop-i-init : goal.loop-i-init
loop-i-init c = (omega arith, c.requires, put_none _ (λ k. finding_length _))

pub overflow_mul-i : goal.overflow_mul-i
overflow_mul-i c = omega (arith, c.loop-i-test.true, c.loop-i.invariant.1)

pub put_finding-requires : goal.put_finding-requires
put_finding-requires c =
    let f = c.loop-i.invariant in
    let inside = c.loop-i-test.true in
    omega (arith, inside, f.1, put_length f.2 (omega (arith, inside, f.1)))

pub loop-i-preserved : goal.loop-i-preserved
loop-i-preserved c =
    let f = c.loop-i.invariant in
    let inside = c.loop-i-test.true in
    (omega (arith, inside), f.1, put_more f.2 (omega (arith, inside, f.1)) c.put_finding.ensures)

pub shape_of-out : goal.shape_of-out
shape_of-out c =
    let f = c.loop-i.invariant in
    put_length f.2 (omega (arith, f.0, f.1))

pub returns : goal.returns
unfolding findings_bytes
returns c =
    let f = c.loop-i.invariant in
    put_all f.2 f.0 c.loop-i-test.false
