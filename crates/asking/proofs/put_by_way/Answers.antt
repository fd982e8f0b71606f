-- The explanation is written beside the output, and handed over.
use Rattle.std.proofs.Common.{ℕ, ◌≤◌, length, sym, arith}
use lib.ListN.{length-replicate}
use lib.Seq.{length-take-le}
use Rattle.characters.proofs.Texts.{taken_front, within_front}
use Rattle.explanations.proofs.Lengths.{written_short}
use Rattle.asking.proofs.put_by_way.Given.{Over}
use Rattle.asking.proofs.put_by_way.Goals as goal
use Rattle.asking.proofs.put_by_way.Goals.{After-put_explanation-end}

inside : (g : Over) (c : After-put_explanation-end g) → c.put_explanation-end.result ≤ length c.put_explanation-end.new.out
inside g c =
    let size = length-replicate {A = ℕ} 1024 0 in
    within_front c.put_explanation-end.ensures (omega (arith, size, written_short g.F.Form.form c.args.e))

pub put_explanation-end-requires : goal.put_explanation-end-requires
put_explanation-end-requires g c =
    record { fits = omega (arith, length-replicate {A = ℕ} 1024 0, written_short g.F.Form.form c.args.e) }

pub slice_bounds-way-end : goal.slice_bounds-way-end
slice_bounds-way-end g c = inside g (goal.at.slice_bounds-way-end g c).After-put_explanation-end

pub slice_bounds-hand_over-end : goal.slice_bounds-hand_over-end
slice_bounds-hand_over-end g c =
    sym (length-take-le _ _ (inside g (goal.at.slice_bounds-hand_over-end g c).After-put_explanation-end))

pub returns : goal.returns
returns g c = rw (taken_front c.put_explanation-end.ensures) at c.hand_over.ensures
