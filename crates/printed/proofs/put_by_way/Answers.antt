-- The text is written beside the output, and handed over.
use Rattle.std.proofs.Common.{ℕ, ◌≡◌, ◌≤◌, length, take, sym, ◌∙◌, arith}
use lib.ListN.{length-replicate}
use lib.Seq.{length-take-le}
use Rattle.characters.proofs.Texts.{taken_front, within_front}
use Rattle.printing.specs.Jobs.{job_text}
use Rattle.printing.proofs.Lengths.{text_most}
use Rattle.printing.proofs.ClearJobs.{text_of_runs}
use Rattle.printed.proofs.put_by_way.Goals as goal
use Rattle.printed.proofs.put_by_way.Goals.{After-put_runs-end}

-- the text of the job stands beside the output, and is no longer than the room there
text : (c : After-put_runs-end) → take c.put_runs-end.result c.put_runs-end.new.out ≡ job_text c.args.figure c.args.read.file.bytes.now
text c = taken_front c.put_runs-end.ensures ∙ text_of_runs _ _ _ c.args.read.clear

inside : (c : After-put_runs-end) → c.put_runs-end.result ≤ length c.put_runs-end.new.out
inside c =
    let size = length-replicate {A = ℕ} 27088 0 in
    let short = text_most c.args.figure c.args.read.file.bytes.now in
    within_front c.put_runs-end.ensures (rw (text_of_runs c.args.figure _ _ c.args.read.clear) (omega (arith, size, short)))

pub slice_bounds-way-end : goal.slice_bounds-way-end
slice_bounds-way-end c = inside (goal.at.slice_bounds-way-end c).After-put_runs-end

pub slice_bounds-hand_over-end : goal.slice_bounds-hand_over-end
slice_bounds-hand_over-end c =
    sym (length-take-le _ _ (inside (goal.at.slice_bounds-hand_over-end c).After-put_runs-end))

pub hand_over-requires : goal.hand_over-requires
hand_over-requires c =
    let place = (goal.at.hand_over-requires c).After-put_runs-end in
    rw (text place) (omega (arith, text_most c.args.figure c.args.read.file.bytes.now))

pub returns : goal.returns
returns c = rw (text (goal.at.returns c).After-put_runs-end) at c.hand_over.ensures
