-- The figure's trouble comes before the job's; without either, the call by the figure's steps.
use Rattle.std.proofs.Common.{◌≡◌, ◌∙◌, sym, ap, refl}
use Rattle.fields.specs.Trouble.{Clear}
use Rattle.figures.specs.Figures.{Supplied, read_figure}
use Rattle.figures.proofs.Clear.{fourteen_fits}
use Rattle.job.proofs.WholeFile.{header_refuses}
use Rattle.job.proofs.ReadJobs.{place_fits}
use Rattle.output.proofs.Refusals.{file_told}
use Rattle.handing.proofs.Handing.{came_refused, came_same}
use Rattle.runs.proofs.Outcomes.{refused_by_reader, refused_by_figure, by_good_figure}
use Rattle.runs.proofs.reduce_by_figure.Goals as goal
use Rattle.runs.proofs.reduce_by_figure.Goals.{In_ok-supplied}

pub returns-in_err-supplied : goal.returns-in_err-supplied
returns-in_err-supplied c =
    let met = c.in_err-supplied.ensures in
    rw (file_told _ _ (fourteen_fits _ met refl) c.from_residual.ensures.1)
    (came_refused _ _ _ _ (refused_by_figure _ _ _ _ _ (sym (ap (λ (f : Supplied). f.trouble) met))))

-- the figure is in no trouble
clear : (c : In_ok-supplied) → (read_figure c.args.figure.now).trouble ≡ Clear
clear c = sym (ap (λ (f : Supplied). f.trouble) c.in_ok-supplied.ensures)

pub returns-in_err-trouble : goal.returns-in_err-trouble
returns-in_err-trouble c =
    let met = header_refuses _ (sym c.in_err-trouble.ensures) in
    rw (file_told _ _ (place_fits _ met) c.from_residual-in_err-trouble.ensures.1)
    (came_refused _ _ _ _ (sym (by_good_figure _ _ _ _ _ (clear (goal.at.returns-in_err-trouble c).In_ok-supplied)) ∙ refused_by_reader _ _ _ _ _ met))

pub returns : goal.returns
returns c =
    came_same (by_good_figure _ _ _ _ _ (clear (goal.at.returns c).In_ok-supplied)) (rw (ap (λ (f : Supplied). f.figure) c.in_ok-supplied.ensures) at c.reduce_by.ensures)
