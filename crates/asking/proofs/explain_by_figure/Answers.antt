-- The figure's trouble comes before the job is read.
use Rattle.std.proofs.Common.{refl, sym, ap}
use Rattle.figures.specs.Figures.{Supplied}
use Rattle.figures.proofs.Clear.{fourteen_fits}
use Rattle.output.proofs.Refusals.{file_told}
use Rattle.asking.proofs.Outcomes.{refused_by_figure}
use Rattle.asking.proofs.explain_by_figure.Goals as goal

pub returns-in_err-read : goal.returns-in_err-read
returns-in_err-read g c =
    let met = c.in_err-read.ensures in
    rw (file_told _ _ (fourteen_fits _ met refl) c.from_residual.ensures.1)
    (refused_by_figure _ _ _ _ _ _ _ (sym (ap (λ (f : Supplied). f.trouble) met)))
