-- Line 16. Missing without a certificate; else the rounded area.
use Rattle.values.proofs.Promise.{is_missing, is_known}
use Rattle.sampling.proofs.Cases.{area_missing, area_known}
use Rattle.sampling.proofs.Products.{sum_range, is_area}
use Rattle.sampling.proofs.nozzle_area.Goals as goal

pub returns-in_err-d : goal.returns-in_err-d
returns-in_err-d c = is_missing (area_missing c.in_err-d.was) c.from_residual.ensures

pub returns : goal.returns
returns c =
    let range = sum_range _ c.requires c.in_ok-d.was in
    is_known (is_area range.0 range.1 c.round_div.ensures) (area_known c.in_ok-d.was)
