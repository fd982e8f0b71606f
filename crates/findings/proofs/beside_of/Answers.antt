-- The filters and the rinses are counted among the run's weighings, which its list has room for.
use Prim.Native.Nat.{◌≤◌}
use mathlib.Core.Path.{◌∙◌}
use native.Mathlib.Omega.{arith}
use Rattle.std.proofs.Common.{length, length-take}
use Rattle.findings.specs.Listing.{beside_of}
use Rattle.findings.proofs.Counted.{kind_taken}
use Rattle.findings.proofs.beside_of.Goals as goal

pub returns : goal.returns
unfolding beside_of
returns c =
    let run = c.args.run.now in
    let whole : run.header.counts.weighings ≤ length run.weighings = omega (arith, length-take run.header.counts.weighings run.weighings) in
    λ i.
    record {
      chosen = c.args.chosen;
      lines = c.args.lines;
      site = run.header.site;
      counts = run.header.counts;
      filters = (c.of_kind.ensures ∙ kind_taken _ _ _ whole) i;
      rinses = (c.of_kind-2.ensures ∙ kind_taken _ _ _ whole) i;
      least = c.minimum_points.ensures i;
    }
