-- Too short is refused before anything is written; otherwise the counted distances are written and four bytes answered for each.
use borrow.Author.Rules.{rules}
use mathlib.Core.Path.{◌≡◌}
use native.Mathlib.Omega.{arith}
use lib.ListN.{length, take}
use lib.Seq.{length-take-le}
use Rattle.traverse.specs.Layout.{most_distances}
use Rattle.layouts.proofs.Answers.{refused_short, laid_out}
use Rattle.layouts.proofs.put_layout.Goals as goal
use Rattle.layouts.proofs.put_layout.Goals.{Start}

-- the array has as many distances as are counted
counted : (c : Start) → length (take c.args.layout.count c.args.layout.distances) ≡ c.args.layout.count
counted c =
    let long : length c.args.layout.distances ≡ most_distances = search rules in
    length-take-le _ _ (omega (arith, c.requires))

pub returns-then-out-size : goal.returns-then-out-size
returns-then-out-size c =
    rw c.into.ensures (refused_short _ _ (counted (goal.at.returns-then-out-size c).Start) c.if-out-size.true)

pub put_distances-requires : goal.put_distances-requires
put_distances-requires c = rw (counted (goal.at.put_distances-requires c).Start) c.if-out-size.false

pub returns : goal.returns
returns c = laid_out _ _ (counted (goal.at.returns c).Start) c.if-out-size.false c.put_distances.ensures
