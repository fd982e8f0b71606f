-- Outside the ranges nothing is written; inside them the layout's array holds the distances, and put_layout does the rest.
use borrow.Author.Rules.{rules}
use mathlib.Core.Path.{◌≡◌, sym, ◌∙◌}
use lib.ListN.{length}
use Rattle.traverse.specs.Layout.{most_distances}
use Rattle.layouts.specs.Outcomes.{rectangle_outcome}
use Rattle.layouts.proofs.Answers.{refused_outside, inside, held_few, held_front}
use Rattle.layouts.proofs.rectangle_layout.Goals as goal

pub rectangle_fits-requires : goal.rectangle_fits-requires
rectangle_fits-requires c = search rules

pub returns-then-not-rectangle_fits : goal.returns-then-not-rectangle_fits
unfolding rectangle_outcome
returns-then-not-rectangle_fits c =
    rw c.into.ensures (refused_outside _ _ _ (sym c.rectangle_fits.ensures ∙ c.if-not-rectangle_fits.true))

pub rectangle-requires : goal.rectangle-requires
rectangle-requires c = sym c.rectangle_fits.ensures ∙ c.if-not-rectangle_fits.false

pub put_layout-requires : goal.put_layout-requires
put_layout-requires c =
    let laid = c.rectangle in
    let long : length laid.result.distances ≡ most_distances = search rules in
    held_few laid.ensures long

pub shape_of-out : goal.shape_of-out
shape_of-out c = search rules

pub returns : goal.returns
unfolding rectangle_outcome
returns c =
    let laid = c.rectangle in
    let long : length laid.result.distances ≡ most_distances = search rules in
    let fits = sym c.rectangle_fits.ensures ∙ c.if-not-rectangle_fits.false in
    inside _ _ fits (rw (held_front laid.ensures long) at c.put_layout.ensures)
