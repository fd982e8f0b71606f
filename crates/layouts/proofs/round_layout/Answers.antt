-- Outside the ranges nothing is written; inside them the layout's array holds the distances, and put_layout does the rest.
use borrow.Author.Rules.{rules}
use mathlib.Core.Path.{◌≡◌, sym, ◌∙◌}
use lib.ListN.{length}
use Rattle.traverse.specs.Layout.{most_distances}
use Rattle.layouts.specs.Outcomes.{round_outcome}
use Rattle.layouts.proofs.Answers.{refused_outside, inside, held_few, held_front}
use Rattle.layouts.proofs.round_layout.Goals as goal

pub round_fits-requires : goal.round_fits-requires
round_fits-requires c = search rules

pub returns-then-not-round_fits : goal.returns-then-not-round_fits
unfolding round_outcome
returns-then-not-round_fits c =
    rw c.into.ensures (refused_outside _ _ _ (sym c.round_fits.ensures ∙ c.if-not-round_fits.true))

pub round-requires : goal.round-requires
round-requires c = sym c.round_fits.ensures ∙ c.if-not-round_fits.false

pub put_layout-requires : goal.put_layout-requires
put_layout-requires c =
    let laid = c.round in
    let long : length laid.result.distances ≡ most_distances = search rules in
    held_few laid.ensures long

pub shape_of-out : goal.shape_of-out
shape_of-out c = search rules

pub returns : goal.returns
unfolding round_outcome
returns c =
    let laid = c.round in
    let long : length laid.result.distances ≡ most_distances = search rules in
    let fits = sym c.round_fits.ensures ∙ c.if-not-round_fits.false in
    inside _ _ fits (rw (held_front laid.ensures long) at c.put_layout.ensures)
