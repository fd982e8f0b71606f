-- One row after the other: each is the table's, and then its check is.
use mathlib.Core.Path.{◌∙◌, ap}
use mathlib.Core.List.{[], ◌∷◌}
use Rattle.fields.specs.Trouble.{Clear, field, checks, first}
use Rattle.fields.proofs.Refusals.{adds}
use Rattle.parts.specs.Rows.{segment_rows}
use Rattle.parts.proofs.segment.SegmentPart.check.Goals as goal

pub returns : goal.returns
unfolding checks first
returns c =
    adds _ _ c.and.ensures c.field.ensures c.field-2.ensures
    ∙ (λ i.
    checks Clear
    (field 0 (c.check.ensures i)
    ∷ field 2 (c.check-2.ensures i)
    ∷ []))
    ∙ ap (λ g. checks Clear (segment_rows g)) c.read-g.ensures
