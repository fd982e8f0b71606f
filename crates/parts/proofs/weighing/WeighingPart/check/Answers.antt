-- One row after the other: each is the table's, and then its check is.
use mathlib.Core.Path.{◌∙◌, ap}
use mathlib.Core.List.{[], ◌∷◌}
use Rattle.fields.specs.Trouble.{Clear, field, checks, first}
use Rattle.fields.proofs.Refusals.{adds}
use Rattle.fields.specs.Numbers.{byte_at}
use Rattle.readings.specs.Ranges.{unused}
use Rattle.parts.specs.Rows.{weighing_rows}
use Rattle.parts.proofs.weighing.WeighingPart.check.Goals as goal

pub returns : goal.returns
unfolding checks first
returns c =
    let upto_2 = adds _ _ c.and.ensures c.field.ensures c.field-2.ensures in
    let upto_3 = adds _ _ c.and-2.ensures upto_2 c.field-3.ensures in
    let upto_4 = adds _ _ c.and-3.ensures upto_3 c.field-4.ensures in
    adds _ _ c.and-4.ensures upto_4 c.field-5.ensures
    ∙ (λ i.
    checks Clear
    (field 0 (c.check.ensures i)
    ∷ field 1 ((c.check-2.ensures ∙ ap unused c.byte.ensures) i)
    ∷ field 2 (c.check-3.ensures i)
    ∷ field 6 (c.check-4.ensures i)
    ∷ field 10 (c.check-5.ensures i)
    ∷ []))
    ∙ ap (λ w. checks Clear (weighing_rows w (byte_at c.args.t.now 1))) c.read-w.ensures
