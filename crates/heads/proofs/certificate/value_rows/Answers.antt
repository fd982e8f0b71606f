-- One row after the other: each is the table's, and then its check is.
use mathlib.Core.Path.{◌∙◌}
use mathlib.Core.List.{[], ◌∷◌}
use Rattle.fields.specs.Trouble.{Clear, field, checks, first}
use Rattle.fields.proofs.Refusals.{adds}
use Rattle.heads.proofs.certificate.value_rows.Goals as goal

pub returns : goal.returns
unfolding checks first
returns c =
    let upto_2 = adds _ _ c.and.ensures c.field.ensures c.field-2.ensures in
    adds _ _ c.and-2.ensures upto_2 c.field-3.ensures
    ∙ (λ i.
    checks Clear
    (field 10 (c.good_first.ensures i)
    ∷ field 12 (c.good_later.ensures i)
    ∷ field 14 (c.good_later-2.ensures i)
    ∷ []))
