-- One row after the other: each is the table's, and then its check is; the signed field is read back from its bits.
use mathlib.Core.Path.{refl, ◌∙◌, ap}
use borrow.Author.Rules.{rules}
use mathlib.Core.List.{[], ◌∷◌}
use Rattle.fields.specs.Trouble.{Clear, count, field, checks, first}
use Rattle.fields.proofs.Refusals.{adds}
use Rattle.fields.proofs.SignedFields.{read_back}
use Rattle.readings.specs.Ranges.{static_pressure}
use Rattle.heads.proofs.header.reading_rows.Goals as goal

pub returns : goal.returns
unfolding checks first
returns c =
    let low = c.check-2.ensures ∙ ap static_pressure (read_back (search rules) refl) in
    let upto_2 = adds _ _ c.and.ensures c.field.ensures c.field-2.ensures in
    let upto_3 = adds _ _ c.and-2.ensures upto_2 c.field-3.ensures in
    let upto_4 = adds _ _ c.and-3.ensures upto_3 c.field-4.ensures in
    let upto_5 = adds _ _ c.and-4.ensures upto_4 c.field-5.ensures in
    let upto_6 = adds _ _ c.and-5.ensures upto_5 c.field-6.ensures in
    let upto_7 = adds _ _ c.and-6.ensures upto_6 c.field-7.ensures in
    let upto_8 = adds _ _ c.and-7.ensures upto_7 c.field-8.ensures in
    let upto_9 = adds _ _ c.and-8.ensures upto_8 c.field-9.ensures in
    let upto_10 = adds _ _ c.and-9.ensures upto_9 c.field-10.ensures in
    let upto_11 = adds _ _ c.and-10.ensures upto_10 c.field-11.ensures in
    let upto_12 = adds _ _ c.and-11.ensures upto_11 c.field-12.ensures in
    let upto_13 = adds _ _ c.and-12.ensures upto_12 c.field-13.ensures in
    let upto_14 = adds _ _ c.and-13.ensures upto_13 c.count.ensures in
    let upto_15 = adds _ _ c.and-14.ensures upto_14 c.count-2.ensures in
    let upto_16 = adds _ _ c.and-15.ensures upto_15 c.count-3.ensures in
    adds _ _ c.and-16.ensures upto_16 c.field-14.ensures
    ∙ (λ i.
    checks Clear
    (field 25 (c.check.ensures i)
    ∷ field 27 (low i)
    ∷ field 29 (c.check-3.ensures i)
    ∷ field 31 (c.check-4.ensures i)
    ∷ field 33 (c.check-5.ensures i)
    ∷ field 37 (c.check-6.ensures i)
    ∷ field 41 (c.check-7.ensures i)
    ∷ field 43 (c.check-8.ensures i)
    ∷ field 44 (c.check-9.ensures i)
    ∷ field 46 (c.check_second.ensures i)
    ∷ field 54 (c.check-10.ensures i)
    ∷ field 56 (c.check-11.ensures i)
    ∷ field 58 (c.check-12.ensures i)
    ∷ count 60 (c.check-13.ensures i)
    ∷ count 61 (c.check-14.ensures i)
    ∷ count 62 (c.check-15.ensures i)
    ∷ field 63 (c.check-16.ensures i)
    ∷ []))
