-- The trouble met so far, and then one row after the other: each is the table's, and then its check is.
use Prim.Native.Nat.{◌+◌}
use mathlib.Core.Path.{refl, ◌∙◌}
use mathlib.Core.List.{[], ◌∷◌}
use Rattle.fields.specs.Trouble.{field, checks, first}
use Rattle.fields.specs.Refusals.{trouble_of}
use Rattle.fields.proofs.Refusals.{adds}
use Rattle.identities.proofs.rows.Goals as goal

pub returns : goal.returns
unfolding checks first
returns c =
    let upto_1 = adds _ _ c.and.ensures refl c.field.ensures in
    let upto_2 = adds _ _ c.and-2.ensures upto_1 c.field-2.ensures in
    adds _ _ c.and-3.ensures upto_2 c.field-3.ensures
    ∙ (λ i.
    checks (trouble_of c.args.met)
    (field c.args.at (c.maker_letters.ensures i)
    ∷ field (c.args.at + 3) (c.check.ensures i)
    ∷ field (c.args.at + 7) (c.check-2.ensures i)
    ∷ []))
