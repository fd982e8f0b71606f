-- The kind and the identity, each row as the table's; those behind the identity are moved along.
use Prim.Native.Nat.{◌≤◌}
use mathlib.Core.Path.{◌≡◌, refl, ◌∙◌, ap}
use mathlib.Core.Bool.{Bool}
use mathlib.Core.List.{List, ◌∷◌}
use native.Mathlib.Omega.{arith}
use Rattle.fields.specs.Trouble.{Trouble, Clear, Row, field_range, field, trouble_unless, first, checks, trouble_place}
use Rattle.fields.specs.Refusals.{trouble_of}
use Rattle.fields.proofs.FirstTrouble.{then_met, then_passed, checks_reach}
use Rattle.fields.proofs.Refusals.{handed}
use Rattle.readings.specs.Ranges.{certificate_kind}
use Rattle.records.specs.declared.Certificate.{Certificate}
use Rattle.opening.specs.Opening.{letters}
use Rattle.opening.proofs.HowMany.{few}
use Rattle.identities.specs.Identities.{identity_rows}
use Rattle.heads.specs.Rows.{value_rows}
use Rattle.heads.proofs.certificate.rows.Goals as goal

-- kind and identity
abbrev front : Certificate → List Row
front r = field 0 (certificate_kind r.kind) ∷ identity_rows 1 r.identity

-- what the code looks at, one after the other, is these rows
in_front : (r : Certificate) {kind : Bool} {t u : Trouble} → kind ≡ certificate_kind r.kind → t ≡ trouble_unless kind field_range 0 → u ≡ checks t (identity_rows 1 r.identity) → u ≡ checks Clear (front r)
unfolding checks first
in_front r e f g =
    g ∙ ap (λ (t : Trouble). checks t (identity_rows 1 r.identity)) (f ∙ ap (λ (b : Bool). trouble_unless b field_range 0) e)

pub returns-in_err-rows : goal.returns-in_err-rows
returns-in_err-rows c =
    let told = in_front c.args.c c.check.ensures c.field-met.ensures c.in_err-rows.ensures in
    then_met (front c.args.c) (letters c.args.v 1) (value_rows c.args.c) (handed _ _ c.from_residual.ensures.1 told) (handed _ _ c.from_residual.ensures.1 refl)

pub from-requires : goal.from-requires
from-requires c =
    let reach : trouble_place (trouble_of c.value_rows.result) ≤ 14 = rw c.value_rows.ensures (checks_reach 14 (value_rows c.args.c) refl) in
    omega (arith, few c.args.v 1, c.letters.ensures)

pub returns : goal.returns
returns c =
    let clear = in_front c.args.c c.check.ensures c.field-met.ensures c.in_ok-rows.ensures in
    then_passed (front c.args.c) (letters c.args.v 1) (value_rows c.args.c) clear refl c.value_rows.ensures c.letters.ensures c.from.ensures
