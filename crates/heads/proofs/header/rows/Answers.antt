-- The number and the identities, each row as the table's; those behind the identities are moved along.
use Prim.Native.Nat.{ℕ, ◌+◌, ◌≤◌}
use mathlib.Core.Path.{◌≡◌, refl, ◌∙◌, ap, ap₂}
use mathlib.Core.Bool.{Bool}
use mathlib.Core.List.{List, ◌∷◌, ◌++◌}
use native.Mathlib.Omega.{arith}
use Rattle.fields.specs.Trouble.{Trouble, Clear, Row, field_range, field, trouble_unless, first, checks, trouble_place}
use Rattle.fields.specs.Refusals.{trouble_of}
use Rattle.fields.proofs.FirstTrouble.{then_met, then_passed, checks_reach}
use Rattle.fields.proofs.Refusals.{handed}
use Rattle.readings.specs.declared.headers.Version.{Version}
use Rattle.readings.specs.Ranges.{run_number}
use Rattle.records.specs.declared.RunHeader.{RunHeader}
use Rattle.opening.specs.Opening.{letters}
use Rattle.opening.proofs.HowMany.{few}
use Rattle.identities.specs.Identities.{identity_rows}
use Rattle.heads.specs.Rows.{reading_rows}
use Rattle.heads.proofs.header.rows.Goals as goal
use Rattle.heads.proofs.header.rows.Goals.{After-rows-met-2}

-- run number and identities
abbrev front : Version → RunHeader → List Row
front v h =
    field 0 (run_number h.number)
    ∷ identity_rows 4 h.meter
    ++ identity_rows (11 + letters v 1) h.pitot
    ++ identity_rows (18 + letters v 2) h.nozzle

-- what the code looks at, one after the other, is these rows, wherever the last identity stands
in_front :
    (c : After-rows-met-2) {l : ℕ} {t : Trouble}
    → l ≡ letters c.args.v 2
    → t ≡ checks (trouble_of c.rows-met-2.result) (identity_rows (18 + l) c.args.h.nozzle)
    → t ≡ checks Clear (front c.args.v c.args.h)
unfolding checks first
in_front c e f =
    let h = c.args.h in
    let row0 = c.field-met.ensures ∙ ap (λ (b : Bool). trouble_unless b field_range 0) c.check.ensures in
    let row4 = c.rows-met.ensures ∙ ap (λ (u : Trouble). checks u (identity_rows 4 h.meter)) row0 in
    let row11 = c.rows-met-2.ensures ∙ ap₂ (λ (u : Trouble) (k : ℕ). checks u (identity_rows (11 + k) h.pitot)) row4 c.letters.ensures in
    f ∙ ap₂ (λ (u : Trouble) (k : ℕ). checks u (identity_rows (18 + k) h.nozzle)) row11 e

pub returns-in_err-rows : goal.returns-in_err-rows
returns-in_err-rows c =
    let told = in_front (goal.at.returns-in_err-rows c).After-rows-met-2 c.letters-2.ensures c.in_err-rows.ensures in
    then_met (front c.args.v c.args.h) (letters c.args.v 3) (reading_rows c.args.h c.args.spare) (handed _ _ c.from_residual.ensures.1 told) (handed _ _ c.from_residual.ensures.1 refl)

pub from-requires : goal.from-requires
from-requires c =
    let reach : trouble_place (trouble_of c.reading_rows.result) ≤ 63 = rw c.reading_rows.ensures (checks_reach 63 (reading_rows c.args.h c.args.spare) refl) in
    omega (arith, few c.args.v 3, c.letters-3.ensures)

pub returns : goal.returns
returns c =
    let clear = in_front (goal.at.returns c).After-rows-met-2 c.letters-2.ensures c.in_ok-rows.ensures in
    then_passed (front c.args.v c.args.h) (letters c.args.v 3) (reading_rows c.args.h c.args.spare) clear refl c.reading_rows.ensures c.letters-3.ensures c.from.ensures
