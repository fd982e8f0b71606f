-- Incomplete, or row by row.
use Prim.Native.Nat.{ℕ, ◌^◌, ◌<◌, ◌≤◌}
use mathlib.Core.Path.{◌≡◌, ◌∙◌, ap, ap₂}
use mathlib.Core.List.{List}
use native.Mathlib.Omega.{arith}
use lib.ListN.{length, drop}
use Rattle.fields.specs.Trouble.{Trouble, Clear, checks, record_trouble}
use Rattle.fields.specs.Refusals.{trouble_of}
use Rattle.fields.proofs.RecordTrouble.{short_at, whole_at, reach_at}
use Rattle.readings.specs.declared.headers.Version.{Version}
use Rattle.heads.specs.Values.{certificate_size, certificate}
use Rattle.heads.specs.Rows.{certificate_rows}
use Rattle.heads.proofs.Places.{certificate_within}
use Rattle.heads.proofs.certificate.trouble.Goals as goal
use Rattle.heads.proofs.certificate.trouble.Goals.{Else-t-size, After-rows}

-- in a file of a version
abbrev by : List ℕ → ℕ → Version → Trouble
by s at v = record_trouble s at (certificate_size v) (certificate_rows v (certificate v (drop at s)))

-- no fewer bytes left than the record has
whole : (c : Else-t-size) → certificate_size c.args.f.version ≤ length c.at-t.result.bytes.now
whole c =
    rw c.size.ensures at c.if-t-size.false

-- its rows are those of the record at its place
own : (c : After-rows) → trouble_of c.rows.result ≡ checks Clear (certificate_rows c.args.f.version (certificate c.args.f.version (drop c.args.at c.args.f.bytes.now)))
own c =
    let v = c.args.f.version in
    c.rows.ensures ∙ ap (λ r. checks Clear (certificate_rows v r)) (c.certificate.ensures ∙ ap₂ certificate c.at-t.ensures.1 c.at-t.ensures.0)

pub returns-then-t-size : goal.returns-then-t-size
returns-then-t-size c =
    rw c.number.ensures
    (short_at _ _ (certificate_size c.args.f.version) _ c.at-t.ensures.0 (rw c.size.ensures at c.if-t-size.true)
    ∙ ap (by c.args.f.bytes.now c.args.at) c.args.f.said)

pub from-requires : goal.from-requires
from-requires c =
    let at = goal.at.from-requires c in
    let rest = drop c.args.at c.args.f.bytes.now in
    let long : length c.args.f.bytes.now < 2 ^ 63 = omega (arith, c.well_formed.0.1) in
    reach_at _ _ (certificate_size c.args.f.version) _ c.at-t.ensures.0 (whole at.Else-t-size) long (omega arith) (certificate_within c.args.f.version (certificate c.args.f.version rest)) (own at.After-rows)

pub returns : goal.returns
returns c =
    let at = goal.at.returns c in
    whole_at _ _ (certificate_size c.args.f.version) _ c.at-t.ensures.0 (whole at.Else-t-size) (own at.After-rows) c.from.ensures
    ∙ ap (by c.args.f.bytes.now c.args.at) c.args.f.said
