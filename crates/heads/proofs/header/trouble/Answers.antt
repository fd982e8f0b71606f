-- Incomplete, or row by row.
use Prim.Native.Nat.{ℕ, ◌^◌, ◌<◌, ◌≤◌}
use mathlib.Core.Path.{◌≡◌, ◌∙◌, ap, ap₂}
use mathlib.Core.List.{List}
use native.Mathlib.Omega.{arith}
use lib.ListN.{length, drop}
use Rattle.fields.specs.Numbers.{byte_at}
use Rattle.fields.specs.Trouble.{Trouble, Clear, checks, record_trouble}
use Rattle.fields.specs.Refusals.{trouble_of}
use Rattle.fields.proofs.RecordTrouble.{short_at, whole_at, reach_at}
use Rattle.readings.specs.declared.headers.Version.{Version}
use Rattle.identities.specs.Identities.{behind}
use Rattle.heads.specs.Values.{run_header_size, header, spare_byte}
use Rattle.heads.specs.Rows.{header_rows}
use Rattle.heads.proofs.Places.{header_within}
use Rattle.heads.proofs.header.trouble.Goals as goal
use Rattle.heads.proofs.header.trouble.Goals.{Else-t-size, After-rows}

-- in a file of a version
abbrev by : List ℕ → ℕ → Version → Trouble
by s at v = record_trouble s at (run_header_size v) (header_rows v (header v (drop at s)) (spare_byte v (drop at s)))

-- no fewer bytes left than the record has
whole : (c : Else-t-size) → run_header_size c.args.f.version ≤ length c.at-t.result.bytes.now
whole c =
    rw c.size.ensures at c.if-t-size.false

-- its rows are those of the record at its place
own : (c : After-rows) → trouble_of c.rows.result ≡ checks Clear (header_rows c.args.f.version (header c.args.f.version (drop c.args.at c.args.f.bytes.now)) (spare_byte c.args.f.version (drop c.args.at c.args.f.bytes.now)))
own c =
    let v = c.args.f.version in
    let rest = c.of.ensures ∙ ap₂ (λ (v : Version) (t : List ℕ). behind v 3 t) c.at-t.ensures.1 c.at-t.ensures.0 in
    c.rows.ensures
    ∙ ap₂ (λ h b. checks Clear (header_rows v h b))
    (c.header.ensures ∙ ap₂ header c.at-t.ensures.1 c.at-t.ensures.0)
    (c.byte-spare.ensures ∙ ap (λ (t : List ℕ). byte_at t 63) rest)

pub returns-then-t-size : goal.returns-then-t-size
returns-then-t-size c =
    rw c.number.ensures
    (short_at _ _ (run_header_size c.args.f.version) _ c.at-t.ensures.0 (rw c.size.ensures at c.if-t-size.true)
    ∙ ap (by c.args.f.bytes.now c.args.at) c.args.f.said)

pub from-requires : goal.from-requires
from-requires c =
    let at = goal.at.from-requires c in
    let rest = drop c.args.at c.args.f.bytes.now in
    let long : length c.args.f.bytes.now < 2 ^ 63 = omega (arith, c.well_formed.0.1) in
    reach_at _ _ (run_header_size c.args.f.version) _ c.at-t.ensures.0 (whole at.Else-t-size) long (omega arith) (header_within c.args.f.version (header c.args.f.version rest) (spare_byte c.args.f.version rest)) (own at.After-rows)

pub returns : goal.returns
returns c =
    let at = goal.at.returns c in
    whole_at _ _ (run_header_size c.args.f.version) _ c.at-t.ensures.0 (whole at.Else-t-size) (own at.After-rows) c.from.ensures
    ∙ ap (by c.args.f.bytes.now c.args.at) c.args.f.said
