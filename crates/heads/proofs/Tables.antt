-- The trouble of a certificate and of a run's header, part by part: what the code answers early, and what it goes on to.
use Prim.Native.Nat.{ℕ, ◌+◌}
use mathlib.Core.Path.{◌≡◌, ◌∙◌, ap}
use mathlib.Core.List.{List, ◌++◌}
use Rattle.fields.specs.Trouble.{Clear, Row, field_range, trouble_unless, first, moved_along, checks, from}
use Rattle.fields.proofs.FirstTrouble.{checks_first, checks_parts, checks_then}
use Rattle.readings.specs.Ranges.{certificate_kind, run_number}
use Rattle.readings.specs.declared.headers.Version.{Version}
use Rattle.records.specs.declared.Certificate.{Certificate}
use Rattle.records.specs.declared.RunHeader.{RunHeader}
use Rattle.opening.specs.Opening.{letters}
use Rattle.identities.specs.Identities.{identity_rows}
use Rattle.heads.specs.Rows.{value_rows, certificate_rows, reading_rows, header_rows}

-- kind, identity, and what stands behind it
pub certificate_parts :
    (v : Version) (c : Certificate)
    → checks Clear (certificate_rows v c)
    ≡ first (trouble_unless (certificate_kind c.kind) field_range 0)
    (first (checks Clear (identity_rows 1 c.identity)) (from (letters v 1) (checks Clear (value_rows c))))
unfolding checks first
certificate_parts v c =
    checks_first (trouble_unless (certificate_kind c.kind) field_range 0) (identity_rows 1 c.identity ++ moved_along (letters v 1) (value_rows c))
    ∙ ap (first _) (checks_then (identity_rows 1 c.identity) (letters v 1) (value_rows c))

-- number, three identities, and what stands behind them
pub header_parts :
    (v : Version) (h : RunHeader) (spare : ℕ)
    → checks Clear (header_rows v h spare)
    ≡ first (trouble_unless (run_number h.number) field_range 0)
    (first (checks Clear (identity_rows 4 h.meter))
    (first (checks Clear (identity_rows (11 + letters v 1) h.pitot))
    (first (checks Clear (identity_rows (18 + letters v 2) h.nozzle)) (from (letters v 3) (checks Clear (reading_rows h spare))))))
unfolding checks first
header_parts v h spare =
    let pitot : List Row = identity_rows (11 + letters v 1) h.pitot in
    let nozzle : List Row = identity_rows (18 + letters v 2) h.nozzle in
    let behind : List Row = moved_along (letters v 3) (reading_rows h spare) in
    checks_first (trouble_unless (run_number h.number) field_range 0) (identity_rows 4 h.meter ++ (pitot ++ (nozzle ++ behind)))
    ∙ ap (first _)
    (checks_parts (identity_rows 4 h.meter) (pitot ++ (nozzle ++ behind))
    ∙ ap (first _)
    (checks_parts pitot (nozzle ++ behind)
    ∙ ap (first _) (checks_then nozzle (letters v 3) (reading_rows h spare))))
