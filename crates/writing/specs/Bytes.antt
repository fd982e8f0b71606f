-- Lines and findings as bytes (docs/RULES.md, A reduced run as bytes).
use Rattle.std.specs.Prelude.{Option, Some, None, ℤ, ℕ, ◌*◌, List, ◌∷◌, get_or}
use Rattle.output.specs.Bytes.{le, signed_bits, joined}
use Rattle.lines.specs.declared.Entry.{Entry}
use Rattle.lines.specs.declared.Sheet.{Sheet}
use Rattle.lines.specs.Sheet.{no_entry, line_count}
use Rattle.findings.specs.declared.Finding.{Finding}
use Rattle.findings.specs.Listing.{no_finding}

-- how many bytes a line and a finding have
abbrev pub line_size : ℕ
line_size = 9

abbrev pub finding_size : ℕ
finding_size = 4

-- a line: present 1 and its value, or absent 0 and 0
abbrev pub line_bytes : Option ℤ → List ℕ
line_bytes (Some z) = 1 ∷ le 8 (signed_bits z)
line_bytes None = 0 ∷ le 8 0

unfoldable pub entry_bytes : Entry → List ℕ
entry_bytes entry = line_bytes entry.line

-- A sheet: its twenty lines
unfoldable pub sheet_bytes : Sheet → List ℕ
sheet_bytes sheet = joined (λ i. entry_bytes (get_or sheet.entries i no_entry)) line_count

abbrev pub sheet_size : ℕ
sheet_size = line_size * line_count

-- a finding: rule, class, place
unfoldable pub finding_bytes : Finding → List ℕ
finding_bytes f = f.rule ∷ f.class ∷ le 2 f.place

-- the first n findings
unfoldable pub findings_bytes : List Finding → ℕ → List ℕ
findings_bytes fs n = joined (λ i. finding_bytes (get_or fs i no_finding)) n
