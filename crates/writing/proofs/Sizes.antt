-- How long a line and a finding are.
use Rattle.std.specs.Prelude.{Option, Some, None, ℤ}
use Prim.Native.Nat.{suc}
use mathlib.Core.Path.{◌≡◌, ap}
use lib.ListN.{length}
use Rattle.output.specs.Bytes.{signed_bits}
use Rattle.output.proofs.Bytes.{length_le}
use Rattle.lines.specs.declared.Entry.{Entry}
use Rattle.findings.specs.declared.Finding.{Finding}
use Rattle.writing.specs.Bytes.{line_size, finding_size, line_bytes, entry_bytes, finding_bytes}

line_length : (line : Option ℤ) → length (line_bytes line) ≡ line_size
line_length (Some z) = ap suc (length_le 8 (signed_bits z))
line_length None = ap suc (length_le 8 0)

pub entry_length : (entry : Entry) → length (entry_bytes entry) ≡ line_size
unfolding entry_bytes
entry_length entry = line_length entry.line

pub finding_length : (f : Finding) → length (finding_bytes f) ≡ finding_size
unfolding finding_bytes
finding_length f = ap (λ n. suc (suc n)) (length_le 2 f.place)
