-- The loop writes one line a turn.
use Prim.Native.Nat.{◌≤◌}
use lib.ListN.{length, get_or}
use Rattle.output.proofs.Records.{Put}
use Rattle.lines.specs.Sheet.{no_entry, line_count}
use Rattle.writing.specs.Bytes.{line_size, sheet_size, entry_bytes}
use Rattle.writing.proofs.put_sheet.Given as goal

abbrev pub invariant-loop-i : goal.invariant-loop-i
invariant-loop-i l =
    (l.i ≤ line_count) × (sheet_size ≤ length l.initial.out) × Put (λ k. entry_bytes (get_or l.sheet.entries k no_entry)) line_size l.initial.out l.out l.i
