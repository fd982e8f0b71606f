-- The loop writes one line a turn.
use Prim.Native.Nat.{◌≤◌}
use Rattle.lines.specs.Sheet.{line_count}
use Rattle.output.specs.Bytes.{joined}
use Rattle.characters.specs.Writing.{Wrote}
use Rattle.text.specs.Sheets.{line_at}
use Rattle.text.proofs.sheets.put_sheet.Given as goal

abbrev pub invariant-loop-i : goal.invariant-loop-i
invariant-loop-i l =
    (l.i ≤ line_count) × Wrote l.fn.to (joined (line_at l.sheet.entries) l.i) l.to
