-- The three parts of the sheet, from a run in range and the values of its certificates.
use native.Mathlib.Omega.{arith}
use mathlib.Core.Path.{◌∙◌}
use Rattle.std.proofs.Common.{length-take}
use Rattle.stack.proofs.Pressure.{pressure_bits}
use Rattle.stack.proofs.Taken.{traverse_taken, stack_taken}
use Rattle.lines.proofs.RunInRange.{traverse_ok}
use Rattle.lines.proofs.Together.{is_lines}
use Rattle.lines.proofs.sheets.lines.Goals as goal

pub stack-s-requires-clause-traverse : goal.stack-s-requires-clause-traverse
stack-s-requires-clause-traverse c =
    let ok = traverse_ok _ c.requires.run in traverse_taken _ _ (omega (arith, length-take c.args.run.now.header.counts.points c.args.run.now.points)) ok

pub returns : goal.returns
returns c =
    let m = c.metering-m.ensures in
    let s = c.stack-s.ensures in
    let p = c.sampling.ensures in
    let same = stack_taken _ _ (omega (arith, length-take c.args.run.now.header.counts.points c.args.run.now.points)) _ _ _ _ _ _ in (
      is_lines _ _ _ _ (pressure_bits _ c.requires.run.header.pg) m.0 (rw c.of.ensures at (s.0 ∙ same)) p.0,
      record { metering = m.1; stack = s.1; sampling = p.1 },
    )
