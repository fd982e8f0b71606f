-- Why no rule has the number 13: it would have spoken of a line 6 of 0, and there is none.
use Rattle.std.specs.Prelude.{Some}
use Prim.Native.Nat.{ℕ, ◌≤◌}
use mathlib.Core.Path.{◌≡◌}
use mathlib.Core.Bool.{false≢true}
use Rattle.readings.specs.declared.headers.Version.{Version}
use Rattle.records.specs.declared.Run.{Run}
use Rattle.records.specs.InRange.{RunOk}
use Rattle.metering.proofs.DryVolume.{dry_some}
use Rattle.lines.specs.declared.Lines.{Lines}
use Rattle.lines.specs.Sheet.{lines}
use Rattle.choosing.specs.declared.Chosen.{Chosen}
use Rattle.factors.specs.Factor.{factor_of}
use Rattle.factors.specs.InRange.{ChosenOk}
use Rattle.factors.proofs.Values.{factor_range}
use Rattle.grounds.specs.Grounds.{broken}
use Rattle.rules.specs.Rules.{table, ground_of}
use Rattle.steps.specs.declared.Figure.{Figure}
use Rattle.findings.specs.Listing.{broken_at, findings, lines_for, HasFinding}
use Rattle.findings.proofs.Members.{listed_exactly}

-- For every run and certificates within the ranges, where line 3 is at least 1 and Y is known, line 6 is at least 1
pub line_6_at_least_1 : (v : Version) (r : Run) (ch : Chosen) → RunOk r → ChosenOk ch → 1 ≤ (lines_for v r ch).metering.corrected → (y : ℕ) → factor_of v ch ≡ Some y → (line6 : ℕ) × (((lines_for v r ch).metering.dry ≡ Some line6) × (1 ≤ line6))
unfolding lines_for lines
line_6_at_least_1 v r ch run certificates some y known =
    rw known (dry_some r y run ((factor_range v ch certificates).known y known).0 (rw known at some))

-- No list of findings holds a 13
pub no_finding_13 : (v : Version) (fig : Figure) (r : Run) (ch : Chosen) (l : Lines) (place : ℕ) → HasFinding (findings v fig r ch l) 13 place → ⊥
unfolding broken_at broken table ground_of
no_finding_13 v fig r ch l place has = false≢true ((listed_exactly v fig r ch l 13 place).0 has).broken
