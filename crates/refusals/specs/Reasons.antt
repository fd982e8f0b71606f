-- The number of each reason to refuse (docs/RULES.md, Refusals).
use Rattle.std.specs.Prelude.{ℕ}
use Rattle.refusals.specs.declared.Reason.{Reason}
use Rattle.refusals.specs.declared.Reason.TheVariants.{Incomplete, Mark, Version, Count, Field, Repeated, Seconds, LeftOver, ShortOutput, UnknownRun, OutsideRanges, Figure, UnknownFinding}

-- no two reasons have one number: reason_apart of the proofs
abbrev pub reason_number : Reason → ℕ
reason_number Incomplete = 1
reason_number Mark = 2
reason_number Version = 3
reason_number Count = 4
reason_number Field = 5
reason_number Repeated = 6
reason_number Seconds = 7
reason_number LeftOver = 8
reason_number ShortOutput = 9
reason_number UnknownRun = 10
reason_number OutsideRanges = 11
reason_number Figure = 14
reason_number UnknownFinding = 15
