-- A call's refusals, and its answer as one 64-bit number.
use Rattle.std.specs.Prelude.{ℕ, ◌+◌, ◌*◌, ◌/◌, ◌%◌, Result, Ok, Err}
use Rattle.output.specs.declared.Refusal.{Refusal}

-- what a call answers: done, with a number; or refused, with its number and the place
pub data Answer : Type 0 where
  Done : ℕ → Answer
  Refused : ℕ → ℕ → Answer

-- the answer that the code tells: of a refusal, its number in the high 32 bits and its place in the low ones
abbrev pub answer_told : Result ℕ Refusal → Answer
answer_told (Ok value) = Done value
answer_told (Err r) = Refused (r.told / 4294967296) (r.told % 4294967296)

-- The refusal numbers of a call, behind those of a file

-- a lent output is too short
abbrev pub short_output : ℕ
short_output = 9

-- no run of that number
abbrev pub unknown_run : ℕ
unknown_run = 10

-- a traverse layout outside its ranges
abbrev pub outside_ranges : ℕ
outside_ranges = 11

-- the run does not have that finding
abbrev pub unknown_finding : ℕ
unknown_finding = 15

-- the refusal's number in the high 32 bits, 0 for none; its place, or the value, in the low 32
unfoldable pub packed : Answer → ℕ
packed (Done value) = value
packed (Refused number place) = number * 4294967296 + place
