-- How long a part of an explanation can be, in either form.
use Prim.Native.Nat.{ℕ, ◌≤◌}
use mathlib.Core.Bool.{Bool}
use native.Mathlib.Omega.{arith}
use lib.ListN.{length}
use Rattle.grounds.specs.Showing.{Condition}
use Rattle.dates.specs.declared.Day.{Day}
use Rattle.dates.proofs.Entries.{one_a_side}
use Rattle.text.proofs.Lengths.{any_finding_short}
use Rattle.reasons.proofs.Lengths.{condition_bytes_length, day_bytes_length, condition_text_short, day_text_short}
use Rattle.explaining.specs.declared.Explanation.{Explanation}
use Rattle.forms.specs.Forms.{Form, Bytes, Text, head_in, condition_in, day_in}

pub head_short : (form : Form) (e : Explanation) → length (head_in form e) ≤ 48
unfolding head_in
head_short Bytes e = omega arith
head_short Text e = any_finding_short e.finding

pub condition_short : (form : Form) (rule : ℕ) (round : Bool) (c : Condition) → length (condition_in form rule round c) ≤ 257
unfolding condition_in
condition_short Bytes rule round c = omega (arith, condition_bytes_length c)
condition_short Text rule round c = condition_text_short rule round c

pub day_short : (form : Form) (kind side : ℕ) (d : Day) → length (day_in form kind side d) ≤ 49
unfolding day_in
day_short Bytes kind side d = omega (arith, day_bytes_length kind side d, one_a_side d)
day_short Text kind side d = day_text_short kind side d
