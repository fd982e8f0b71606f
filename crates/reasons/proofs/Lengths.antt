-- How long a condition and a certificate day can be.
use Prim.Native.Nat.{ℕ, ◌*◌, ◌≤◌}
use mathlib.Core.Path.{◌≡◌}
use mathlib.Core.Bool.{Bool, true, false}
use native.Mathlib.Omega.{arith}
use lib.Dec.{eqb}
use lib.IntN.{ℤ}
use lib.ListN.{length, length-append}
use Rattle.readings.specs.Ranges.{meter, pitot}
use Rattle.output.specs.Bytes.{signed_bits}
use Rattle.output.proofs.Bytes.{length_le}
use Rattle.characters.specs.Words.{spelled}
use Rattle.characters.proofs.Decimals.{decimal_short, signed_short}
use Rattle.characters.proofs.Texts.{either_short}
use Rattle.grounds.specs.declared.comparison.Way.{Way}
use Rattle.grounds.specs.declared.comparison.Way.TheVariants.{Below, Above, Same, Differs}
use Rattle.grounds.specs.Showing.{Condition}
use Rattle.dates.specs.declared.Day.{Day}
use Rattle.dates.specs.declared.Day.TheVariants.{Unused, On, NoneSoDated}
use Rattle.dates.specs.Side.{before}
use Rattle.dates.specs.Dates.{entries_on}
use Rattle.wording.proofs.Lengths.{words_short}
use Rattle.reasons.specs.Bytes.{condition_bytes, day_bytes}
use Rattle.reasons.specs.Text.{way_text, number_text, meaning_text, condition_text, kind_text, side_text, found_text, dated_text, day_text}

-- As bytes

pub condition_bytes_length : (c : Condition) → length (condition_bytes c) ≡ 34
unfolding condition_bytes
condition_bytes_length c =
    simp length-append (omega (arith, length_le 8 (signed_bits c.left), length_le 8 (signed_bits c.right), length_le 8 (signed_bits c.remainder), length_le 8 (signed_bits c.limit)))

pub day_bytes_length : (kind side : ℕ) (d : Day) → length (day_bytes kind side d) ≡ 5 * entries_on d
unfolding day_bytes entries_on
day_bytes_length kind side Unused = omega arith
day_bytes_length kind side (On day) = omega (arith, length_le 2 day)
day_bytes_length kind side NoneSoDated = omega (arith, length_le 2 0)

-- As text

way_short : (w : Way) → length (way_text w) ≤ 9
unfolding way_text spelled
way_short Below = omega arith
way_short Above = omega arith
way_short Same = omega arith
way_short Differs = omega arith

number_short : (quotient : Bool) (n remainder : ℤ) → length (number_text quotient n remainder) ≤ 53
unfolding number_text spelled
number_short false n remainder = omega (arith, signed_short n)
number_short true n remainder = simp length-append (omega (arith, signed_short n, signed_short remainder))

meaning_short : (rule which : ℕ) (round : Bool) → length (meaning_text rule which round) ≤ 131
unfolding meaning_text spelled
meaning_short rule which round = simp length-append (omega (arith, words_short rule which round))

pub condition_text_short : (rule : ℕ) (round : Bool) (c : Condition) → length (condition_text rule round c) ≤ 257
unfolding condition_text spelled
condition_text_short rule round c =
    simp length-append (omega (arith, number_short c.quotient c.left c.remainder, way_short c.way, number_short c.quotient c.right c.limit, meaning_short rule c.which round))

kind_short : (kind : ℕ) → length (kind_text kind) ≤ 7
unfolding kind_text spelled
kind_short kind = either_short (eqb kind meter) _ _ 7 (omega arith) (either_short (eqb kind pitot) _ _ 7 (omega arith) (omega arith))

side_short : (side : ℕ) → length (side_text side) ≤ 7
unfolding side_text spelled
side_short side = either_short (eqb side before) _ _ 7 (omega arith) (omega arith)

pub day_text_short : (kind side : ℕ) (d : Day) → length (day_text kind side d) ≤ 49
unfolding day_text dated_text found_text spelled
day_text_short kind side Unused = omega arith
day_text_short kind side (On day) = simp length-append (omega (arith, kind_short kind, side_short side, decimal_short day))
day_text_short kind side NoneSoDated = simp length-append (omega (arith, kind_short kind, side_short side))
