-- A condition and a certificate day as text (docs/RULES.md, A finding explained).
use Rattle.std.specs.Prelude.{Option, Some, None, ℕ, Bool, true, false, cond, List, [], ◌++◌, eqb, ℤ}
use Rattle.readings.specs.Ranges.{meter, pitot}
use Rattle.characters.specs.Numbers.{decimal, signed_decimal}
use Rattle.characters.specs.Words.{spelled}
use Rattle.text.specs.Sheets.{newline}
use Rattle.grounds.specs.declared.comparison.Way.{Way}
use Rattle.grounds.specs.declared.comparison.Way.TheVariants.{Below, Above, Same, Differs}
use Rattle.grounds.specs.Showing.{Condition}
use Rattle.dates.specs.declared.Day.{Day}
use Rattle.dates.specs.declared.Day.TheVariants.{Unused, On, NoneSoDated}
use Rattle.dates.specs.Side.{before}
use Rattle.wording.specs.Wording.{words_of}

-- the word of a way
unfoldable pub way_text : Way → List ℕ
way_text Below = spelled " BELOW "
way_text Above = spelled " ABOVE "
way_text Same = spelled " EQUAL "
way_text Differs = spelled " DIFFERS "

-- a number, and behind a quotient or its limit the remainder or that one's limit
unfoldable pub number_text : Bool → ℤ → ℤ → List ℕ
number_text false n remainder = signed_decimal n
number_text true n remainder = signed_decimal n ++ spelled " REMAINDER " ++ signed_decimal remainder

-- behind two spaces, what the two numbers are
unfoldable pub meaning_text : ℕ → ℕ → Bool → List ℕ
meaning_text rule which round = spelled "  " ++ words_of rule which round ++ newline

-- a condition of a rule, in a round stack or in a rectangular one: the left number, the way, the right number, what they are
unfoldable pub condition_text : ℕ → Bool → Condition → List ℕ
condition_text rule round c =
    spelled "  COMPARED " ++ number_text c.quotient c.left c.remainder ++ way_text c.way
    ++ number_text c.quotient c.right c.limit ++ meaning_text rule c.which round

-- the word of a kind
unfoldable pub kind_text : ℕ → List ℕ
kind_text kind = cond (eqb kind meter) (spelled "METER ") (cond (eqb kind pitot) (spelled "PITOT ") (spelled "NOZZLE "))

-- the word of a side
unfoldable pub side_text : ℕ → List ℕ
side_text side = cond (eqb side before) (spelled "BEFORE ") (spelled "AFTER ")

-- the day found, or that there is none
unfoldable pub found_text : Option ℕ → List ℕ
found_text None = spelled "NONE"
found_text (Some day) = decimal day

-- a certificate day that is used: kind, side, and the day or that there is none
unfoldable pub dated_text : ℕ → ℕ → Option ℕ → List ℕ
dated_text kind side day = spelled "  CERTIFICATE " ++ kind_text kind ++ side_text side ++ found_text day ++ newline

-- a certificate day; nothing where none is used
unfoldable pub day_text : ℕ → ℕ → Day → List ℕ
day_text kind side Unused = []
day_text kind side (On day) = dated_text kind side (Some day)
day_text kind side NoneSoDated = dated_text kind side None
