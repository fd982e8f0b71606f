-- The first trouble met: that of a record, row by row, and that of records in a row.
use Rattle.std.specs.Prelude.{ℕ, zero, suc, ◌+◌, ◌≡◌, Bool, true, cond, List, [], ◌∷◌, leb, length, drop}

-- no trouble, or a refusal's number and the place that it is about
pub data Trouble : Type 0 where
  Clear : Trouble
  At : (number place : ℕ) → Trouble

-- the earlier of two, unless it is clear
unfoldable pub first : Trouble → Trouble → Trouble
first Clear later = later
first (At number place) later = At number place

-- clear if all is well, else trouble
abbrev pub trouble_unless : Bool → ℕ → ℕ → Trouble
trouble_unless ok number place = cond ok Clear (At number place)

-- the trouble met so far, or else this one, unless all is well
abbrev pub unless : Trouble → Bool → ℕ → ℕ → Trouble
unless t ok number place = first t (trouble_unless ok number place)

-- The refusal numbers of a file

-- it ends before the header or a record is complete
abbrev pub incomplete : ℕ
incomplete = 1

-- wrong mark
abbrev pub wrong_mark : ℕ
wrong_mark = 2

-- wrong version
abbrev pub wrong_version : ℕ
wrong_version = 3

-- a count out of range
abbrev pub count_range : ℕ
count_range = 4

-- another field out of range
abbrev pub field_range : ℕ
field_range = 5

-- a certificate that stands already, or a run number not above the one before
abbrev pub repeated : ℕ
repeated = 6

-- a run's seconds too many, or not the same by points and by segments
abbrev pub wrong_seconds : ℕ
wrong_seconds = 7

-- bytes left over
abbrev pub left_over : ℕ
left_over = 8

-- whatever is wrong with a figure
abbrev pub bad_figure : ℕ
bad_figure = 14

-- A record

-- a row of a record's table: the refusal, the field's place in the record, whether the field is good
pub record Row : Type 0 where
  pub number : ℕ
  pub place : ℕ
  pub ok : Bool

abbrev pub count : ℕ → Bool → Row
count place ok = record { number = count_range; place = place; ok = ok }

abbrev pub field : ℕ → Bool → Row
field place ok = record { number = field_range; place = place; ok = ok }

-- rows moved along
abbrev pub moved_along : ℕ → List Row → List Row
moved_along m [] = []
moved_along m (r ∷ rs) = record { number = r.number; place = m + r.place; ok = r.ok } ∷ moved_along m rs

-- every field is good
abbrev pub AllGood : List Row → Type 0
AllGood [] = Unit {0}
AllGood (r ∷ rs) = (r.ok ≡ true) × AllGood rs

-- the rows from the first to the last: the trouble met so far, or else that of the first row that is not good
unfoldable pub checks : Trouble → List Row → Trouble
checks t [] = t
checks t (r ∷ rs) = checks (unless t r.ok r.number r.place) rs

-- the place of a trouble, 0 if there is none
abbrev pub trouble_place : Trouble → ℕ
trouble_place Clear = 0
trouble_place (At number place) = place

-- a place in a record, counted from the start of the file
abbrev pub from : ℕ → Trouble → Trouble
from start Clear = Clear
from start (At number place) = At number (start + place)

-- the trouble of a record at a place of a file: complete, then row by row
unfoldable pub record_trouble : List ℕ → ℕ → ℕ → List Row → Trouble
record_trouble s at size rows =
    first (trouble_unless (leb size (length (drop at s))) incomplete (length s)) (from at (checks Clear rows))

-- Records in a row

-- the first trouble of f 0, .., f (n - 1)
unfoldable pub up_to : (ℕ → Trouble) → ℕ → Trouble
up_to f zero = Clear
up_to f (suc n) = first (up_to f n) (f n)
