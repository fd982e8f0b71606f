-- The figure file (docs/RULES.md, The figure file): its fields in order of place, the first trouble met, and the figure that it holds.
use Rattle.std.specs.Prelude.{Result, Ok, Err, ℕ, zero, suc, ◌+◌, ◌*◌, Bool, ◌&&◌, List, [], ◌∷◌, ◌++◌, leb, eqb, length}
use Rattle.fields.specs.Numbers.{byte_at, u16_at}
use Rattle.fields.specs.declared.trouble.BadFile.{BadFile}
use Rattle.fields.specs.Trouble.{Trouble, Clear, At, bad_figure, Row, checks}
use Rattle.arrays.specs.Arrays.{padded}
use Rattle.readings.specs.Ranges.{figure_version, step_count, greatest_step_count, step_points, greatest_round_points, greatest_rectangular_points}
use Rattle.steps.specs.declared.Step.{Step}
use Rattle.steps.specs.declared.Figure.{Figure}
use Rattle.steps.specs.Steps.{no_step, no_figure}
use Rattle.figures.specs.declared.lists.Limits.{Limits}

-- the two rows of a field of so many bytes at a place: the file does not end before the field does, or 14 at the file's length; and the
-- field is good, or 14 at the field
abbrev pub field_rows : List ℕ → ℕ → ℕ → Bool → List Row
field_rows s at width good =
    record { number = bad_figure; place = length s; ok = leb (at + width) (length s) }
    ∷ record { number = bad_figure; place = at; ok = good }
    ∷ []

-- Mark and version

-- "FIG"
abbrev pub figure_marked : List ℕ → Bool
figure_marked s = eqb (byte_at s 0) 70 && (eqb (byte_at s 1) 73 && eqb (byte_at s 2) 71)

-- one after the other
unfoldable pub opening_rows : List ℕ → List Row
opening_rows s = field_rows s 0 3 (figure_marked s) ++ field_rows s 3 2 (figure_version (u16_at s 3))

-- A list of steps, from the place of its count on

-- step i stands behind the count and i steps of 4 bytes
abbrev pub step_place : ℕ → ℕ → ℕ
step_place at i = at + 1 + 4 * i

-- least distance, points of a round stack, points of a rectangular one
abbrev pub step_at : List ℕ → ℕ → ℕ → Step
step_at s at i =
    record { least = u16_at s (step_place at i); round = byte_at s (step_place at i + 2); rectangular = byte_at s (step_place at i + 3) }

-- what step i has to keep to: distances rise and points never do, and the first step asks for no more than the most
abbrev pub limits_at : List ℕ → ℕ → ℕ → Limits
limits_at s at zero = record { least = 0; round = greatest_round_points; rectangular = greatest_rectangular_points }
limits_at s at (suc i) =
    record { least = (step_at s at i).least + 1; round = (step_at s at i).round; rectangular = (step_at s at i).rectangular }

-- the distance is above that of the step before
abbrev pub distance_good : List ℕ → ℕ → ℕ → Bool
distance_good s at i = leb (limits_at s at i).least (step_at s at i).least

-- the points of each shape are at least 1, and no more than the step before has
abbrev pub round_good : List ℕ → ℕ → ℕ → Bool
round_good s at i = step_points (limits_at s at i).round (step_at s at i).round

abbrev pub rectangular_good : List ℕ → ℕ → ℕ → Bool
rectangular_good s at i = step_points (limits_at s at i).rectangular (step_at s at i).rectangular

-- distance, round points, rectangular points
abbrev pub step_rows : List ℕ → ℕ → ℕ → List Row
step_rows s at i =
    field_rows s (step_place at i) 2 (distance_good s at i)
    ++ (field_rows s (step_place at i + 2) 1 (round_good s at i) ++ field_rows s (step_place at i + 3) 1 (rectangular_good s at i))

-- the first n steps
unfoldable pub steps_rows : List ℕ → ℕ → ℕ → List Row
steps_rows s at zero = []
steps_rows s at (suc i) = steps_rows s at i ++ step_rows s at i

-- the count, and then the steps
unfoldable pub list_rows : List ℕ → ℕ → List Row
list_rows s at = field_rows s at 1 (step_count (byte_at s at)) ++ steps_rows s at (byte_at s at)

-- the place behind the list
abbrev pub list_end : List ℕ → ℕ → ℕ
list_end s at = step_place at (byte_at s at)

-- the steps that it holds
unfoldable pub steps_at : List ℕ → ℕ → List Step
steps_at s at = padded greatest_step_count no_step (step_at s at) (byte_at s at)

-- The file

-- the list for the distance from the last disturbance, and behind it that for the distance to the next
abbrev pub last_at : ℕ
last_at = 5

abbrev pub next_at : List ℕ → ℕ
next_at s = list_end s last_at

-- the longest figure: mark, version and two lists of 16 steps
abbrev pub longest_figure : ℕ
longest_figure = 135

-- every field in order of place, and nothing behind them
abbrev pub figure_rows : List ℕ → List Row
figure_rows s =
    opening_rows s
    ++ (list_rows s last_at
    ++ (list_rows s (next_at s)
    ++ (record { number = bad_figure; place = list_end s (next_at s); ok = leb (length s) (list_end s (next_at s)) } ∷ [])))

-- the first trouble met in it
unfoldable pub figure_trouble : List ℕ → Trouble
figure_trouble s = checks Clear (figure_rows s)

-- what a file supplies: the first trouble met in it, and its figure, which is none in trouble
pub record Supplied : Type 0 where
  pub trouble : Trouble
  pub figure : Figure

-- no file is supplied: no figure, and no trouble
abbrev pub none_supplied : Supplied
none_supplied = record { trouble = Clear; figure = no_figure }

-- the figure that a file holds where it is in no trouble
abbrev pub supplied_by : Trouble → List ℕ → Supplied
supplied_by Clear s = record { trouble = Clear; figure = record { last = steps_at s last_at; next = steps_at s (next_at s) } }
supplied_by (At number place) s = record { trouble = At number place; figure = no_figure }

-- The figure in a file
unfoldable pub read_figure : List ℕ → Supplied
read_figure s = supplied_by (figure_trouble s) s

-- what the code answers of a file, as what the file supplies
abbrev pub told_figure : Result Figure BadFile → Supplied
told_figure (Ok f) = record { trouble = Clear; figure = f }
told_figure (Err e) = record { trouble = At e.number e.place; figure = no_figure }
