-- What comes of a call for a layout: decided by its arguments and by the length of the lent output, before a byte is written.
use Rattle.std.specs.Prelude.{ℕ, ◌*◌, ◌≡◌, Bool, true, false, List, leb, length, get_or}
use Rattle.output.specs.Answers.{short_output, outside_ranges, Answer, Done, Refused}
use Rattle.output.specs.Bytes.{le, joined}
use Rattle.output.specs.Splice.{spliced}
use Rattle.distances.specs.Round.{round_fits}
use Rattle.distances.specs.Rectangle.{rectangle_fits}
use Rattle.traverse.specs.Layout.{round_layout, rectangle_layout}

-- refused, with number and place; or laid out, with the distances
pub data LayoutOutcome : Type 0 where
  not_laid : ℕ → ℕ → LayoutOutcome
  laid : List ℕ → LayoutOutcome

-- how many bytes a distance has
abbrev pub distance_size : ℕ
distance_size = 4

-- the distances if there is room for them, or 9 at 0
abbrev pub if_room : Bool → List ℕ → LayoutOutcome
if_room true ds = laid ds
if_room false ds = not_laid short_output 0

-- a lent output needs room for each distance
unfoldable pub lent_outcome : List ℕ → ℕ → LayoutOutcome
lent_outcome ds room = if_room (leb (distance_size * length ds) room) ds

-- a layout outside its ranges is 11 at 0, and that comes first
unfoldable pub layout_outcome : Bool → List ℕ → ℕ → LayoutOutcome
layout_outcome true ds room = lent_outcome ds room
layout_outcome false ds room = not_laid outside_ranges 0

-- a round layout: points on the diameter, diameter in 0.1 in, nozzle in 0.001 in
unfoldable pub round_outcome : ℕ → ℕ → ℕ → ℕ → LayoutOutcome
round_outcome n diameter nozzle room = layout_outcome (round_fits n diameter nozzle) (round_layout n diameter nozzle) room

-- a rectangular layout, sides in 0.1 in
unfoldable pub rectangle_outcome : ℕ → ℕ → ℕ → ℕ → LayoutOutcome
rectangle_outcome n first second room = layout_outcome (rectangle_fits n first second) (rectangle_layout n first second) room

-- each distance as a u32, one after another
unfoldable pub distance_bytes : List ℕ → List ℕ
distance_bytes ds = joined (λ i. le distance_size (get_or ds i 0)) (length ds)

-- what a call answers: the refusal, or how many bytes were written
unfoldable pub layout_answer : LayoutOutcome → Answer
layout_answer (not_laid number place) = Refused number place
layout_answer (laid ds) = Done (distance_size * length ds)

-- the lent output afterwards: as it was, or with the distances at its front and the bytes beyond as they were
unfoldable pub layout_out : LayoutOutcome → List ℕ → List ℕ
layout_out (not_laid number place) old = old
layout_out (laid ds) old = spliced old 0 (distance_bytes ds)

-- A call with this outcome answered r, and the output, which was old, is new
pub record Answered (o : LayoutOutcome) (old new : List ℕ) (r : Answer) : Type 0 where
  pub answer : r ≡ layout_answer o
  pub out : new ≡ layout_out o old
