-- When two identities are the same, and the parts of a run by index.
use Rattle.std.specs.Prelude.{ℕ, zero, suc, ◌+◌, Bool, ◌&&◌, eqb, get_or, pos}
use Rattle.records.specs.declared.Identity.{Identity}
use Rattle.records.specs.declared.Point.{Point}
use Rattle.records.specs.declared.Segment.{Segment}
use Rattle.records.specs.declared.Weighing.{Weighing}
use Rattle.records.specs.declared.Run.{Run}

-- the same serial, the same three letters of the maker, and the same letter of a rebuild
unfoldable pub same_identity : Identity → Identity → Bool
same_identity a b =
    eqb a.serial b.serial
    && (eqb a.maker.first b.maker.first
    && (eqb a.maker.second b.maker.second
    && (eqb a.maker.third b.maker.third && eqb a.letter b.letter)))

-- what stands past the last point
abbrev pub no_point : Point
no_point = record { seconds = 0; head = 0; orifice = 0; stack = pos 0; inlet = pos 0; outlet = pos 0 }

-- past the last segment
abbrev pub no_segment : Segment
no_segment = record { seconds = 0; leak = 0 }

-- past the last weighing
abbrev pub no_weighing : Weighing
no_weighing = record { kind = 0; tare = 0; first = 0; second = 0 }

-- a run's point by index from 0
abbrev pub point_of : Run → ℕ → Point
point_of r i = get_or r.points i no_point

-- its segment
abbrev pub segment_of : Run → ℕ → Segment
segment_of r i = get_or r.segments i no_segment

-- its weighing
abbrev pub weighing_of : Run → ℕ → Weighing
weighing_of r i = get_or r.weighings i no_weighing

-- f 0 + .. + f (n - 1)
unfoldable pub sum_to : (ℕ → ℕ) → ℕ → ℕ
sum_to f zero = 0
sum_to f (suc n) = sum_to f n + f n
