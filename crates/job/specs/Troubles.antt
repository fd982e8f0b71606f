-- The first trouble of a job, in the order of docs/RULES.md, Refusals: header, certificates, runs, bytes left over.
use Rattle.std.specs.Prelude.{ℕ, zero, suc, ◌+◌, Bool, ◌&&◌, List, leb, ltb, eqb, length}
use Rattle.fields.specs.Trouble.{Trouble, first, trouble_unless, repeated, wrong_seconds, left_over, up_to}
use Rattle.readings.specs.Ranges.{total_seconds}
use Rattle.readings.specs.declared.headers.Version.{Version}
use Rattle.records.specs.declared.Counts.{Counts}
use Rattle.opening.specs.Opening.{version_of, certificate_count_of, run_count_of, file_trouble}
use Rattle.heads.specs.Values.{header_at, run_header_size}
use Rattle.entries.specs.Entries.{entry_trouble}
use Rattle.parts.specs.Values.{point_place, segment_place, point_total, segment_total}
use Rattle.heads.specs.Rows.{header_trouble}
use Rattle.parts.specs.Rows.{points_trouble, segments_trouble, weighings_trouble}
use Rattle.job.specs.Places.{run_start}

-- Certificates

abbrev pub certificates_trouble : List ℕ → Trouble
certificates_trouble s = up_to (entry_trouble s) (certificate_count_of s)

-- Runs

-- not too many, and as many by segments as by points
abbrev pub good_seconds : List ℕ → ℕ → Counts → Bool
good_seconds s start n = total_seconds (point_total s start n) && eqb (segment_total s start n) (point_total s start n)

-- what follows a run's header: points, segments, weighings, and then the seconds
unfoldable pub parts_trouble : List ℕ → ℕ → Counts → Trouble
parts_trouble s start n =
    let v : Version = version_of s in
    first (points_trouble s (start + run_header_size v) n.points)
    (first (segments_trouble s (point_place v start n.points) n.segments)
    (first (weighings_trouble s (segment_place v start n n.segments) n.weighings)
    (trouble_unless (good_seconds s start n) wrong_seconds start)))

-- a run whose number has to be above `lower`
unfoldable pub run_trouble : List ℕ → ℕ → ℕ → Trouble
run_trouble s start lower =
    first (header_trouble s start)
    (first (trouble_unless (ltb lower (header_at s start).number) repeated start) (parts_trouble s start (header_at s start).counts))

-- the number of the run before, 0 for the first run
unfoldable pub number_before : List ℕ → ℕ → ℕ
number_before s zero = 0
number_before s (suc k) = (header_at s (run_start s k)).number

abbrev pub runs_trouble : List ℕ → ℕ → Trouble
runs_trouble s n = up_to (λ k. run_trouble s (run_start s k) (number_before s k)) n

-- The whole file

-- bytes stand after the last run
abbrev pub end_trouble : List ℕ → ℕ → Trouble
end_trouble s end = trouble_unless (leb (length s) end) left_over end

unfoldable pub job_trouble : List ℕ → Trouble
job_trouble s =
    first (file_trouble s)
    (first (certificates_trouble s)
    (first (runs_trouble s (run_count_of s)) (end_trouble s (run_start s (run_count_of s)))))
