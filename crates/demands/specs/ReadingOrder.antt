-- A file in the reading order of docs/RULES.md, Refusals: its header and fixed parts, what makes each good, and when each is reached.
use Rattle.std.specs.Prelude.{ℕ, zero, suc, ◌+◌, ◌≤◌, ◌<◌, ◌≡◌, List, length, drop}
use Rattle.readings.specs.declared.headers.Version.{Version}
use Rattle.readings.specs.Ranges.{greatest_total_seconds}
use Rattle.fields.specs.Numbers.{byte_at}
use Rattle.fields.specs.Trouble.{Row, AllGood}
use Rattle.records.specs.declared.Certificate.{Certificate}
use Rattle.records.specs.declared.Counts.{Counts}
use Rattle.choosing.specs.Choosing.{Of}
use Rattle.opening.specs.Opening.{file_header_size, version_of, certificate_count_of, run_count_of, file_rows}
use Rattle.heads.specs.Values.{certificate_size, run_header_size, spare_byte, certificate_place, certificate_of, header_at}
use Rattle.heads.specs.Rows.{certificate_rows, header_rows}
use Rattle.parts.specs.Values.{point_size, segment_size, weighing_size, point_place, segment_place, weighing_place, point_at, segment_at, weighing_at, point_total, segment_total}
use Rattle.parts.specs.Rows.{point_rows, segment_rows, weighing_rows}
use Rattle.job.specs.Places.{run_start, run_of}

-- The file's header, and the parts of fixed size behind it: certificate k, the header of run k, and its point, segment or weighing i
pub data Fixed : Type 0 where
  file_header : Fixed
  one_certificate : ℕ → Fixed
  run_header : ℕ → Fixed
  one_point : ℕ → ℕ → Fixed
  one_segment : ℕ → ℕ → Fixed
  one_weighing : ℕ → ℕ → Fixed

-- the number of run k
abbrev pub number_of : List ℕ → ℕ → ℕ
number_of s k = (run_of s k).header.number

-- how many points, segments and weighings its header announces
abbrev pub counts_of : List ℕ → ℕ → Counts
counts_of s k = (header_at s (run_start s k)).counts

-- where a part starts
abbrev pub start_of : List ℕ → Fixed → ℕ
start_of s file_header = 0
start_of s (one_certificate k) = certificate_place (version_of s) k
start_of s (run_header k) = run_start s k
start_of s (one_point k i) = point_place (version_of s) (run_start s k) i
start_of s (one_segment k i) = segment_place (version_of s) (run_start s k) (counts_of s k) i
start_of s (one_weighing k i) = weighing_place (version_of s) (run_start s k) (counts_of s k) i

-- how many bytes it has
abbrev pub size_of : List ℕ → Fixed → ℕ
size_of s file_header = file_header_size
size_of s (one_certificate k) = certificate_size (version_of s)
size_of s (run_header k) = run_header_size (version_of s)
size_of s (one_point k i) = point_size
size_of s (one_segment k i) = segment_size
size_of s (one_weighing k i) = weighing_size

-- its fields that have a range, in order of place
abbrev pub rows_of : List ℕ → Fixed → List Row
rows_of s file_header = file_rows s
rows_of s (one_certificate k) = certificate_rows (version_of s) (certificate_of s k)
rows_of s (run_header k) =
    let at : ℕ = start_of s (run_header k) in
    let v : Version = version_of s in
    header_rows v (header_at s at) (spare_byte v (drop at s))
rows_of s (one_point k i) = point_rows (point_at s (start_of s (one_point k i)))
rows_of s (one_segment k i) = segment_rows (segment_at s (start_of s (one_segment k i)))
rows_of s (one_weighing k i) = let at : ℕ = start_of s (one_weighing k i) in weighing_rows (weighing_at s at) (byte_at (drop at s) 1)

-- it ends within the file
abbrev pub Complete : List ℕ → Fixed → Type 0
Complete s r = start_of s r + size_of s r ≤ length s

-- it is complete, and every field of it is in its range
pub record Good (s : List ℕ) (r : Fixed) : Type 0 where
  pub complete : Complete s r
  pub fields : AllGood (rows_of s r)

-- Certificates

-- two certificates of one kind, maker, serial, letter and day
pub record Repeats (a b : Certificate) : Type 0 where
  pub is : Of b.kind b.identity a
  pub day : a.day ≡ b.day

-- a good certificate repeats no earlier one
pub record GoodCertificate (s : List ℕ) (k : ℕ) : Type 0 where
  pub own : Good s (one_certificate k)
  pub new : (j : ℕ) → j < k → Repeats (certificate_of s j) (certificate_of s k) → ⊥

-- the first n are good
abbrev pub GoodCertificates : List ℕ → ℕ → Type 0
GoodCertificates s n = (k : ℕ) → k < n → GoodCertificate s k

-- Runs

-- the number of a run is above that of the one before; the first run has none before it
abbrev pub Above : List ℕ → ℕ → Type 0
Above s zero = Unit {0}
Above s (suc k) = number_of s k < number_of s (suc k)

-- the first n points, segments or weighings of run k are good
abbrev pub GoodPoints : List ℕ → ℕ → ℕ → Type 0
GoodPoints s k n = (i : ℕ) → i < n → Good s (one_point k i)

abbrev pub GoodSegments : List ℕ → ℕ → ℕ → Type 0
GoodSegments s k n = (i : ℕ) → i < n → Good s (one_segment k i)

abbrev pub GoodWeighings : List ℕ → ℕ → ℕ → Type 0
GoodWeighings s k n = (i : ℕ) → i < n → Good s (one_weighing k i)

-- the total seconds of its points, and of its segments
abbrev pub total_of_points : List ℕ → ℕ → ℕ
total_of_points s k = point_total s (run_start s k) (counts_of s k)

abbrev pub total_of_segments : List ℕ → ℕ → ℕ
total_of_segments s k = segment_total s (run_start s k) (counts_of s k)

-- a good run, in reading order
pub record GoodRun (s : List ℕ) (k : ℕ) : Type 0 where
  pub header : Good s (run_header k)
  pub above : Above s k
  pub points : GoodPoints s k (counts_of s k).points
  pub segments : GoodSegments s k (counts_of s k).segments
  pub weighings : GoodWeighings s k (counts_of s k).weighings
  pub total : total_of_points s k ≤ greatest_total_seconds
  pub balanced : total_of_segments s k ≡ total_of_points s k

-- the first n are good
abbrev pub GoodRuns : List ℕ → ℕ → Type 0
GoodRuns s n = (k : ℕ) → k < n → GoodRun s k

-- The whole file

-- a good job: its header, its certificates, its runs, and no byte left over
pub record GoodJob (s : List ℕ) : Type 0 where
  pub header : Good s file_header
  pub certificates : GoodCertificates s (certificate_count_of s)
  pub runs : GoodRuns s (run_count_of s)
  pub end : length s ≤ run_start s (run_count_of s)

-- What is reached: there is such a part, and everything before it in reading order is good

pub record ReachedCertificate (s : List ℕ) (k : ℕ) : Type 0 where
  pub header : Good s file_header
  pub inside : k < certificate_count_of s
  pub earlier : GoodCertificates s k

pub record ReachedRun (s : List ℕ) (k : ℕ) : Type 0 where
  pub header : Good s file_header
  pub certificates : GoodCertificates s (certificate_count_of s)
  pub inside : k < run_count_of s
  pub earlier : GoodRuns s k

-- what follows the header of run k
pub record ReachedParts (s : List ℕ) (k : ℕ) : Type 0 where
  pub run : ReachedRun s k
  pub header : Good s (run_header k)
  pub above : Above s k

pub record ReachedPoint (s : List ℕ) (k i : ℕ) : Type 0 where
  pub parts : ReachedParts s k
  pub inside : i < (counts_of s k).points
  pub earlier : GoodPoints s k i

pub record ReachedSegment (s : List ℕ) (k i : ℕ) : Type 0 where
  pub parts : ReachedParts s k
  pub points : GoodPoints s k (counts_of s k).points
  pub inside : i < (counts_of s k).segments
  pub earlier : GoodSegments s k i

pub record ReachedWeighing (s : List ℕ) (k i : ℕ) : Type 0 where
  pub parts : ReachedParts s k
  pub points : GoodPoints s k (counts_of s k).points
  pub segments : GoodSegments s k (counts_of s k).segments
  pub inside : i < (counts_of s k).weighings
  pub earlier : GoodWeighings s k i

-- the end of run k, where its seconds are judged
pub record ReachedSeconds (s : List ℕ) (k : ℕ) : Type 0 where
  pub parts : ReachedParts s k
  pub points : GoodPoints s k (counts_of s k).points
  pub segments : GoodSegments s k (counts_of s k).segments
  pub weighings : GoodWeighings s k (counts_of s k).weighings

-- the end of the last run
pub record ReachedEnd (s : List ℕ) : Type 0 where
  pub header : Good s file_header
  pub certificates : GoodCertificates s (certificate_count_of s)
  pub runs : GoodRuns s (run_count_of s)

abbrev pub Reached : List ℕ → Fixed → Type 0
Reached s file_header = Unit {0}
Reached s (one_certificate k) = ReachedCertificate s k
Reached s (run_header k) = ReachedRun s k
Reached s (one_point k i) = ReachedPoint s k i
Reached s (one_segment k i) = ReachedSegment s k i
Reached s (one_weighing k i) = ReachedWeighing s k i
