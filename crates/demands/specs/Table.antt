-- The table of docs/RULES.md, Refusals, row by row: when each applies, with its number and its place. Every row says that all before
-- it in reading order is good.
use Rattle.std.specs.Prelude.{ℕ, suc, ◌+◌, ◌*◌, ◌≤◌, ◌<◌, ◌≡◌, true, false, List, ◌∷◌, ◌⊎◌, length}
use Rattle.readings.specs.Ranges.{greatest_total_seconds}
use Rattle.fields.specs.Numbers.{u16_at}
use Rattle.fields.specs.Trouble.{Row}
use Rattle.heads.specs.Values.{certificate_place, certificate_of}
use Rattle.opening.specs.Opening.{version_of, run_count_of, marked}
use Rattle.job.specs.Places.{run_start}
use Rattle.reduction.specs.Reducing.{reduced_run}
use Rattle.writing.specs.Bytes.{sheet_size, finding_size}
use Rattle.figures.specs.Figures.{figure_rows}
use Rattle.demands.specs.FigureFile.{Lent, file, figure_in, GoodLent}
use Rattle.demands.specs.ReadingOrder.{Fixed, file_header, one_certificate, run_header, number_of, start_of, size_of, rows_of, Complete, Good, Repeats, total_of_points, total_of_segments, GoodJob, ReachedCertificate, ReachedRun, ReachedSeconds, ReachedEnd, Reached}

-- the first field that is out of its range has that number and place: those before it are good
pub data FirstBad (number place : ℕ) : List Row → Type 0 where
  here : {r : Row} {rs : List Row} → r.ok ≡ false → r.number ≡ number → r.place ≡ place → FirstBad number place (r ∷ rs)
  later : {r : Row} {rs : List Row} → r.ok ≡ true → FirstBad number place rs → FirstBad number place (r ∷ rs)

-- the record that starts at a place is a certificate that repeats an earlier one, or a run whose number is not above the one before
pub data NotNew (s : List ℕ) : ℕ → Type 0 where
  certificate_again :
      (j k : ℕ)
      → ReachedCertificate s k
      → Good s (one_certificate k)
      → j < k
      → Repeats (certificate_of s j) (certificate_of s k)
      → NotNew s (certificate_place (version_of s) k)
  number_not_above :
      (k : ℕ)
      → ReachedRun s (suc k)
      → Good s (run_header (suc k))
      → number_of s (suc k) ≤ number_of s k
      → NotNew s (run_start s (suc k))

-- A row applies to a file
pub data FileRefused (s : List ℕ) : ℕ → ℕ → Type 0 where
  -- 1: the file ends before the header or a record is complete; the file's length
  row1 : (r : Fixed) → Reached s r → length s < start_of s r + size_of s r → FileRefused s 1 (length s)
  -- 2: wrong mark; 0
  row2 : Complete s file_header → marked s ≡ false → FileRefused s 2 0
  -- 3: wrong version; 3
  row3 : Complete s file_header → marked s ≡ true → (u16_at s 3 ≡ 1 → ⊥) → (u16_at s 3 ≡ 2 → ⊥) → FileRefused s 3 3
  -- 4: a count out of range; that count
  row4 : (r : Fixed) → Reached s r → Complete s r → {place : ℕ} → FirstBad 4 place (rows_of s r) → FileRefused s 4 (start_of s r + place)
  -- 5: another field out of range; that field's first byte
  row5 : (r : Fixed) → Reached s r → Complete s r → {place : ℕ} → FirstBad 5 place (rows_of s r) → FileRefused s 5 (start_of s r + place)
  -- 6: a certificate repeats kind, maker, serial, letter and day of an earlier one, or a run number is not above the one before;
  -- record start
  row6 : {place : ℕ} → NotNew s place → FileRefused s 6 place
  -- 7: point seconds total over 36,000, or segment seconds total differs from it; run start
  row7 :
      (k : ℕ)
      → ReachedSeconds s k
      → (greatest_total_seconds < total_of_points s k) ⊎ (total_of_segments s k ≡ total_of_points s k → ⊥)
      → FileRefused s 7 (run_start s k)
  -- 8: bytes are left over; first of them
  row8 : ReachedEnd s → run_start s (run_count_of s) < length s → FileRefused s 8 (run_start s (run_count_of s))

-- A row applies to a call to reduce: the figure's; where that is good, one of the job's; and behind them, where the job is good too, 10
-- and then 9
pub data CallRefused (l : Lent) (s : List ℕ) (run lines findings : ℕ) : ℕ → ℕ → Type 0 where
  -- 14: a figure whose first field in trouble is cut off or not good, or that has bytes left over; the file's length, that field's
  -- first byte, the first byte left over
  row14 : (f : List ℕ) → l ≡ file f → {place : ℕ} → FirstBad 14 place (figure_rows f) → CallRefused l s run lines findings 14 place
  of_file : GoodLent l → {number place : ℕ} → FileRefused s number place → CallRefused l s run lines findings number place
  -- 10: no run of that number; 0
  row10 : GoodLent l → GoodJob s → ((k : ℕ) → k < run_count_of s → number_of s k ≡ run → ⊥) → CallRefused l s run lines findings 10 0
  -- 9: a lent output is too short; 0
  row9 :
      GoodLent l
      → GoodJob s
      → (k : ℕ)
      → k < run_count_of s
      → number_of s k ≡ run
      → (lines < sheet_size) ⊎ (findings < finding_size * (reduced_run (figure_in l) s k).findings.count)
      → CallRefused l s run lines findings 9 0
