-- What stands past the longest job never changes the answer: every byte that is looked at lies within it, every record that begins there is complete, and bytes are left over.
use Prim.Native.Nat.{ℕ, zero, suc, ◌+◌, ◌*◌, ◌≤◌, ◌<◌}
use mathlib.Core.Path.{◌≡◌, refl, sym, ◌∙◌, ap, ap₂}
use mathlib.Core.Bool.{Bool, true, false, not}
use mathlib.Core.List.{List, ◌++◌}
use native.Mathlib.Nat.{mul-suc, mul-le-mul_left, lt_trans, lt-suc_self}
use native.Mathlib.Omega.{arith}
use borrow.Author.Tests.{leb-true, leb-false, lt-leb}
use lib.Dec.{leb, ltb, lit≤}
use lib.ListN.{length, drop, take, length-drop, length-append, take-append-drop}
use lib.Seq.{take_all, take-take, length-take-le}
use Rattle.readings.specs.Ranges.{greatest_run_count, greatest_certificate_count}
use Rattle.fields.specs.Trouble.{Trouble, Clear, At, first, trouble_unless, repeated, wrong_seconds, left_over, Row, checks, from, up_to, record_trouble}
use Rattle.fields.proofs.FirstTrouble.{clear_left}
use Rattle.records.specs.declared.Counts.{Counts}
use Rattle.records.specs.declared.Point.{Point}
use Rattle.records.specs.declared.Segment.{Segment}
use Rattle.records.proofs.Sums.{sum_ext}
use Rattle.records.specs.declared.RunHeader.{RunHeader}
use Rattle.readings.specs.declared.headers.Version.{Version}
use Rattle.heads.specs.Values.{certificate, header, spare_byte, header_at, certificate_place, certificate_of, certificate_size, run_header_size}
use Rattle.parts.specs.Values.{point_at, segment_at, point_place, segment_place, point_total, segment_total, run_end}
use Rattle.heads.specs.Rows.{certificate_rows, header_rows}
use Rattle.parts.specs.Rows.{point_rows, segment_rows, points_trouble, segments_trouble, weighings_trouble}
use Rattle.fields.proofs.RecordTrouble.{whole_at}
use Rattle.opening.specs.Opening.{version_of, certificate_count_of, run_count_of, file_trouble}
use Rattle.opening.proofs.HowMany.{few}
use Rattle.job.specs.Places.{next_start, run_start, longest_run, longest_job}
use Rattle.entries.specs.Entries.{same_certificate, entry_trouble}
use Rattle.job.specs.Troubles.{certificates_trouble, good_seconds, parts_trouble, number_before, run_trouble, runs_trouble, end_trouble, job_trouble}
use Rattle.demands.proofs.Fronts.{Front, front_of, front_same, version_front, certificate_count_front, run_count_front, file_rows_front, certificate_front, header_front, header_rows_front, point_front, segment_front, weighing_rows_front}
use Rattle.entries.proofs.LookBack.{any_ext}
use Rattle.job.proofs.Reach.{Few, few_parts, start_reach}
use Rattle.job.proofs.WholeFile.{certificate_count_lem, run_count_lem}

-- The same troubles

-- the later of two has to be the same only where the earlier is clear
first_same : (t u v : Trouble) {w : Trouble} → t ≡ w → (t ≡ Clear → u ≡ v) → first t u ≡ first w v
unfolding first
first_same t u v e later = later_same t later ∙ ap (λ (w : Trouble). first w v) e
  where
    later_same : (t : Trouble) → (t ≡ Clear → u ≡ v) → first t u ≡ first t v
    later_same Clear later = later refl
    later_same (At n p) later = refl

up_same : (f g : ℕ → Trouble) (n : ℕ) → ((i : ℕ) → i < n → up_to f i ≡ Clear → f i ≡ g i) → up_to f n ≡ up_to g n
unfolding up_to
up_same f g zero h = refl
up_same f g (suc n) h = first_same (up_to f n) (f n) (g n) (up_same f g n (λ i l. h i (lt_trans l (lt-suc_self n)))) (h n (lt-suc_self n))

-- bytes are left over
left_over_lem : (s : List ℕ) (end : ℕ) → end < length s → end_trouble s end ≡ At left_over end
left_over_lem s end h = rw (lt-leb (length s) end h)

-- Two files with the bytes of the longest job in common, and some byte after them

module _ (p a b : List ℕ) (whole : length p ≡ longest_job) (more : 1 ≤ length a) (other : 1 ≤ length b) where
  same_at : {A : Type 0} {size : ℕ} {f : List ℕ → A} → Front size f → (at : ℕ) → at + size ≤ longest_job → f (drop at (p ++ a)) ≡ f (drop at (p ++ b))
  same_at front at h = front_same front p a b at (rw whole h)

  -- every record is complete, and its rows are the same
  record_same :
      {size : ℕ} {f : List ℕ → List Row}
      → Front size f
      → (at : ℕ)
      → at + size ≤ longest_job
      → record_trouble (p ++ a) at size (f (drop at (p ++ a))) ≡ record_trouble (p ++ b) at size (f (drop at (p ++ b)))
  record_same {size} {f} front at h =
      let left : size ≤ length (drop at (p ++ a)) = omega (arith, length-drop at (p ++ a), length-append p a) in
      let right : size ≤ length (drop at (p ++ b)) = omega (arith, length-drop at (p ++ b), length-append p b) in
      sym (whole_at (p ++ a) at size _ refl left refl refl)
      ∙ ap (λ (rows : List Row). from at (checks Clear rows)) (same_at front at h)
      ∙ whole_at (p ++ b) at size _ refl right refl refl

  row_same :
      {size : ℕ} {f : List ℕ → List Row}
      → Front size f
      → (at n : ℕ)
      → at + size * n ≤ longest_job
      → up_to (λ i. record_trouble (p ++ a) (at + size * i) size (f (drop (at + size * i) (p ++ a)))) n
      ≡ up_to (λ i. record_trouble (p ++ b) (at + size * i) size (f (drop (at + size * i) (p ++ b)))) n
  row_same {size} {f} front at n h =
      up_same _ _ n
      (λ i l clear.
      let below : size * suc i ≤ size * n = mul-le-mul_left size l in
      record_same front (at + size * i) (omega (arith, mul-suc size i)))

  -- The header

  file_same : file_trouble (p ++ a) ≡ file_trouble (p ++ b)
  file_same = record_same file_rows_front 0 (lit≤ tt)

  version_same : version_of (p ++ a) ≡ version_of (p ++ b)
  version_same = same_at version_front 0 (lit≤ tt)

  -- the version that both say
  abbrev v : Version
  v = version_of (p ++ a)

  certificate_count_same : certificate_count_of (p ++ a) ≡ certificate_count_of (p ++ b)
  certificate_count_same = same_at certificate_count_front 0 (lit≤ tt)

  run_count_same : run_count_of (p ++ a) ≡ run_count_of (p ++ b)
  run_count_same = same_at run_count_front 0 (lit≤ tt)

  -- Certificates

  certificate_room : (k : ℕ) → k < greatest_certificate_count → certificate_place v k + certificate_size v ≤ longest_job
  certificate_room k h = omega (arith, few v k, few v 1)

  certificate_same : (k : ℕ) → k < greatest_certificate_count → certificate_of (p ++ a) k ≡ certificate_of (p ++ b) k
  certificate_same k h =
      same_at (certificate_front v) (certificate_place v k) (certificate_room k h)
      ∙ ap (λ (v : Version). certificate v (drop (certificate_place v k) (p ++ b))) version_same

  entry_same : (k : ℕ) → k < greatest_certificate_count → entry_trouble (p ++ a) k ≡ entry_trouble (p ++ b) k
  entry_same k h =
      let own_same = record_same (front_of (certificate_rows v) (certificate_front v)) (certificate_place v k) (certificate_room k h) in
      first_same _ _ _
      (own_same ∙ ap (λ (v : Version). record_trouble (p ++ b) (certificate_place v k) (certificate_size v) (certificate_rows v (certificate v (drop (certificate_place v k) (p ++ b))))) version_same)
      (λ own.
      let earlier = any_ext _ _ k (λ j l. ap₂ same_certificate (certificate_same j (lt_trans l h)) (certificate_same k h)) in
      ap₂ (λ (stood : Bool) (v : Version). trouble_unless (not stood) repeated (certificate_place v k)) earlier version_same)

  certificates_same : file_trouble (p ++ a) ≡ Clear → certificates_trouble (p ++ a) ≡ certificates_trouble (p ++ b)
  certificates_same file =
      let held = certificate_count_lem (p ++ a) file in
      up_same _ _ _ (λ k h clear. entry_same k (omega arith)) ∙ ap (up_to (entry_trouble (p ++ b))) certificate_count_same

  -- Runs

  header_same : (start : ℕ) → start + longest_run ≤ longest_job → header_at (p ++ a) start ≡ header_at (p ++ b) start
  header_same start h =
      same_at (header_front v) start (omega (arith, few v 3))
      ∙ ap (λ (v : Version). header v (drop start (p ++ b))) version_same

  point_total_same : (start : ℕ) (n : Counts) → start + longest_run ≤ longest_job → Few n → point_total (p ++ a) start n ≡ point_total (p ++ b) start n
  point_total_same start n h parts =
      sum_ext _ _ n.points
      (λ i l.
      same_at (front_of (λ (x : Point). x.seconds) point_front) (point_place v start i) (omega (arith, few v 3, parts.points))
      ∙ ap (λ (v : Version). (point_at (p ++ b) (point_place v start i)).seconds) version_same)

  segment_total_same : (start : ℕ) (n : Counts) → start + longest_run ≤ longest_job → Few n → segment_total (p ++ a) start n ≡ segment_total (p ++ b) start n
  segment_total_same start n h parts =
      sum_ext _ _ n.segments
      (λ i l.
      same_at (front_of (λ (x : Segment). x.seconds) segment_front) (segment_place v start n i) (omega (arith, few v 3, parts.points, parts.segments))
      ∙ ap (λ (v : Version). (segment_at (p ++ b) (segment_place v start n i)).seconds) version_same)

  seconds_same : (start : ℕ) (n : Counts) → start + longest_run ≤ longest_job → Few n → good_seconds (p ++ a) start n ≡ good_seconds (p ++ b) start n
  seconds_same start n h parts = rw (point_total_same start n h parts, segment_total_same start n h parts)

  parts_same : (start : ℕ) (n : Counts) → start + longest_run ≤ longest_job → Few n → parts_trouble (p ++ a) start n ≡ parts_trouble (p ++ b) start n
  unfolding parts_trouble
  parts_same start n h parts =
      let letters = few v 3 in
      let points = row_same (front_of point_rows point_front) (start + run_header_size v) n.points (omega (arith, parts.points)) in
      let segments = row_same (front_of segment_rows segment_front) (point_place v start n.points) n.segments (omega (arith, parts.points, parts.segments)) in
      let weighings = row_same weighing_rows_front (segment_place v start n n.segments) n.weighings (omega (arith, parts.points, parts.segments, parts.weighings)) in
      first_same _ _ _ (points ∙ ap (λ (v : Version). points_trouble (p ++ b) (start + run_header_size v) n.points) version_same)
      (λ clear.
      first_same _ _ _ (segments ∙ ap (λ (v : Version). segments_trouble (p ++ b) (point_place v start n.points) n.segments) version_same)
      (λ clear.
      first_same _ _ _ (weighings ∙ ap (λ (v : Version). weighings_trouble (p ++ b) (segment_place v start n n.segments) n.weighings) version_same)
      (λ clear. ap (λ (ok : Bool). trouble_unless ok wrong_seconds start) (seconds_same start n h parts))))

  run_same : (start lower : ℕ) → start + longest_run ≤ longest_job → run_trouble (p ++ a) start lower ≡ run_trouble (p ++ b) start lower
  unfolding run_trouble
  run_same start lower h =
      let own_same = record_same (header_rows_front v) start (omega (arith, few v 3)) in
      first_same _ _ _
      (own_same ∙ ap (λ (v : Version). record_trouble (p ++ b) start (run_header_size v) (header_rows v (header v (drop start (p ++ b))) (spare_byte v (drop start (p ++ b))))) version_same)
      (λ own.
      ap (first _) (parts_same start (header_at (p ++ a) start).counts h (few_parts (p ++ a) start own))
      ∙ ap (λ (x : RunHeader). first (trouble_unless (ltb lower x.number) repeated start) (parts_trouble (p ++ b) start x.counts)) (header_same start h))

  -- a run starts at the same place if those before it are clear
  module _ (file : file_trouble (p ++ a) ≡ Clear) where
    start_room : (k : ℕ) → k < greatest_run_count → runs_trouble (p ++ a) k ≡ Clear → run_start (p ++ a) k + longest_run ≤ longest_job
    start_room k h clear = omega (arith, start_reach (p ++ a) file k clear)

    start_same : (k : ℕ) → k ≤ greatest_run_count → runs_trouble (p ++ a) k ≡ Clear → run_start (p ++ a) k ≡ run_start (p ++ b) k
    unfolding run_start up_to
    start_same zero h clear = ap₂ certificate_place version_same certificate_count_same
    start_same (suc k) h clear =
        let earlier = clear_left _ _ clear in
        ap₂ (λ (v : Version) (x : RunHeader). run_end v (run_start (p ++ a) k) x.counts) version_same (header_same (run_start (p ++ a) k) (start_room k h earlier))
        ∙ ap (next_start (p ++ b)) (start_same k (omega arith) earlier)

    number_same : (k : ℕ) → k ≤ greatest_run_count → runs_trouble (p ++ a) k ≡ Clear → number_before (p ++ a) k ≡ number_before (p ++ b) k
    unfolding number_before up_to
    number_same zero h clear = refl
    number_same (suc k) h clear =
        let earlier = clear_left _ _ clear in
        ap (λ (x : RunHeader). x.number) (header_same (run_start (p ++ a) k) (start_room k h earlier))
        ∙ ap (λ (start : ℕ). (header_at (p ++ b) start).number) (start_same k (omega arith) earlier)

    runs_same : runs_trouble (p ++ a) (run_count_of (p ++ a)) ≡ runs_trouble (p ++ b) (run_count_of (p ++ b))
    runs_same =
        let many = run_count_lem (p ++ a) file in
        up_same _ _ _
        (λ k h clear.
        let below : k < greatest_run_count = omega arith in
        let within : k ≤ greatest_run_count = omega arith in
        run_same (run_start (p ++ a) k) (number_before (p ++ a) k) (start_room k below clear)
        ∙ ap₂ (run_trouble (p ++ b)) (start_same k within clear) (number_same k within clear))
        ∙ ap (runs_trouble (p ++ b)) run_count_same

    end_same : runs_trouble (p ++ a) (run_count_of (p ++ a)) ≡ Clear → end_trouble (p ++ a) (run_start (p ++ a) (run_count_of (p ++ a))) ≡ end_trouble (p ++ b) (run_start (p ++ b) (run_count_of (p ++ b)))
    end_same clear =
        let many = run_count_lem (p ++ a) file in
        let low = start_reach (p ++ a) file (run_count_of (p ++ a)) clear in
        let same = start_same (run_count_of (p ++ a)) many clear ∙ ap (run_start (p ++ b)) run_count_same in
        left_over_lem (p ++ a) _ (omega (arith, length-append p a))
        ∙ ap (At left_over) same
        ∙ sym (left_over_lem (p ++ b) _ (omega (arith, length-append p b)))

  beyond_same : job_trouble (p ++ a) ≡ job_trouble (p ++ b)
  unfolding job_trouble
  beyond_same =
      first_same _ _ _ file_same
      (λ file. first_same _ _ _ (certificates_same file) (λ certificates. first_same _ _ _ (runs_same file) (end_same file)))

-- The first trouble hangs on the bytes of the longest job and one more: where the file goes on ..
longer : (s : List ℕ) (m : ℕ) → longest_job < m → m < length s → job_trouble (take m s) ≡ job_trouble s
longer s m h long =
    let p = take longest_job s in
    let whole : length p ≡ longest_job = length-take-le longest_job s (omega arith) in
    let cut : length (take m s) ≡ m = length-take-le m s (omega arith) in
    let front : take longest_job (take m s) ≡ p = take-take longest_job m s (omega arith) in
    ap job_trouble (sym (take-append-drop longest_job (take m s)) ∙ ap (λ (q : List ℕ). q ++ drop longest_job (take m s)) front)
    ∙ beyond_same p (drop longest_job (take m s)) (drop longest_job s) whole (omega (arith, length-drop longest_job (take m s))) (omega (arith, length-drop longest_job s))
    ∙ ap job_trouble (take-append-drop longest_job s)

-- .. and where it does not
pub prefix : (s : List ℕ) (m : ℕ) → longest_job < m → job_trouble (take m s) ≡ job_trouble s
prefix s m h = by_length (leb (length s) m) refl
  where
    by_length : (fits : Bool) → leb (length s) m ≡ fits → job_trouble (take m s) ≡ job_trouble s
    by_length true e = ap job_trouble (take_all m s (leb-true _ _ e))
    by_length false e = longer s m h (leb-false _ _ e)
