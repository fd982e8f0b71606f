-- Every refusal's place lies within the longest job: a record begins where the counts before it, in range, allow, and its trouble reaches no further than its end.
use Prim.Native.Nat.{ℕ, zero, suc, ◌+◌, ◌*◌, ◌≤◌, ◌<◌}
use mathlib.Core.Path.{◌≡◌, refl, subst}
use mathlib.Core.Bool.{Bool, true, false, not}
use mathlib.Core.List.{List}
use native.Mathlib.Nat.{le_trans, mul-suc, mul-le-mul_left, lt_trans, lt-suc_self}
use native.Mathlib.Omega.{arith}
use borrow.Author.Tests.{leb-false}
use lib.Dec.{leb, ltb, lit≤}
use lib.ListN.{length, drop, length-drop}
use Rattle.parts.specs.Values.{point_size, segment_size, weighing_size}
use Rattle.readings.specs.Ranges.{least_point_count, greatest_point_count, least_segment_count, greatest_segment_count, greatest_weighing_count, greatest_certificate_count}
use Rattle.fields.specs.Trouble.{Trouble, Clear, At, first, trouble_unless, incomplete, repeated, wrong_seconds, left_over, Row, checks, trouble_place, from, up_to, record_trouble}
use Rattle.fields.proofs.FirstTrouble.{each, clear_left, each_clear, checks_reach}
use Rattle.readings.proofs.Ranges.{within_greatest}
use Rattle.records.specs.declared.Counts.{Counts}
use Rattle.heads.proofs.InRange.{header_ok}
use Rattle.readings.specs.declared.headers.Version.TheVariants.{Two}
use Rattle.opening.specs.Opening.{file_header_size, version_of, certificate_count_of, run_count_of, file_trouble}
use Rattle.opening.proofs.HowMany.{few}
use Rattle.heads.specs.Values.{header_at, spare_byte, certificate_of, certificate_place, certificate_size, run_header_size}
use Rattle.heads.proofs.Places.{certificate_within, header_within}
use Rattle.heads.specs.Rows.{header_trouble}
use Rattle.job.specs.Places.{run_start, longest_run, longest_job}
use Rattle.entries.specs.Entries.{repeats, entry_trouble}
use Rattle.job.specs.Troubles.{good_seconds, parts_trouble, number_before, run_trouble, runs_trouble, job_trouble}
use Rattle.job.proofs.ClearRuns.{run_clear}
use Rattle.job.proofs.WholeFile.{certificate_count_lem, run_count_lem}

-- How far the place of a trouble reaches

module _ {m : ℕ} where
  -- the later of two matters only where the earlier is clear
  first_reach : (t u : Trouble) → trouble_place t ≤ m → (t ≡ Clear → trouble_place u ≤ m) → trouble_place (first t u) ≤ m
  unfolding first
  first_reach Clear u h later = later refl
  first_reach (At n p) u h later = h

  unless_reach : (ok : Bool) (n p : ℕ) → p ≤ m → trouble_place (trouble_unless ok n p) ≤ m
  unless_reach true n p h = omega arith
  unless_reach false n p h = h

  up_reach : (f : ℕ → Trouble) (n : ℕ) → ((i : ℕ) → i < n → up_to f i ≡ Clear → trouble_place (f i) ≤ m) → trouble_place (up_to f n) ≤ m
  unfolding up_to
  up_reach f zero h = omega arith
  up_reach f (suc n) h = first_reach (up_to f n) (f n) (up_reach f n (λ i l. h i (lt_trans l (lt-suc_self n)))) (h n (lt-suc_self n))

from_reach : (start m : ℕ) (t : Trouble) → trouble_place t ≤ m → trouble_place (from start t) ≤ start + m
from_reach start m Clear h = omega arith
from_reach start m (At n p) h = omega arith

-- a record: no further than its end, also where the file ends before that
record_reach : (s : List ℕ) (at size : ℕ) (rows : List Row) {m : ℕ} → each (λ n p. leb p size) rows ≡ true → at + size ≤ m → trouble_place (record_trouble s at size rows) ≤ m
unfolding record_trouble
record_reach s at size rows {m} low room =
    first_reach _ _ (short (leb size (length (drop at s))) refl)
    (λ whole. le_trans (from_reach at size (checks Clear rows) (checks_reach size rows low)) room)
  where
    short : (ok : Bool) → leb size (length (drop at s)) ≡ ok → trouble_place (trouble_unless ok incomplete (length s)) ≤ m
    short true e = omega arith
    short false e = omega (arith, leb-false size (length (drop at s)) e, length-drop at s)

-- records of one size that stand one after the other: no further than the end of the last
row_reach :
    (s : List ℕ) (at size : ℕ) (rows : ℕ → List Row) (n : ℕ) {m : ℕ}
    → ((i : ℕ) → each (λ n p. leb p size) (rows i) ≡ true)
    → at + size * n ≤ m
    → trouble_place (up_to (λ i. record_trouble s (at + size * i) size (rows i)) n) ≤ m
row_reach s at size rows n {m} low room =
    up_reach _ n
    (λ i h clear.
    let below : size * suc i ≤ size * n = mul-le-mul_left size h in
    record_reach s (at + size * i) size (rows i) (low i) (omega (arith, mul-suc size i)))

-- Runs

-- no more points, segments and weighings than there may be
pub record Few (n : Counts) : Type 0 where
  pub points : n.points ≤ greatest_point_count
  pub segments : n.segments ≤ greatest_segment_count
  pub weighings : n.weighings ≤ greatest_weighing_count

-- as a run's header says, if it is without trouble
pub few_parts : (s : List ℕ) (start : ℕ) → header_trouble s start ≡ Clear → Few (header_at s start).counts
few_parts s start e =
    let ok = header_ok s start e in
    record {
      points = within_greatest least_point_count greatest_point_count _ ok.points;
      segments = within_greatest least_segment_count greatest_segment_count _ ok.segments;
      weighings = within_greatest 0 greatest_weighing_count _ ok.weighings;
    }

run_reach : (s : List ℕ) (start lower : ℕ) {m : ℕ} → start + longest_run ≤ m → trouble_place (run_trouble s start lower) ≤ m
unfolding run_trouble parts_trouble
run_reach s start lower {m} room =
    let v = version_of s in
    let h = header_at s start in
    first_reach _ _ (record_reach s start (run_header_size v) _ (header_within v h (spare_byte v (drop start s))) (omega (arith, few v 3)))
    (λ header.
    let n = h.counts in
    let parts = few_parts s start header in
    let more = few v 3 in
    first_reach _ _ (unless_reach (ltb lower (header_at s start).number) repeated start (omega arith))
    (λ above.
    first_reach _ _ (row_reach s _ point_size _ n.points (λ i. refl) (omega arith))
    (λ points.
    first_reach _ _ (row_reach s _ segment_size _ n.segments (λ i. refl) (omega arith))
    (λ segments.
    first_reach _ _ (row_reach s _ weighing_size _ n.weighings (λ i. refl) (omega arith))
    (λ weighings. unless_reach (good_seconds s start n) wrong_seconds start (omega arith))))))

-- where a run starts if those before it are clear: after the header, at most 64 certificates and those runs
pub start_reach : (s : List ℕ) → file_trouble s ≡ Clear → (k : ℕ) → runs_trouble s k ≡ Clear → run_start s k ≤ certificate_place Two greatest_certificate_count + longest_run * k
unfolding run_start up_to
start_reach s e zero clear = omega (arith, certificate_count_lem s e, few (version_of s) (certificate_count_of s))
start_reach s e (suc k) clear =
    let before = start_reach s e k (clear_left _ _ clear) in
    let parts = few_parts s (run_start s k) (run_clear s (run_start s k) (number_before s k) (each_clear _ (suc k) clear k (lt-suc_self k))).header in
    omega (arith, mul-suc longest_run k, few (version_of s) 3)

-- The whole file

entry_reach : (s : List ℕ) (k : ℕ) {m : ℕ} → certificate_place (version_of s) k + certificate_size (version_of s) ≤ m → trouble_place (entry_trouble s k) ≤ m
entry_reach s k room =
    let v = version_of s in
    first_reach _ _ (record_reach s (certificate_place v k) (certificate_size v) _ (certificate_within v (certificate_of s k)) room)
    (λ own. unless_reach (not (repeats s k)) repeated (certificate_place v k) (omega arith))

job_reach : (s : List ℕ) → trouble_place (job_trouble s) ≤ longest_job
unfolding job_trouble
job_reach s =
    first_reach _ _ (record_reach s 0 file_header_size _ refl (lit≤ tt))
    (λ file.
    let certificates = certificate_count_lem s file in
    let runs = run_count_lem s file in
    first_reach _ _ (up_reach (entry_trouble s) _ (λ k h clear. entry_reach s k (omega (arith, few (version_of s) k, few (version_of s) 1))))
    (λ held.
    first_reach _ _ (up_reach _ _ (λ k h clear. run_reach s (run_start s k) (number_before s k) (omega (arith, start_reach s file k clear))))
    (λ walked. unless_reach (leb (length s) (run_start s (run_count_of s))) left_over _ (omega (arith, start_reach s file _ walked)))))

pub places : (s : List ℕ) {n p : ℕ} → job_trouble s ≡ At n p → p ≤ longest_job
places s e = subst (λ (t : Trouble). trouble_place t ≤ longest_job) e (job_reach s)
