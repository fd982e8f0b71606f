-- A part of a file is good exactly if no trouble is met in it.
use Prim.Native.Nat.{ℕ, zero, suc, ◌+◌, ◌≤◌, ◌<◌}
use mathlib.Core.Path.{◌≡◌, refl, sym, ◌∙◌, ap}
use mathlib.Core.Bool.{Bool, true, false, not, true≢false, false≢true, ◌||◌}
use mathlib.Core.List.{List}
use native.Mathlib.Nat.{lt_trans, lt-suc_self}
use native.Mathlib.Omega.{arith}
use borrow.Author.Tests.{le-leb, lt-ltb, eq-eqb, eqb-true, not-true}
use lib.Dec.{ltb, eqb, lit≤}
use Rattle.readings.specs.Ranges.{within, least_run_number, greatest_run_number, greatest_total_seconds}
use Rattle.readings.proofs.Ranges.{both_left, both_right, within_least, within_greatest}
use Rattle.fields.specs.Trouble.{Trouble, Clear, trouble_unless, repeated, wrong_seconds, left_over, record_trouble, up_to}
use Rattle.fields.proofs.FirstTrouble.{first_clear, clear_left, clear_right, unless_clear, each_clear}
use Rattle.fields.proofs.RecordTrouble.{complete_at, good_at}
use Rattle.records.specs.declared.Certificate.{Certificate}
use Rattle.records.specs.declared.Identity.{Identity}
use Rattle.records.specs.Records.{same_identity}
use Rattle.records.proofs.Identities.{same_equal, same_refl}
use Rattle.heads.specs.Values.{run_header_size, certificate_place}
use Rattle.parts.specs.Values.{point_place, segment_place, run_at}
use Rattle.parts.specs.Rows.{points_trouble, segments_trouble, weighings_trouble}
use Rattle.opening.specs.Opening.{version_of, run_count_of}
use Rattle.job.specs.Places.{run_start}
use Rattle.entries.specs.Entries.{same_certificate, any_to, repeats, entry_trouble}
use Rattle.job.specs.Troubles.{good_seconds, parts_trouble, run_trouble, runs_trouble, number_before, job_trouble}
use Rattle.job.proofs.ClearJobs.{job_clear}
use Rattle.job.proofs.ClearRuns.{run_clear}
use Rattle.entries.proofs.LookBack.{none_of}
use Rattle.demands.specs.ReadingOrder.{Fixed, file_header, one_certificate, run_header, one_point, one_segment, one_weighing, number_of, counts_of, start_of, size_of, rows_of, Good, Repeats, GoodCertificate, GoodCertificates, Above, GoodPoints, GoodSegments, GoodWeighings, total_of_points, total_of_segments, GoodRun, GoodRuns, GoodJob}
use Rattle.demands.proofs.Troubles.{all_clear, unless_good, record_good}

-- the trouble met in a fixed part
abbrev pub fixed_trouble : List ℕ → Fixed → Trouble
fixed_trouble s r = record_trouble s (start_of s r) (size_of s r) (rows_of s r)

pub size_some : (s : List ℕ) (r : Fixed) → 1 ≤ size_of s r
size_some s file_header = lit≤ tt
size_some s (one_certificate k) = omega arith
size_some s (run_header k) = omega arith
size_some s (one_point k i) = lit≤ tt
size_some s (one_segment k i) = lit≤ tt
size_some s (one_weighing k i) = lit≤ tt

pub clear_good : (s : List ℕ) (r : Fixed) → fixed_trouble s r ≡ Clear → Good s r
clear_good s r e = record { complete = complete_at s (start_of s r) (size_of s r) (rows_of s r) (size_some s r) e; fields = good_at s (start_of s r) (size_of s r) (rows_of s r) e }

pub good_clear : (s : List ℕ) (r : Fixed) → Good s r → fixed_trouble s r ≡ Clear
good_clear s r g = record_good s (start_of s r) (size_of s r) (rows_of s r) g.complete g.fields

-- Certificates

-- the comparison that the reader makes is the table's
pub repeats_same : {a b : Certificate} → Repeats a b → same_certificate a b ≡ true
repeats_same {a} {b} h =
    let same = ap (λ (id : Identity). same_identity id b.identity) h.is.identity ∙ same_refl b.identity in
    rw (eq-eqb a.kind b.kind h.is.kind, same, eq-eqb a.day b.day h.day)

pub same_repeats : (a b : Certificate) → same_certificate a b ≡ true → Repeats a b
same_repeats a b e =
    let later = both_right (eqb a.kind b.kind) _ e in
    record {
      is = record { kind = eqb-true _ _ (both_left (eqb a.kind b.kind) _ e); identity = same_equal a.identity b.identity (both_left _ _ later) };
      day = eqb-true _ _ (both_right (same_identity a.identity b.identity) _ later);
    }

-- one of the first n is as asked
pub record OneOf (f : ℕ → Bool) (n : ℕ) : Type 0 where
  pub index : ℕ
  pub inside : index < n
  pub is : f index ≡ true

pub one_found : (f : ℕ → Bool) (n : ℕ) → any_to f n ≡ true → OneOf f n
unfolding any_to
one_found f zero e = absurd (false≢true e)
one_found f (suc n) e = go (any_to f n) refl e (one_found f n)
  where
    go : (b : Bool) → any_to f n ≡ b → (b || f n) ≡ true → (any_to f n ≡ true → OneOf f n) → OneOf f (suc n)
    go true w e before = let b = before w in record { index = b.index; inside = lt_trans b.inside (lt-suc_self n); is = b.is }
    go false w e before = record { index = n; inside = lt-suc_self n; is = e }

pub clear_certificate : (s : List ℕ) (k : ℕ) → entry_trouble s k ≡ Clear → GoodCertificate s k
clear_certificate s k e =
    let alone : repeats s k ≡ false = not-true (repeats s k) (unless_clear _ _ _ (clear_right _ _ e)) in
    record {
      own = clear_good s (one_certificate k) (clear_left _ _ e);
      new = λ j inside same. true≢false (sym (repeats_same same) ∙ none_of _ k alone j inside);
    }

pub good_certificate : (s : List ℕ) (k : ℕ) → GoodCertificate s k → entry_trouble s k ≡ Clear
good_certificate s k g =
    first_clear _ (good_clear s (one_certificate k) g.own) ∙ unless_good repeated (certificate_place (version_of s) k) (ap not (alone (repeats s k) refl))
  where
    alone : (b : Bool) → repeats s k ≡ b → repeats s k ≡ false
    alone true e = let one = one_found _ k e in absurd (g.new one.index one.inside (same_repeats _ _ one.is))
    alone false e = e

-- Runs

pub above_before : (s : List ℕ) (k : ℕ) → number_before s k < number_of s k → Above s k
unfolding number_before run_at
above_before s zero h = tt
above_before s (suc k) h = h

pub before_above : (s : List ℕ) (k : ℕ) → Good s (run_header k) → Above s k → number_before s k < number_of s k
unfolding number_before run_at
before_above s zero g h = within_least least_run_number greatest_run_number _ g.fields.0
before_above s (suc k) g h = h

-- the parts of a run: good exactly where they are clear
pub points_clear : (s : List ℕ) (k n : ℕ) → GoodPoints s k n → points_trouble s (run_start s k + run_header_size (version_of s)) n ≡ Clear
points_clear s k n g = all_clear _ n (λ i h. good_clear s (one_point k i) (g i h))

pub segments_clear : (s : List ℕ) (k n : ℕ) → GoodSegments s k n → segments_trouble s (point_place (version_of s) (run_start s k) (counts_of s k).points) n ≡ Clear
segments_clear s k n g = all_clear _ n (λ i h. good_clear s (one_segment k i) (g i h))

pub weighings_clear : (s : List ℕ) (k n : ℕ) → GoodWeighings s k n → weighings_trouble s (segment_place (version_of s) (run_start s k) (counts_of s k) (counts_of s k).segments) n ≡ Clear
weighings_clear s k n g = all_clear _ n (λ i h. good_clear s (one_weighing k i) (g i h))

pub points_good : (s : List ℕ) (k n : ℕ) → points_trouble s (run_start s k + run_header_size (version_of s)) n ≡ Clear → GoodPoints s k n
points_good s k n clear i inside = clear_good s (one_point k i) (each_clear _ n clear i inside)

pub segments_good : (s : List ℕ) (k n : ℕ) → segments_trouble s (point_place (version_of s) (run_start s k) (counts_of s k).points) n ≡ Clear → GoodSegments s k n
segments_good s k n clear i inside = clear_good s (one_segment k i) (each_clear _ n clear i inside)

pub weighings_good : (s : List ℕ) (k n : ℕ) → weighings_trouble s (segment_place (version_of s) (run_start s k) (counts_of s k) (counts_of s k).segments) n ≡ Clear → GoodWeighings s k n
weighings_good s k n clear i inside = clear_good s (one_weighing k i) (each_clear _ n clear i inside)

pub clear_run : (s : List ℕ) (k : ℕ) → run_trouble s (run_start s k) (number_before s k) ≡ Clear → GoodRun s k
unfolding run_at
clear_run s k e =
    let r = run_clear s (run_start s k) (number_before s k) e in
    record {
      header = clear_good s (run_header k) r.header;
      above = above_before s k r.above;
      points = points_good s k _ r.points;
      segments = segments_good s k _ r.segments;
      weighings = weighings_good s k _ r.weighings;
      total = within_greatest 0 greatest_total_seconds _ r.total;
      balanced = r.balanced;
    }

pub number_clear : (s : List ℕ) (k : ℕ) → Good s (run_header k) → Above s k → trouble_unless (ltb (number_before s k) (number_of s k)) repeated (run_start s k) ≡ Clear
number_clear s k g h = unless_good repeated (run_start s k) (lt-ltb _ _ (before_above s k g h))

good_seconds_lem : (s : List ℕ) (k : ℕ) → GoodRun s k → good_seconds s (run_start s k) (counts_of s k) ≡ true
unfolding within
good_seconds_lem s k g = rw (le-leb 0 (total_of_points s k) (omega arith), le-leb (total_of_points s k) greatest_total_seconds g.total, eq-eqb (total_of_segments s k) (total_of_points s k) g.balanced)

pub good_run : (s : List ℕ) (k : ℕ) → GoodRun s k → run_trouble s (run_start s k) (number_before s k) ≡ Clear
unfolding run_trouble parts_trouble run_at
good_run s k g =
    first_clear _ (good_clear s (run_header k) g.header)
    ∙ first_clear _ (number_clear s k g.header g.above)
    ∙ first_clear _ (points_clear s k _ g.points)
    ∙ first_clear _ (segments_clear s k _ g.segments)
    ∙ first_clear _ (weighings_clear s k _ g.weighings)
    ∙ unless_good wrong_seconds (run_start s k) (good_seconds_lem s k g)

-- The whole file

pub certificates_clear : (s : List ℕ) (n : ℕ) → GoodCertificates s n → up_to (entry_trouble s) n ≡ Clear
certificates_clear s n g = all_clear _ n (λ k h. good_certificate s k (g k h))

pub certificates_good : (s : List ℕ) (n : ℕ) → up_to (entry_trouble s) n ≡ Clear → GoodCertificates s n
certificates_good s n clear k inside = clear_certificate s k (each_clear _ n clear k inside)

pub runs_clear : (s : List ℕ) (n : ℕ) → GoodRuns s n → runs_trouble s n ≡ Clear
runs_clear s n g = all_clear _ n (λ k h. good_run s k (g k h))

pub runs_good : (s : List ℕ) (n : ℕ) → runs_trouble s n ≡ Clear → GoodRuns s n
runs_good s n clear k inside = clear_run s k (each_clear _ n clear k inside)

-- a job is good exactly if the reader meets no trouble
pub clear_job : (s : List ℕ) → job_trouble s ≡ Clear → GoodJob s
clear_job s e =
    let j = job_clear s e in
    record {
      header = clear_good s file_header j.file;
      certificates = certificates_good s _ j.certificates;
      runs = runs_good s _ j.runs;
      end = j.end;
    }

pub good_job : (s : List ℕ) → GoodJob s → job_trouble s ≡ Clear
unfolding job_trouble
good_job s g =
    first_clear _ (good_clear s file_header g.header)
    ∙ first_clear _ (certificates_clear s _ g.certificates)
    ∙ first_clear _ (runs_clear s _ g.runs)
    ∙ unless_good left_over (run_start s (run_count_of s)) (le-leb _ _ g.end)
