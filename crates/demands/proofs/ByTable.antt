-- The reader's refusals are the table's rows, and every row that applies is the reader's refusal.
use Prim.Native.Nat.{ℕ, zero, suc, ◌+◌, ◌≤◌, ◌<◌, zero-le}
use mathlib.Core.Path.{◌≡◌, refl, sym, ◌∙◌, ap, subst, subst₂}
use mathlib.Core.Bool.{Bool, true, false, true≢false, false≢true, not, ◌||◌}
use mathlib.Core.List.{List}
use mathlib.Core.Logic.{◌⊎◌, inl, inr, ◌↔◌}
use borrow.Author.Tests.{leb-false, le-leb, lt-leb, lt-ltb, le-ltb, ltb-true, ltb-false, ne_eqb, eqb-true, eqb-false, not-false}
use native.Mathlib.Omega.{arith}
use lib.Dec.{leb, ltb, eqb, lit≤}
use lib.ListN.{length}
use Rattle.readings.specs.Ranges.{within, least_version, greatest_version, version, greatest_total_seconds, total_seconds}
use Rattle.readings.proofs.Ranges.{within_least, within_greatest}
use Rattle.fields.specs.Trouble.{Trouble, Clear, At, first, trouble_unless, repeated, wrong_seconds, left_over, Row}
use Rattle.fields.proofs.FirstTrouble.{first_clear, first_at, unless_clear, told, each, checks_told, stops}
use Rattle.fields.specs.Numbers.{u16_at}
use Rattle.opening.specs.Opening.{file_header_size, version_of, certificate_count_of, run_count_of, file_rows, file_trouble}
use Rattle.heads.specs.Values.{run_header_size, certificate_place, certificate_of}
use Rattle.parts.specs.Values.{point_place, segment_place, run_at}
use Rattle.parts.specs.Rows.{points_trouble, segments_trouble, weighings_trouble}
use Rattle.records.specs.declared.Counts.{Counts}
use Rattle.heads.specs.Rows.{certificate_trouble}
use Rattle.job.specs.Places.{run_start}
use Rattle.entries.specs.Entries.{same_certificate, repeats, entry_trouble}
use Rattle.job.specs.Troubles.{certificates_trouble, good_seconds, parts_trouble, run_trouble, runs_trouble, number_before, end_trouble, job_trouble}
use Rattle.findings.proofs.Accepting.{and_false}
use Rattle.entries.proofs.LookBack.{any_stops}
use Rattle.demands.specs.ReadingOrder.{Fixed, file_header, one_certificate, run_header, one_point, one_segment, one_weighing, number_of, counts_of, start_of, size_of, rows_of, Complete, Good, total_of_points, total_of_segments, GoodJob, ReachedCertificate, ReachedRun, ReachedParts, Reached}
use Rattle.demands.specs.Table.{FirstBad, here, later, NotNew, certificate_again, number_not_above, FileRefused, row1, row2, row3, row4, row5, row6, row7, row8}
use Rattle.demands.proofs.Troubles.{Met, early, late, met, failed, MetIn, met_in, unless_bad, RecordMet, short, bad, record_met, record_short, bad_checks, record_bad}
use Rattle.demands.proofs.GoodParts.{fixed_trouble, size_some, clear_good, good_clear, repeats_same, same_repeats, one_found, above_before, before_above, points_good, segments_good, weighings_good, certificates_good, runs_good, points_clear, segments_clear, weighings_clear, number_clear, certificates_clear, runs_clear, clear_job, good_job}

-- Where a row applies, that is the reader's answer

module _ (s : List ℕ) {n p : ℕ} where
  -- what is told of a certificate or a run that is reached is told of the file
  at_certificate : (k : ℕ) → ReachedCertificate s k → entry_trouble s k ≡ At n p → job_trouble s ≡ At n p
  unfolding job_trouble
  at_certificate k r told =
      first_clear _ (good_clear s file_header r.header)
      ∙ first_at _ (sym (stops (entry_trouble s) k (certificate_count_of s) (certificates_clear s k r.earlier) refl told r.inside) ∙ told)

  at_run : (k : ℕ) → ReachedRun s k → run_trouble s (run_start s k) (number_before s k) ≡ At n p → job_trouble s ≡ At n p
  unfolding job_trouble
  at_run k r told =
      first_clear _ (good_clear s file_header r.header)
      ∙ first_clear _ (certificates_clear s _ r.certificates)
      ∙ first_at _ (sym (stops (λ i. run_trouble s (run_start s i) (number_before s i)) k (run_count_of s) (runs_clear s k r.earlier) refl told r.inside) ∙ told)

  at_parts : (k : ℕ) → ReachedParts s k → parts_trouble s (run_start s k) (counts_of s k) ≡ At n p → job_trouble s ≡ At n p
  unfolding run_trouble run_at
  at_parts k r told =
      at_run k r.run
      (first_clear _ (good_clear s (run_header k) r.header)
      ∙ first_clear _ (number_clear s k r.header r.above)
      ∙ told)

  -- and so is what is told of any fixed part
  pub at_fixed : (r : Fixed) → Reached s r → fixed_trouble s r ≡ At n p → job_trouble s ≡ At n p
  unfolding job_trouble run_trouble parts_trouble
  at_fixed file_header reached told = first_at _ told
  at_fixed (one_certificate k) reached told = at_certificate k reached (first_at _ told)
  at_fixed (run_header k) reached told = at_run k reached (first_at _ told)
  at_fixed (one_point k i) reached told =
      at_parts k reached.parts
      (first_at _ (sym (stops (λ j. fixed_trouble s (one_point k j)) i _ (points_clear s k i reached.earlier) refl told reached.inside) ∙ told))
  at_fixed (one_segment k i) reached told =
      at_parts k reached.parts
      (first_clear _ (points_clear s k _ reached.points)
      ∙ first_at _ (sym (stops (λ j. fixed_trouble s (one_segment k j)) i _ (segments_clear s k i reached.earlier) refl told reached.inside) ∙ told))
  at_fixed (one_weighing k i) reached told =
      at_parts k reached.parts
      (first_clear _ (points_clear s k _ reached.points)
      ∙ first_clear _ (segments_clear s k _ reached.segments)
      ∙ first_at _ (sym (stops (λ j. fixed_trouble s (one_weighing k j)) i _ (weighings_clear s k i reached.earlier) refl told reached.inside) ∙ told))

not_above : (s : List ℕ) (k : ℕ) → number_of s (suc k) ≤ number_of s k → ltb (number_before s (suc k)) (number_of s (suc k)) ≡ false
unfolding number_before run_at
not_above s k low = le-ltb (number_of s k) (number_of s (suc k)) low

-- the seconds are judged wrong where they are too many or not the same
wrong_seconds_lem : (s : List ℕ) (k : ℕ) → (greatest_total_seconds < total_of_points s k) ⊎ (total_of_segments s k ≡ total_of_points s k → ⊥) → good_seconds s (run_start s k) (counts_of s k) ≡ false
unfolding within
wrong_seconds_lem s k (inl many) = rw (le-leb 0 (total_of_points s k) zero-le, lt-leb (total_of_points s k) greatest_total_seconds many)
wrong_seconds_lem s k (inr other) = rw (ne_eqb (total_of_segments s k) (total_of_points s k) other) (sym (and_false (total_seconds (total_of_points s k))))

-- and where they are judged wrong, one or the other
seconds_wrong : (s : List ℕ) (k : ℕ) → good_seconds s (run_start s k) (counts_of s k) ≡ false → (greatest_total_seconds < total_of_points s k) ⊎ (total_of_segments s k ≡ total_of_points s k → ⊥)
unfolding within
seconds_wrong s k e = go (leb (total_of_points s k) greatest_total_seconds) refl
  where
    go : (t : Bool) → leb (total_of_points s k) greatest_total_seconds ≡ t → (greatest_total_seconds < total_of_points s k) ⊎ (total_of_segments s k ≡ total_of_points s k → ⊥)
    go false f = inl (leb-false _ _ f)
    go true f = inr (eqb-false _ _ (rw (le-leb 0 (total_of_points s k) zero-le, f) at e))

-- the version is judged wrong where it is neither 1 nor 2 ..
neither : (n : ℕ) → (n ≡ 1 → ⊥) → (n ≡ 2 → ⊥) → version n ≡ false
neither n not-one not-two = go (version n) refl
  where
    go : (t : Bool) → version n ≡ t → version n ≡ false
    go false e = e
    go true e = absurd (omega (arith, within_least least_version greatest_version n e, within_greatest least_version greatest_version n e, not-one, not-two))

-- .. and where it is judged wrong, it is no version in range
other_version : (v : ℕ) → least_version ≤ v → v ≤ greatest_version → {n : ℕ} → version n ≡ false → n ≡ v → ⊥
unfolding within
other_version v low high {n} e same = true≢false (sym (rw (same, le-leb least_version v low, le-leb v greatest_version high)) ∙ e)

pub row_told : (s : List ℕ) {n p : ℕ} → FileRefused s n p → job_trouble s ≡ At n p
unfolding job_trouble run_trouble parts_trouble run_at
row_told s (row1 r reached less) = at_fixed s r reached (record_short s (start_of s r) (size_of s r) (rows_of s r) (size_some s r) less)
row_told s (row2 complete not-marked) = at_fixed s file_header tt (record_bad s 0 file_header_size (file_rows s) complete (here not-marked refl refl))
row_told s (row3 complete is-marked not-one not-two) =
    at_fixed s file_header tt (record_bad s 0 file_header_size (file_rows s) complete (later is-marked (here (neither (u16_at s 3) not-one not-two) refl refl)))
row_told s (row4 r reached complete b) = at_fixed s r reached (record_bad s (start_of s r) (size_of s r) (rows_of s r) complete b)
row_told s (row5 r reached complete b) = at_fixed s r reached (record_bad s (start_of s r) (size_of s r) (rows_of s r) complete b)
row_told s (row6 (certificate_again j k reached good inside same)) =
    at_certificate s k reached
    (first_clear _ (good_clear s (one_certificate k) good)
    ∙ unless_bad repeated (certificate_place (version_of s) k) (ap not (sym (any_stops (λ i. same_certificate (certificate_of s i) (certificate_of s k)) j k refl (repeats_same same) inside))))
row_told s (row6 (number_not_above k reached good low)) =
    at_run s (suc k) reached
    (first_clear _ (good_clear s (run_header (suc k)) good)
    ∙ first_at _ (unless_bad repeated (run_start s (suc k)) (not_above s k low)))
row_told s (row7 k r wrong) =
    at_parts s k r.parts
    (first_clear _ (points_clear s k _ r.points)
    ∙ first_clear _ (segments_clear s k _ r.segments)
    ∙ first_clear _ (weighings_clear s k _ r.weighings)
    ∙ unless_bad wrong_seconds (run_start s k) (wrong_seconds_lem s k wrong))
row_told s (row8 r more) =
    first_clear _ (good_clear s file_header r.header)
    ∙ first_clear _ (certificates_clear s _ r.certificates)
    ∙ first_clear _ (runs_clear s _ r.runs)
    ∙ unless_bad left_over (run_start s (run_count_of s)) (lt-leb _ _ more)

-- a number that is not above the one before: the run is not the first
not_new : (s : List ℕ) (k : ℕ) → ReachedRun s k → Good s (run_header k) → ltb (number_before s k) (number_of s k) ≡ false → NotNew s (run_start s k)
unfolding number_before run_at
not_new s zero r good e = absurd (true≢false (sym (lt-ltb _ _ (before_above s zero good tt)) ∙ e))
not_new s (suc k) r good e = number_not_above k r good (ltb-false _ _ e)

-- What the reader answers is a row of the table

-- a row of another number and place that are the same
same_row : {s : List ℕ} {m q n p : ℕ} → m ≡ n → q ≡ p → FileRefused s m q → FileRefused s n p
same_row {s} number place row = subst₂ (λ (n p : ℕ). FileRefused s n p) number place row

-- the numbers of a part's fields behind the file's header are 4 and 5
abbrev of_field : ℕ → Bool
of_field n = eqb n 4 || eqb n 5

field_number : (rows : List Row) {n p : ℕ} → each (λ n p. of_field n) rows ≡ true → FirstBad n p rows → of_field n ≡ true
field_number rows {n} {p} all b = subst (λ (t : Trouble). told (λ n p. of_field n) t ≡ true) (bad_checks b) (checks_told (λ n p. of_field n) Clear rows refl all)

module _ (s : List ℕ) {n p : ℕ} where
  row_of_field : (r : Fixed) → Reached s r → Complete s r → {q : ℕ} → of_field n ≡ true → FirstBad n q (rows_of s r) → start_of s r + q ≡ p → FileRefused s n p
  row_of_field r reached complete {q} known b there = go (eqb n 4) refl
    where
      five : (t : Bool) → eqb n 5 ≡ t → eqb n 4 ≡ false → FileRefused s n p
      five true e f = let is = eqb-true n 5 e in same_row (sym is) there (row5 r reached complete (subst (λ (m : ℕ). FirstBad m q (rows_of s r)) is b))
      five false e f = absurd (false≢true (sym (rw (f, e)) ∙ known))

      go : (t : Bool) → eqb n 4 ≡ t → FileRefused s n p
      go true e = let is = eqb-true n 4 e in same_row (sym is) there (row4 r reached complete (subst (λ (m : ℕ). FirstBad m q (rows_of s r)) is b))
      go false e = five (eqb n 5) refl e

  -- a fixed part that is reached, behind the file's header
  of_fixed : (r : Fixed) → Reached s r → each (λ n p. of_field n) (rows_of s r) ≡ true → fixed_trouble s r ≡ At n p → FileRefused s n p
  of_fixed r reached fields told = go (record_met s (start_of s r) (size_of s r) (rows_of s r) (size_some s r) told)
    where
      go : RecordMet s (start_of s r) (size_of s r) (rows_of s r) n p → FileRefused s n p
      go (short less number place) = same_row number place (row1 r reached less)
      go (bad complete b there) = row_of_field r reached complete (field_number (rows_of s r) fields b) b there

  of_header_lem : fixed_trouble s file_header ≡ At n p → FileRefused s n p
  of_header_lem told = go (record_met s 0 file_header_size (file_rows s) (size_some s file_header) told)
    where
      go : RecordMet s 0 file_header_size (file_rows s) n p → FileRefused s n p
      go (short less number place) = same_row number place (row1 file_header tt less)
      go (bad complete (here not number there-in) there) = same_row number (cc) (row2 complete not)
      go (bad complete (later ok (here not number there-in)) there) = same_row number (cc) (row3 complete ok (other_version 1 (lit≤ tt) (lit≤ tt) not) (other_version 2 (lit≤ tt) (lit≤ tt) not))
      go (bad complete (later ok (later ok' b)) there) = row_of_field file_header tt complete (field_number _ refl b) (later ok (later ok' b)) there

  of_certificates : Good s file_header → MetIn (entry_trouble s) (certificate_count_of s) n p → FileRefused s n p
  of_certificates header m = go (met _ _ m.told)
    where
      k : ℕ
      k = m.index

      reached : ReachedCertificate s k
      reached = record { header = header; inside = m.inside; earlier = certificates_good s _ m.clear }

      go : Met (certificate_trouble s (certificate_place (version_of s) k)) (trouble_unless (not (repeats s k)) repeated (certificate_place (version_of s) k)) n p → FileRefused s n p
      go (early t) = of_fixed (one_certificate k) reached refl t
      go (late c t) =
          let f = failed (not (repeats s k)) repeated (certificate_place (version_of s) k) t in
          let one = one_found _ k (not-false (repeats s k) f.not) in
          same_row f.number f.place (row6 (certificate_again one.index k reached (clear_good s (one_certificate k) c) one.inside (same_repeats _ _ one.is)))

  -- what is told of the parts of a run that is reached
  of_parts : (k : ℕ) → ReachedParts s k → parts_trouble s (run_start s k) (counts_of s k) ≡ At n p → FileRefused s n p
  unfolding parts_trouble
  of_parts k r e = after_header (met _ _ e)
    where
      counts : Counts
      counts = counts_of s k

      start : ℕ
      start = run_start s k

      seconds : Trouble
      seconds = trouble_unless (good_seconds s start counts) wrong_seconds start

      weighings : Trouble
      weighings = weighings_trouble s (segment_place (version_of s) start counts counts.segments) counts.weighings

      segments : Trouble
      segments = segments_trouble s (point_place (version_of s) start counts.points) counts.segments

      points : Trouble
      points = points_trouble s (start + run_header_size (version_of s)) counts.points

      at_seconds : points ≡ Clear → segments ≡ Clear → weighings ≡ Clear → seconds ≡ At n p → FileRefused s n p
      at_seconds c d f t =
          let w = failed (good_seconds s start counts) wrong_seconds start t in
          same_row w.number w.place
          (row7 k
          (record {
            parts = r;
            points = points_good s k _ c;
            segments = segments_good s k _ d;
            weighings = weighings_good s k _ f;
          })
          (seconds_wrong s k w.not))

      at_weighing : points ≡ Clear → segments ≡ Clear → MetIn (λ i. fixed_trouble s (one_weighing k i)) counts.weighings n p → FileRefused s n p
      at_weighing c d m =
          of_fixed (one_weighing k m.index)
          (record {
            parts = r;
            points = points_good s k _ c;
            segments = segments_good s k _ d;
            inside = m.inside;
            earlier = weighings_good s k _ m.clear;
          })
          refl m.told

      at_segment : points ≡ Clear → MetIn (λ i. fixed_trouble s (one_segment k i)) counts.segments n p → FileRefused s n p
      at_segment c m =
          of_fixed (one_segment k m.index)
          (record {
            parts = r;
            points = points_good s k _ c;
            inside = m.inside;
            earlier = segments_good s k _ m.clear;
          })
          refl m.told

      at_point : MetIn (λ i. fixed_trouble s (one_point k i)) counts.points n p → FileRefused s n p
      at_point m =
          of_fixed (one_point k m.index)
          (record { parts = r; inside = m.inside; earlier = points_good s k _ m.clear })
          refl m.told

      after_segments : points ≡ Clear → segments ≡ Clear → Met weighings seconds n p → FileRefused s n p
      after_segments c d (early t) = at_weighing c d (met_in _ _ t)
      after_segments c d (late f t) = at_seconds c d f t

      after_points : points ≡ Clear → Met segments (first weighings seconds) n p → FileRefused s n p
      after_points c (early t) = at_segment c (met_in _ _ t)
      after_points c (late d t) = after_segments c d (met _ _ t)

      after_header : Met points (first segments (first weighings seconds)) n p → FileRefused s n p
      after_header (early t) = at_point (met_in _ _ t)
      after_header (late c t) = after_points c (met _ _ t)

  -- a run that is reached
  of_run_lem : (k : ℕ) → ReachedRun s k → run_trouble s (run_start s k) (number_before s k) ≡ At n p → FileRefused s n p
  unfolding run_trouble run_at
  of_run_lem k r e = own (met _ _ e)
    where
      number : Trouble
      number = trouble_unless (ltb (number_before s k) (number_of s k)) repeated (run_start s k)

      behind : Good s (run_header k) → Met number (parts_trouble s (run_start s k) (counts_of s k)) n p → FileRefused s n p
      behind good (early t) =
          let f = failed (ltb (number_before s k) (number_of s k)) repeated (run_start s k) t in
          same_row f.number f.place (row6 (not_new s k r good f.not))
      behind good (late c t) =
          of_parts k (record { run = r; header = good; above = above_before s k (ltb-true _ _ (unless_clear _ _ _ c)) }) t

      own : Met (fixed_trouble s (run_header k)) (first number (parts_trouble s (run_start s k) (counts_of s k))) n p → FileRefused s n p
      own (early t) = of_fixed (run_header k) r refl t
      own (late c t) = behind (clear_good s (run_header k) c) (met _ _ t)

pub told_row : (s : List ℕ) {n p : ℕ} → job_trouble s ≡ At n p → FileRefused s n p
unfolding job_trouble
told_row s {n} {p} e = file (met _ _ e)
  where
    end : Trouble
    end = end_trouble s (run_start s (run_count_of s))

    runs : Trouble
    runs = runs_trouble s (run_count_of s)

    certificates : Trouble
    certificates = certificates_trouble s

    behind_runs : Good s file_header → certificates ≡ Clear → Met runs end n p → FileRefused s n p
    behind_runs header c (early t) =
        let m = met_in _ _ t in
        of_run_lem s m.index
        (record {
          header = header;
          certificates = certificates_good s _ c;
          inside = m.inside;
          earlier = runs_good s _ m.clear;
        })
        m.told
    behind_runs header c (late d t) =
        let f = failed (leb (length s) (run_start s (run_count_of s))) left_over (run_start s (run_count_of s)) t in
        same_row f.number f.place
        (row8
        (record {
          header = header;
          certificates = certificates_good s _ c;
          runs = runs_good s _ d;
        })
        (leb-false _ _ f.not))

    behind_certificates : Good s file_header → Met certificates (first runs end) n p → FileRefused s n p
    behind_certificates header (early t) = of_certificates s header (met_in _ _ t)
    behind_certificates header (late c t) = behind_runs header c (met _ _ t)

    file : Met (file_trouble s) (first certificates (first runs end)) n p → FileRefused s n p
    file (early t) = of_header_lem s t
    file (late c t) = behind_certificates (clear_good s file_header c) (met _ _ t)

-- The reader meets a trouble exactly where a row applies, and none exactly where the job is good
pub reader_by_table : (s : List ℕ) → ((n p : ℕ) → (job_trouble s ≡ At n p) ↔ FileRefused s n p) × ((job_trouble s ≡ Clear) ↔ GoodJob s)
reader_by_table s = ((λ n p. (told_row s, row_told s)), (clear_job s, good_job s))
