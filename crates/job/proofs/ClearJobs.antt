-- What a job without trouble is: every run and certificate in range, no certificate twice, run numbers that rise, and no byte after the last run.
use Prim.Native.Nat.{ℕ, zero, suc, ◌≤◌, ◌<◌}
use mathlib.Core.Path.{◌≡◌, refl, sym, ◌∙◌, subst}
use mathlib.Core.Bool.{true, false, true≢false}
use mathlib.Core.List.{List}
use mathlib.Core.Logic.{⊎_elim}
use native.Mathlib.Nat.{lt_trans, lt-suc_self, le_of_suc-le-suc, le_antisymm, eq-or-lt_of_le}
use native.Mathlib.Omega.{arith}
use borrow.Author.Tests.{leb-true, eq-eqb, not-true}
use lib.ListN.{length}
use Rattle.readings.specs.Ranges.{least_point_count, greatest_point_count, least_segment_count, greatest_segment_count, greatest_weighing_count}
use Rattle.fields.specs.Trouble.{Clear}
use Rattle.fields.proofs.FirstTrouble.{clear_left, clear_right, unless_clear, each_clear}
use Rattle.readings.proofs.Ranges.{within_greatest}
use Rattle.records.specs.declared.Identity.{Identity}
use Rattle.records.specs.Records.{same_identity}
use Rattle.records.specs.InRange.{CertificateOk, RunOk}
use Rattle.records.proofs.Identities.{same_refl}
use Rattle.heads.specs.Values.{header_at, certificate_place, certificate_of}
use Rattle.parts.specs.Values.{run_at, RunWithin}
use Rattle.heads.proofs.InRange.{certificate_ok}
use Rattle.parts.proofs.InRange.{run_ok}
use Rattle.opening.specs.Opening.{version_of, certificate_count_of, run_count_of, file_trouble}
use Rattle.job.specs.Places.{run_start, run_of}
use Rattle.entries.specs.Entries.{same_certificate, repeats, entry_trouble}
use Rattle.job.specs.Troubles.{certificates_trouble, number_before, runs_trouble, job_trouble}
use Rattle.job.proofs.ClearRuns.{RunClear, run_clear, run_fits}
use Rattle.entries.proofs.LookBack.{none_of}
use Rattle.job.proofs.WholeFile.{certificates_fit}

-- each part of it is clear
pub record JobClear (s : List ℕ) : Type 0 where
  pub file : file_trouble s ≡ Clear
  pub certificates : certificates_trouble s ≡ Clear
  pub runs : runs_trouble s (run_count_of s) ≡ Clear
  pub end : length s ≤ run_start s (run_count_of s)

pub job_clear : (s : List ℕ) → job_trouble s ≡ Clear → JobClear s
unfolding job_trouble
job_clear s e =
    let after = clear_right _ _ e in
    let rest = clear_right _ _ after in
    record {
      file = clear_left _ _ e;
      certificates = clear_left _ _ after;
      runs = clear_left _ _ rest;
      end = leb-true _ _ (unless_clear _ _ _ (clear_right _ _ rest));
    }

-- Runs

each_run : (s : List ℕ) → job_trouble s ≡ Clear → (k : ℕ) → k < run_count_of s → RunClear s (run_start s k) (number_before s k)
each_run s e k h = run_clear s (run_start s k) (number_before s k) (each_clear _ _ (job_clear s e).runs k h)

-- every run is in range
pub clear_run : (s : List ℕ) → job_trouble s ≡ Clear → (k : ℕ) → k < run_count_of s → RunOk (run_of s k)
clear_run s e k h =
    let r = each_run s e k h in
    run_ok s (run_start s k) r.header r.points r.segments r.weighings r.total r.balanced

-- and lies within the file
pub run_within : (s : List ℕ) → job_trouble s ≡ Clear → (k : ℕ) → k < run_count_of s → RunWithin s (run_start s k)
unfolding run_at
run_within s e k h =
    let r = clear_run s e k h in
    record {
      end = run_fits s (run_start s k) (number_before s k) (each_clear _ _ (job_clear s e).runs k h);
      points = within_greatest least_point_count greatest_point_count _ r.header.points;
      segments = within_greatest least_segment_count greatest_segment_count _ r.header.segments;
      weighings = within_greatest 0 greatest_weighing_count _ r.header.weighings;
    }

number_of : (s : List ℕ) (k : ℕ) → (run_of s k).header.number ≡ (header_at s (run_start s k)).number
unfolding run_at
number_of s k = refl

-- a run's number is above that of the run before
next_above : (s : List ℕ) → job_trouble s ≡ Clear → (k : ℕ) → suc k < run_count_of s → (run_of s k).header.number < (run_of s (suc k)).header.number
unfolding number_before
next_above s e k h = rw (number_of s k, number_of s (suc k)) (each_run s e (suc k) h).above

-- and above that of every earlier run, so that a number names at most one run
pub rising : (s : List ℕ) → job_trouble s ≡ Clear → (i j : ℕ) → i < j → j < run_count_of s → (run_of s i).header.number < (run_of s j).header.number
rising s e i zero less h = absurd (omega arith)
rising s e i (suc j) less h =
    ⊎_elim
    (λ same. subst (λ (k : ℕ). (run_of s k).header.number < (run_of s (suc j)).header.number) (sym same) (next_above s e j h))
    (λ before. lt_trans (rising s e i j before (lt_trans (lt-suc_self j) h)) (next_above s e j h))
    (eq-or-lt_of_le (le_of_suc-le-suc less))

-- the runs end within the file ..
runs_fit : (s : List ℕ) → file_trouble s ≡ Clear → certificates_trouble s ≡ Clear → (n : ℕ) → runs_trouble s n ≡ Clear → run_start s n ≤ length s
unfolding run_start
runs_fit s e f zero g = certificates_fit s _ e f
runs_fit s e f (suc n) g = run_fits s (run_start s n) (number_before s n) (each_clear _ (suc n) g n (lt-suc_self n))

-- .. and the last of them ends it
pub job_end : (s : List ℕ) → job_trouble s ≡ Clear → run_start s (run_count_of s) ≡ length s
job_end s e =
    let j = job_clear s e in
    le_antisymm (runs_fit s j.file j.certificates (run_count_of s) j.runs) j.end

-- Certificates

-- they lie within the file
pub certificates_within : (s : List ℕ) → job_trouble s ≡ Clear → certificate_place (version_of s) (certificate_count_of s) ≤ length s
certificates_within s e = let j = job_clear s e in certificates_fit s _ j.file j.certificates

each_entry : (s : List ℕ) → job_trouble s ≡ Clear → (k : ℕ) → k < certificate_count_of s → entry_trouble s k ≡ Clear
each_entry s e k h = each_clear (entry_trouble s) _ (job_clear s e).certificates k h

-- every certificate is in range
pub clear_certificate : (s : List ℕ) → job_trouble s ≡ Clear → (k : ℕ) → k < certificate_count_of s → CertificateOk (certificate_of s k)
clear_certificate s e k h = certificate_ok s (certificate_place (version_of s) k) (clear_left _ _ (each_entry s e k h))

-- no two certificates are the same ..
pub none_same : (s : List ℕ) → job_trouble s ≡ Clear → (i j : ℕ) → i < j → j < certificate_count_of s → same_certificate (certificate_of s i) (certificate_of s j) ≡ false
none_same s e i j less h =
    let alone : repeats s j ≡ false = not-true (repeats s j) (unless_clear _ _ _ (clear_right _ _ (each_entry s e j h))) in
    none_of _ j alone i less

-- .. that is, no two agree in kind, identity and day
pub unique :
    (s : List ℕ)
    → job_trouble s ≡ Clear
    → (i j : ℕ)
    → i < j
    → j < certificate_count_of s
    → (certificate_of s i).kind ≡ (certificate_of s j).kind
    → (certificate_of s i).identity ≡ (certificate_of s j).identity
    → (certificate_of s i).day ≡ (certificate_of s j).day
    → ⊥
unique s e i j less h kind identity day =
    let b = certificate_of s j in
    let same = subst (λ (id : Identity). same_identity id b.identity ≡ true) (sym identity) (same_refl b.identity) in
    true≢false (sym (rw (eq-eqb _ _ kind, same, eq-eqb _ _ day)) ∙ none_same s e i j less h)
