-- A meter that moved: what each version makes of it, and two jobs of different versions that differ for it though they hold the same records.
use Rattle.std.specs.Prelude.{Option, Some, None}
use Prim.Native.Nat.{ℕ, zero, suc, ◌*◌, ◌≤◌, ◌<◌}
use mathlib.Core.Path.{◌≡◌, refl, sym, ◌∙◌, ap}
use mathlib.Core.Bool.{true}
use mathlib.Core.List.{List}
use native.Mathlib.Omega.{arith}
use borrow.Author.Tests.{le-ltb, lt-ltb}
use lib.ListN.{replicate}
use Rattle.readings.specs.declared.headers.Version.{Version}
use Rattle.readings.specs.declared.headers.Version.TheVariants.{One, Two}
use Rattle.readings.specs.Ranges.{within, signed_within}
use Rattle.arrays.specs.Arrays.{padded}
use Rattle.fields.specs.Numbers.{u16_at, u32_at, i16_at}
use Rattle.fields.specs.Trouble.{Clear, first, checks, up_to, record_trouble}
use Rattle.records.specs.declared.Certificate.{Certificate}
use Rattle.records.specs.declared.Identity.{Identity}
use Rattle.records.specs.declared.Run.{Run}
use Rattle.records.specs.Records.{same_identity, sum_to}
use Rattle.records.specs.Worked.{worked_run}
use Rattle.choosing.specs.declared.Chosen.{Chosen}
use Rattle.choosing.specs.Choosing.{eligible, keep, chosen, chosen_for, SameMembers}
use Rattle.grounds.specs.Comparing.{holds, apart}
use Rattle.factors.specs.Factor.{factor_moved, lower_if_moved, factor, factor_from, factor_of}
use Rattle.classes.specs.Classes.{class_of}
use Rattle.steps.specs.declared.Figure.{Figure}
use Rattle.findings.specs.Listing.{findings, accepted, lines_for, findings_for, Breaks}
use Rattle.findings.proofs.Accepting.{accepted_exactly}
use Rattle.findings.proofs.Members.{listed_exactly}
use Rattle.opening.specs.Opening.{version_of}
use Rattle.heads.specs.Values.{certificate_of}
use Rattle.parts.specs.Values.{run_at}
use Rattle.entries.specs.Entries.{any_to}
use Rattle.job.specs.Places.{run_start, run_of}
use Rattle.job.specs.Troubles.{parts_trouble, run_trouble, number_before, job_trouble}
use Rattle.job.specs.Worked.{moved_job}
use Rattle.reduction.specs.Reducing.{chosen_in}
use Rattle.writing.specs.Bytes.{sheet_size, finding_size}
use Rattle.demands.specs.FigureFile.{no_file}
use Rattle.demands.specs.Demands.{SameFigure, SameRecords, SameBytes}
use Rattle.demands.specs.MovedFactor.{Moved, LowerAndNote, BeforeAndVoid, AnotherY}
use Rattle.demands.proofs.Sorted.{class_at}
use Rattle.demands.proofs.Printed.{kept, voided}

-- In version 1

pub lower_and_note : (ch : Chosen) → LowerAndNote ch
unfolding factor_of factor lower_if_moved factor_moved holds class_of
lower_and_note ch =
    record {
      class = refl;
      moved = λ b a before after beyond. rw (before, after, lt-ltb _ _ beyond);
      stayed = λ b a before after within. rw (before, after, le-ltb _ _ (not_beyond b.first a.first within));
      alone = λ b before none. rw (before, none);
      missing = λ none. rw none;
    }
  where
    not_beyond : (b a : ℕ) → (Moved b a → ⊥) → 20 * apart b a ≤ b
    not_beyond b a within = omega (arith, within)

-- In version 2

before_factor : (b : Certificate) (after : Option Certificate) → factor_from Two (Some b) after ≡ Some b.first
unfolding factor
before_factor b None = refl
before_factor b (Some a) = refl

pub before_and_void : (fig : Figure) (r : Run) (ch : Chosen) → BeforeAndVoid fig r ch
unfolding factor_of findings_for class_of
before_and_void fig r ch =
    record {
      class = refl;
      factor = λ b before. rw before (before_factor b ch.after);
      missing = λ none. rw none;
      void = void;
    }
  where
    void : Breaks fig r ch (lines_for Two r ch) 5 0 → accepted (findings Two fig r ch (lines_for Two r ch)) ≡ true → ⊥
    void broken stands =
        let has = (listed_exactly Two fig r ch (lines_for Two r ch) 5 0).1 broken in
        let class = class_at Two fig r ch (lines_for Two r ch) has.index has.inside in
        (accepted_exactly (findings Two fig r ch (lines_for Two r ch))).0 stands has.index has.inside (rw has.same.0 at class)

-- The same records in both versions

-- both versions are read, and hold the worked job's run
read : (v : Version) → (job_trouble (moved_job v) ≡ Clear) × (run_of (moved_job v) 0 ≡ worked_run)
unfolding u16_at u32_at i16_at version_of first checks up_to within signed_within same_identity sum_to padded run_at record_trouble run_start any_to parts_trouble run_trouble number_before job_trouble
read One = (refl, refl)
read Two = (refl, refl)

-- and the same certificates
certificates : (i : ℕ) → i < 4 → certificate_of (moved_job One) i ≡ certificate_of (moved_job Two) i
unfolding u16_at u32_at version_of
certificates zero inside = refl
certificates (suc zero) inside = refl
certificates (suc (suc zero)) inside = refl
certificates (suc (suc (suc zero))) inside = refl
certificates (suc (suc (suc (suc i)))) inside = absurd (omega arith)

pub same_members : (kind : ℕ) (identity : Identity) (f g : ℕ → Certificate) (n : ℕ) → ((i : ℕ) → i < n → f i ≡ g i) → SameMembers kind identity f n g n
same_members kind identity f g n same =
    record {
      into = record { held = λ i inside is. (i, (inside, sym (same i inside))) };
      back = record { held = λ i inside is. (i, (inside, same i inside)) };
    }

same_records : SameRecords (moved_job One) (moved_job Two) 7
unfolding u16_at
same_records =
    record {
      first = (read One).0;
      second = (read Two).0;
      index = 0;
      inside = omega arith;
      number = ap (λ (r : Run). r.header.number) (read One).1;
      other = 0;
      within = omega arith;
      record' = (read One).1 ∙ sym (read Two).1;
      certificates =
          record {
            meter = same_members _ _ _ _ 4 certificates;
            pitot = same_members _ _ _ _ 4 certificates;
            nozzle = same_members _ _ _ _ 4 certificates;
          };
    }

-- The same run and certificates, another Y
pub another_y : AnotherY
unfolding u16_at u32_at i16_at version_of same_identity run_at run_start chosen_in chosen_for chosen eligible keep factor_of factor lower_if_moved factor_moved holds apart
another_y =
    record { first = refl; second = refl; same = same_records; lower = refl; before = refl; kept = kept; voided = voided }

-- So without the version two jobs would not come to the same
pub version_counts : SameBytes SameFigure SameRecords → ⊥
version_counts same_bytes =
    let lines : List ℕ = replicate sheet_size 0 in
    let findings : List ℕ = replicate (finding_size * 2) 0 in
    let other =
    same_bytes no_file no_file (moved_job One) (moved_job Two) 7 refl same_records lines findings _ _ _
    (record { answer = refl; lines = refl; findings = refl }) in
    let never : ◌≡◌ {A = ℕ} 65538 2 = sym kept.answer ∙ other.answer ∙ voided.answer in
    absurd (omega arith)
