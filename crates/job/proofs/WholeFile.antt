-- The header's counts and the certificates of a file, and what is read of a file in trouble.
use Prim.Native.Nat.{ℕ, zero, suc, ◌≤◌}
use mathlib.Core.Path.{◌≡◌, sym}
use mathlib.Core.List.{List}
use native.Mathlib.Nat.{lt-suc_self}
use native.Mathlib.Omega.{arith}
use lib.Dec.{lit≤}
use lib.ListN.{length}
use Rattle.readings.specs.Ranges.{greatest_run_count, least_run_count, greatest_certificate_count}
use Rattle.std.specs.Prelude.{Result, Ok, Err, IsErrAnd}
use Rattle.fields.specs.declared.trouble.BadFile.{BadFile}
use Rattle.fields.specs.Trouble.{Clear, At, up_to}
use Rattle.fields.proofs.FirstTrouble.{clear_left, each_clear, first_at}
use Rattle.readings.proofs.Ranges.{within_greatest}
use Rattle.fields.proofs.RecordTrouble.{complete_at, good_at}
use Rattle.opening.specs.Opening.{file_header_size, version_of, certificate_count_of, run_count_of, file_rows, file_trouble}
use Rattle.opening.proofs.HowMany.{few}
use Rattle.heads.specs.Values.{certificate_place, certificate_size}
use Rattle.heads.proofs.Places.{next_place}
use Rattle.job.specs.declared.clear.ClearFile.{ClearFile}
use Rattle.entries.specs.Entries.{entry_trouble}
use Rattle.job.specs.Troubles.{job_trouble}
use Rattle.job.specs.ReadFiles.{IsRead}

-- a header without trouble has no more certificates and runs than there may be
pub certificate_count_lem : (s : List ℕ) → file_trouble s ≡ Clear → certificate_count_of s ≤ greatest_certificate_count
certificate_count_lem s e = within_greatest 0 greatest_certificate_count _ (good_at s 0 file_header_size (file_rows s) e).1.1.0

pub run_count_lem : (s : List ℕ) → file_trouble s ≡ Clear → run_count_of s ≤ greatest_run_count
run_count_lem s e = within_greatest least_run_count greatest_run_count _ (good_at s 0 file_header_size (file_rows s) e).1.1.1.0

-- certificates without trouble end within the file
pub certificates_fit : (s : List ℕ) (n : ℕ) → file_trouble s ≡ Clear → up_to (entry_trouble s) n ≡ Clear → certificate_place (version_of s) n ≤ length s
certificates_fit s zero e f = omega (arith, complete_at s 0 file_header_size (file_rows s) (lit≤ tt) e, few (version_of s) 0)
certificates_fit s (suc n) e f =
    let v = version_of s in
    let last = complete_at s (certificate_place v n) (certificate_size v) _ (omega arith) (clear_left _ _ (each_clear (entry_trouble s) (suc n) f n (lt-suc_self n))) in
    rw (next_place v n) last

-- A refusal of the header is the job's: it comes before any other
pub header_refuses : (s : List ℕ) {n p : ℕ} → file_trouble s ≡ At n p → job_trouble s ≡ At n p
unfolding job_trouble
header_refuses s told = first_at _ told

-- What is read where the first trouble is handed on by a `?`
pub read_stops : (s : List ℕ) (q : Result ClearFile BadFile) (e : BadFile) → IsErrAnd q (λ y. y ≡ e) → At e.number e.place ≡ job_trouble s → IsRead s q
read_stops s (Ok j) e same told = absurd same
read_stops s (Err y) e same told = rw same (sym told)
