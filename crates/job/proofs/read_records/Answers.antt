-- Certificates, runs: the first in trouble is the answer, and past them all the job is what was counted.
use Prim.Native.Nat.{ℕ, ◌≤◌}
use mathlib.Core.Path.{◌≡◌, sym, ◌∙◌, ap, subst}
use native.Mathlib.Omega.{arith}
use lib.Dec.{lit≤}
use lib.ListN.{length}
use Rattle.readings.specs.Ranges.{greatest_run_count, greatest_certificate_count}
use Rattle.fields.specs.Trouble.{Clear, first, up_to}
use Rattle.fields.proofs.FirstTrouble.{first_at}
use Rattle.fields.proofs.Refusals.{passes}
use Rattle.arrays.specs.Arrays.{padded}
use Rattle.fields.proofs.RecordTrouble.{complete_at}
use Rattle.readings.specs.declared.headers.Version.{Version}
use Rattle.opening.specs.Opening.{file_header_size, version_of}
use Rattle.heads.specs.Values.{certificate_place}
use Rattle.job.specs.Places.{run_start}
use Rattle.entries.specs.Entries.{entry_trouble}
use Rattle.job.specs.Troubles.{certificates_trouble, runs_trouble, end_trouble, job_trouble}
use Rattle.job.specs.Reading.{job_in, ClearJob}
use Rattle.job.proofs.WholeFile.{certificate_count_lem, run_count_lem, certificates_fit, read_stops}
use Rattle.job.proofs.read_records.Goals as goal
use Rattle.job.proofs.read_records.Goals.{In_ok-troubles, In_ok-starts}

-- the certificates are clear
clear : (c : In_ok-troubles) → Clear ≡ certificates_trouble c.args.s.now
clear c = (rw c.of-file.ensures at c.in_ok-troubles.ensures) ∙ ap (up_to (entry_trouble c.args.s.now)) c.u16_at-certificates.ensures

pub u16_at-certificates-requires : goal.u16_at-certificates-requires
u16_at-certificates-requires c = omega (arith, (complete_at _ 0 file_header_size _ (lit≤ tt) c.requires))

pub u16_at-runs-requires : goal.u16_at-runs-requires
u16_at-runs-requires c = (complete_at _ 0 file_header_size _ (lit≤ tt) c.requires)

pub of-file-requires : goal.of-file-requires
of-file-requires c = (complete_at _ 0 file_header_size _ (lit≤ tt) c.requires)

pub troubles-requires : goal.troubles-requires
troubles-requires c =
    subst (λ (n : ℕ). n ≤ greatest_certificate_count) (sym c.u16_at-certificates.ensures) (certificate_count_lem _ c.requires)

pub returns-in_err-troubles : goal.returns-in_err-troubles
unfolding job_trouble
returns-in_err-troubles c =
    let s = c.args.s.now in
    let own = (rw c.of-file.ensures at c.in_err-troubles.ensures) ∙ ap (up_to (entry_trouble s)) c.u16_at-certificates.ensures in
    read_stops _ _ _ c.from_residual.ensures.1 (passes (sym c.requires) (sym (first_at _ (sym own))))

pub read-requires : goal.read-requires
unfolding run_start
read-requires c =
    let s = c.args.s.now in
    let entries = sym (rw c.of-file.ensures at c.in_ok-troubles.ensures) in
    let said = rw c.of-file.ensures at c.of-file.result.said in
    let first = c.place.ensures ∙ ap (λ (v : Version). certificate_place v c.u16_at-certificates.result) said in
    rw c.of-file.ensures (
      subst (λ (n : ℕ). n ≤ greatest_run_count) (sym c.u16_at-runs.ensures) (run_count_lem _ c.requires),
      first ∙ ap (certificate_place (version_of s)) c.u16_at-certificates.ensures,
      subst (λ (n : ℕ). n ≤ length s) (sym first) (certificates_fit s _ c.requires entries),
    )

pub returns-in_err-starts : goal.returns-in_err-starts
unfolding job_trouble
returns-in_err-starts c =
    let s = c.args.s.now in
    let rest = (rw c.of-file.ensures at c.in_err-starts.ensures.trouble) ∙ ap (λ (n : ℕ). first (runs_trouble s n) (end_trouble s (run_start s n))) c.u16_at-runs.ensures in
    read_stops _ _ _ c.from_residual-in_err-starts.ensures.1
    (passes (sym c.requires) (passes (clear (goal.at.returns-in_err-starts c).In_ok-troubles) rest))

-- the job that is read
module _ (c : In_ok-starts) (entries : Clear ≡ certificates_trouble c.args.s.now) where
  job_clear : ClearJob c.args.s.now (record { certificates = c.u16_at-certificates.result; runs = c.u16_at-runs.result; starts = c.in_ok-starts.starts })
  unfolding job_trouble job_in
  job_clear =
      let s = c.args.s.now in
      let rest = (rw c.of-file.ensures at c.in_ok-starts.ensures.trouble) ∙ ap (λ (n : ℕ). first (runs_trouble s n) (end_trouble s (run_start s n))) c.u16_at-runs.ensures in
      let starts = (rw c.of-file.ensures at c.in_ok-starts.ensures.starts) ∙ ap (padded greatest_run_count 0 (run_start s)) c.u16_at-runs.ensures in
      record {
        is = λ i. record { certificates = c.u16_at-certificates.ensures i; runs = c.u16_at-runs.ensures i; starts = starts i };
        clear = sym (passes (sym c.requires) (passes entries rest));
      }

pub invariant_of-result : goal.invariant_of-result
invariant_of-result c =
    let at = goal.at.invariant_of-result c in
    rw c.of-file.ensures (record { clear = job_clear at.In_ok-starts (clear at.In_ok-troubles) })

pub returns : goal.returns
returns c =
    let at = goal.at.returns c in
    (c.of-file.ensures, job_clear at.In_ok-starts (clear at.In_ok-troubles))
