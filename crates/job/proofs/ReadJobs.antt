-- What is read of a file: a refusal's place fits an answer, and a job's counts are the file's, and each of its runs starts where the file has it and ends within.
use Prim.Native.Nat.{ℕ, ◌^◌, ◌≤◌, ◌<◌}
use mathlib.Core.Path.{◌≡◌, ◌∙◌, ap, subst⁻¹}
use mathlib.Core.List.{List}
use native.Mathlib.Omega.{arith}
use lib.ListN.{length, get_or, drop}
use Rattle.readings.specs.Ranges.{greatest_run_count}
use Rattle.arrays.proofs.Arrays.{pad_at}
use Rattle.fields.specs.Trouble.{At}
use Rattle.fields.proofs.Tails.{enough}
use Rattle.opening.specs.Opening.{certificate_count_of, run_count_of}
use Rattle.parts.specs.Values.{RunWithin}
use Rattle.job.specs.declared.Job.{Job}
use Rattle.job.specs.Places.{run_start}
use Rattle.job.specs.Troubles.{job_trouble}
use Rattle.job.specs.Reading.{job_in, ClearJob}
use Rattle.job.proofs.ClearJobs.{job_clear, run_within}
use Rattle.job.proofs.Reach.{places}
use Rattle.job.proofs.WholeFile.{run_count_lem}

-- In trouble

-- a refusal's place fits 32 bits
pub place_fits : (s : List ℕ) {n p : ℕ} → job_trouble s ≡ At n p → p < 2 ^ 32
place_fits s e = omega (arith, places s e)

-- Without trouble

module _ (s : List ℕ) (j : Job) (ok : ClearJob s j) where
  pub count_of_runs : j.runs ≡ run_count_of s
  unfolding job_in
  count_of_runs = ap (λ (i : Job). i.runs) ok.is

  pub count_of_certificates : j.certificates ≡ certificate_count_of s
  unfolding job_in
  count_of_certificates = ap (λ (i : Job). i.certificates) ok.is

  pub few_runs : j.runs ≤ greatest_run_count
  few_runs = rw count_of_runs (run_count_lem s (job_clear s ok.clear).file)

  pub start_of : (k : ℕ) → k < run_count_of s → get_or j.starts k 0 ≡ run_start s k
  unfolding job_in
  start_of k inside =
      ap (λ (i : Job). get_or i.starts k 0) ok.is
      ∙ pad_at greatest_run_count 0 (run_start s) (run_count_of s) k inside (run_count_lem s (job_clear s ok.clear).file)

  -- its runs lie within the file
  pub lies_within : (k : ℕ) → k < run_count_of s → RunWithin s (get_or j.starts k 0)
  lies_within k inside = subst⁻¹ (RunWithin s) (start_of k inside) (run_within s ok.clear k inside)

  -- so that the number of each can be read
  pub number_left : (k : ℕ) → k < j.runs → {t : List ℕ} → t ≡ drop (get_or j.starts k 0) s → 2 ≤ length t
  number_left k inside e =
      enough s (get_or j.starts k 0) 2 e (omega (arith, (lies_within k (rw count_of_runs at inside)).end))
