-- The job in a file: how many certificates it holds and where each run starts.
use Rattle.std.specs.Prelude.{ℕ, ◌≡◌, List}
use Rattle.readings.specs.Ranges.{greatest_run_count}
use Rattle.fields.specs.Trouble.{Clear}
use Rattle.arrays.specs.Arrays.{padded}
use Rattle.job.specs.declared.Job.{Job}
use Rattle.opening.specs.Opening.{certificate_count_of, run_count_of}
use Rattle.job.specs.Places.{run_start}
use Rattle.job.specs.Troubles.{job_trouble}

-- the job that a file holds where it is in no trouble
unfoldable pub job_in : List ℕ → Job
job_in s =
    record {
      certificates = certificate_count_of s;
      runs = run_count_of s;
      starts = padded greatest_run_count 0 (run_start s) (run_count_of s);
    }

-- a job read from a file that is in no trouble
pub record ClearJob (s : List ℕ) (j : Job) : Type 0 where
  pub is : j ≡ job_in s
  pub clear : job_trouble s ≡ Clear
