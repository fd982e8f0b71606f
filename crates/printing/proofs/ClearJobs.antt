-- What is printed of a job without trouble.
use Prim.Native.Nat.{ℕ}
use mathlib.Core.Path.{◌≡◌, ap}
use mathlib.Core.List.{List}
use Rattle.steps.specs.declared.Figure.{Figure}
use Rattle.job.specs.declared.Job.{Job}
use Rattle.job.specs.Reading.{ClearJob}
use Rattle.job.proofs.ReadJobs.{count_of_runs}
use Rattle.printing.specs.Jobs.{runs_text, job_text}

-- the text of a job without trouble is that of its runs
pub text_of_runs : (fig : Figure) (s : List ℕ) (j : Job) → ClearJob s j → runs_text fig s j.runs ≡ job_text fig s
unfolding job_text
text_of_runs fig s j ok = rw ok.clear (ap (runs_text fig s) (count_of_runs s j ok))
