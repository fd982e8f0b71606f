-- The runs where the reader meets no trouble, and a refusal where it meets some.
use Rattle.std.proofs.Common.{ℕ, ◌≡◌, List, refl, rules, arith}
use Rattle.fields.specs.Trouble.{At}
use Rattle.steps.specs.declared.Figure.{Figure}
use Rattle.job.specs.Troubles.{job_trouble}
use Rattle.characters.proofs.Texts.{left_in_front}
use Rattle.printing.specs.Jobs.{refusal_text, job_text}
use Rattle.printing.proofs.Lengths.{refusal_short}
use Rattle.printing.proofs.ClearJobs.{text_of_runs}
use Rattle.printing.proofs.jobs.put_job.Goals as goal

-- the text of a job in trouble is its refusal
refused : (fig : Figure) (s : List ℕ) {n p : ℕ} → job_trouble s ≡ At n p → job_text fig s ≡ refusal_text n p
unfolding job_text
refused fig s e = rw e

pub put_refusal-requires : goal.put_refusal-requires
put_refusal-requires c = record { fits = omega (arith, refusal_short c.in-Err.e.number c.in-Err.e.place) }

pub returns-in-Ok : goal.returns-in-Ok
returns-in-Ok c = rw (c.in-Ok.ensures.0, text_of_runs _ _ _ c.in-Ok.ensures.1) at c.put_runs.ensures

pub returns-in-Err : goal.returns-in-Err
returns-in-Err c = rw (refused c.args.figure _ c.in-Err.ensures) (left_in_front c.put_refusal.ensures refl (search rules))
