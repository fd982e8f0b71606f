-- Each way through a call, and the answer that it is.
use Prim.Native.Nat.{ℕ, ◌≤◌, ◌<◌}
use mathlib.Core.Path.{◌≡◌, ◌∙◌, ap}
use mathlib.Core.List.{List}
use borrow.Author.Tests.{le-leb, lt-leb}
use lib.ListN.{get_or, drop}
use Rattle.fields.specs.Trouble.{At}
use Rattle.fields.specs.Numbers.{u16_at}
use Rattle.opening.specs.Opening.{run_count_of}
use Rattle.parts.specs.Values.{run_at}
use Rattle.job.specs.declared.Job.{Job}
use Rattle.job.specs.Troubles.{job_trouble}
use Rattle.job.specs.Reading.{ClearJob}
use Rattle.job.proofs.ReadJobs.{count_of_runs, start_of}
use Rattle.output.specs.Answers.{Done, Refused}
use Rattle.counting.specs.Counting.{count_answer, number_answer}

pub count_refused : (s : List ℕ) {n p : ℕ} → job_trouble s ≡ At n p → Refused n p ≡ count_answer s
unfolding count_answer
count_refused s t = rw t

pub count_done : (s : List ℕ) (j : Job) → ClearJob s j → Done j.runs ≡ count_answer s
unfolding count_answer
count_done s j ok = rw ok.clear (ap Done (count_of_runs s j ok))

pub number_refused : (s : List ℕ) {n p : ℕ} (index : ℕ) → job_trouble s ≡ At n p → Refused n p ≡ number_answer s index
unfolding number_answer
number_refused s index t = rw t

pub number_past : (s : List ℕ) (j : Job) (index : ℕ) → ClearJob s j → j.runs ≤ index → Refused 10 0 ≡ number_answer s index
unfolding number_answer
number_past s j index ok past = rw (ok.clear, le-leb _ _ (rw (count_of_runs s j ok) at past))

pub number_done : (s : List ℕ) (j : Job) (index : ℕ) {t : List ℕ} {n : ℕ} → ClearJob s j → index < j.runs → t ≡ drop (get_or j.starts index 0) s → n ≡ u16_at t 0 → Done n ≡ number_answer s index
unfolding number_answer run_at
number_done s j index ok inside et en =
    let within : index < run_count_of s = rw (count_of_runs s j ok) at inside in
    let start = start_of s j ok index within in
    rw (ok.clear, lt-leb _ _ within) (ap Done (en ∙ ap (λ u. u16_at u 0) (et ∙ ap (λ a. drop a s) start)))
