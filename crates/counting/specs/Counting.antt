-- What the calls that count a job's runs answer: the reader's refusal 1 to 8 first.
use Rattle.std.specs.Prelude.{ℕ, cond, List, leb}
use Rattle.fields.specs.Trouble.{Trouble, Clear, At}
use Rattle.opening.specs.Opening.{run_count_of}
use Rattle.job.specs.Places.{run_of}
use Rattle.job.specs.Troubles.{job_trouble}
use Rattle.output.specs.Answers.{Answer, Done, Refused, unknown_run}

-- How many runs there are
abbrev pub count_of : Trouble → List ℕ → Answer
count_of (At number place) s = Refused number place
count_of Clear s = Done (run_count_of s)

unfoldable pub count_answer : List ℕ → Answer
count_answer s = count_of (job_trouble s) s

-- The number of a run: an index past the last is refused 10
abbrev pub number_at : Trouble → List ℕ → ℕ → Answer
number_at (At number place) s index = Refused number place
number_at Clear s index = cond (leb (run_count_of s) index) (Refused unknown_run 0) (Done (run_of s index).header.number)

unfoldable pub number_answer : List ℕ → ℕ → Answer
number_answer s index = number_at (job_trouble s) s index
