-- What comes of the call for a job's text: decided by the figure, by the job and by the length of the output, before a byte of it is
-- written.
use Rattle.std.specs.Prelude.{ℕ, ◌≡◌, cond, List, ltb, length}
use Rattle.fields.specs.Trouble.{Trouble, Clear, At}
use Rattle.steps.specs.declared.Figure.{Figure}
use Rattle.figures.specs.Figures.{Supplied}
use Rattle.job.specs.Troubles.{job_trouble}
use Rattle.output.specs.Answers.{short_output, Answer, Done, Refused}
use Rattle.output.specs.Splice.{spliced}
use Rattle.printing.specs.Jobs.{job_text}

-- nothing printed, with the refusal's number and place; or these characters
pub data Printing : Type 0 where
  unprinted : ℕ → ℕ → Printing
  printed : List ℕ → Printing

-- 9: the output is shorter than the text
unfoldable pub if_fits : List ℕ → ℕ → Printing
if_fits text room = cond (ltb room (length text)) (unprinted short_output 0) (printed text)

-- the reader's 1 to 8 come first
abbrev pub unless_trouble : Trouble → Figure → List ℕ → ℕ → Printing
unless_trouble (At number place) fig s room = unprinted number place
unless_trouble Clear fig s room = if_fits (job_text fig s) room

-- From a figure, the job's bytes and the output's length
unfoldable pub printing : Figure → List ℕ → ℕ → Printing
printing fig s room = unless_trouble (job_trouble s) fig s room

-- 14, before the job is read
abbrev pub unprinted_if_bad : Trouble → Printing → Printing
unprinted_if_bad (At number place) p = unprinted number place
unprinted_if_bad Clear p = p

-- From what is supplied for a figure
abbrev pub printing_by : Supplied → List ℕ → ℕ → Printing
printing_by f s room = unprinted_if_bad f.trouble (printing f.figure s room)

-- the answer: the refusal, or how many characters
unfoldable pub printing_answer : Printing → Answer
printing_answer (unprinted number place) = Refused number place
printing_answer (printed text) = Done (length text)

-- the output afterwards: a refusal changes no byte, success none past the text
unfoldable pub printing_out : Printing → List ℕ → List ℕ
printing_out (unprinted number place) old = old
printing_out (printed text) old = spliced old 0 text

-- an answer, and an output that was old and is new, are what came of a call
pub record Printed (p : Printing) (old new : List ℕ) (a : Answer) : Type 0 where
  pub answer : a ≡ printing_answer p
  pub out : new ≡ printing_out p old

-- of a text, where nothing is in trouble
abbrev pub HandsOver : List ℕ → List ℕ → List ℕ → Answer → Type 0
HandsOver text old new a = Printed (if_fits text (length old)) old new a

-- of a job by a figure
abbrev pub Prints : Figure → List ℕ → List ℕ → List ℕ → Answer → Type 0
Prints fig s old new a = Printed (printing fig s (length old)) old new a

-- and by what is supplied for a figure
abbrev pub PrintsBy : Supplied → List ℕ → List ℕ → List ℕ → Answer → Type 0
PrintsBy f s old new a = Printed (printing_by f s (length old)) old new a
