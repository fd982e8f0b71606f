-- What is printed of a file, as characters (docs/RULES.md, The printed text).
use Rattle.std.specs.Prelude.{ℕ, List, ◌++◌}
use Rattle.fields.specs.Trouble.{Trouble, Clear, At}
use Rattle.steps.specs.declared.Figure.{Figure}
use Rattle.opening.specs.Opening.{run_count_of}
use Rattle.job.specs.Troubles.{job_trouble}
use Rattle.reduction.specs.Reducing.{reduced_run}
use Rattle.characters.specs.Numbers.{decimal}
use Rattle.characters.specs.Words.{spelled}
use Rattle.output.specs.Bytes.{joined}
use Rattle.text.specs.Sheets.{space, newline}
use Rattle.text.specs.Runs.{run_text}

-- what a refusal begins with
abbrev pub refused_word : List ℕ
refused_word = spelled "REFUSED "

-- a refusal: number and place
unfoldable pub refusal_text : ℕ → ℕ → List ℕ
refusal_text number place = refused_word ++ decimal number ++ space ++ decimal place ++ newline

-- the first n runs, in file order, by that figure
unfoldable pub runs_text : Figure → List ℕ → ℕ → List ℕ
runs_text fig s n = joined (λ k. run_text (reduced_run fig s k)) n

-- a refused job prints only its refusal
abbrev pub text_of : Trouble → Figure → List ℕ → List ℕ
text_of Clear fig s = runs_text fig s (run_count_of s)
text_of (At number place) fig s = refusal_text number place

-- All that is printed of a file, by that figure
unfoldable pub job_text : Figure → List ℕ → List ℕ
job_text fig s = text_of (job_trouble s) fig s
