-- What is printed of what is read.
use Rattle.std.specs.Prelude.{ℕ, ◌≤◌, ◌<◌, List, length, Option}
use Rattle.std.specs.Io.KnownBytes.{Appends, Consumes, IsAtEnd}
use Rattle.steps.specs.Steps.{no_figure}
use Rattle.printing.specs.Jobs.{job_text}

-- A job that was printed: what the input had left before and after, and what stood written before and after
pub record JobPrinted (given rest before after : Option (List ℕ)) : Type 0 where
  -- what the input gave: at most 65,536 bytes, and fewer only at its end
  pub file : List ℕ
  pub most : length file ≤ 65536
  pub read : Consumes given rest file
  pub whole : length file < 65536 → IsAtEnd rest
  -- and its text, without a figure
  pub printed : Appends before after (job_text no_figure file)
