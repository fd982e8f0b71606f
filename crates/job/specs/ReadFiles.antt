-- What the code reads of a file.
use Rattle.std.specs.Prelude.{◌≡◌, ℕ, List, Result, Ok, Err}
use Rattle.fields.specs.declared.trouble.BadFile.{BadFile}
use Rattle.fields.specs.Trouble.{At}
use Rattle.job.specs.declared.clear.ClearFile.{ClearFile}
use Rattle.job.specs.Troubles.{job_trouble}
use Rattle.job.specs.Reading.{ClearJob}

-- it, with its job, where it is in no trouble, and else its first trouble
abbrev pub IsRead : List ℕ → Result ClearFile BadFile → Type 0
IsRead s (Ok r) = (r.file.bytes.now ≡ s) × ClearJob s r.job
IsRead s (Err e) = job_trouble s ≡ At e.number e.place
