-- Where the certificates and the runs of a job stand (docs/RULES.md, The job file): a header of 9 bytes, the certificates, the runs, one after the other.
use Rattle.std.specs.Prelude.{ℕ, zero, suc, List}
use Rattle.opening.specs.Opening.{version_of, certificate_count_of}
use Rattle.records.specs.declared.Run.{Run}
use Rattle.heads.specs.Values.{certificate_place, header_at}
use Rattle.parts.specs.Values.{run_at, run_end}

-- the place after the run that starts at a place
abbrev pub next_start : List ℕ → ℕ → ℕ
next_start s start = run_end (version_of s) start (header_at s start).counts

-- runs by index from 0: the first stands after the last certificate
unfoldable pub run_start : List ℕ → ℕ → ℕ
run_start s zero = certificate_place (version_of s) (certificate_count_of s)
run_start s (suc k) = next_start s (run_start s k)

abbrev pub run_of : List ℕ → ℕ → Run
run_of s k = run_at s (run_start s k)

-- the longest run: a header of version 2, 64 points, 16 segments and 8 weighings
abbrev pub longest_run : ℕ
longest_run = 1011

-- the longest job: the header, 64 certificates and 16 such runs
abbrev pub longest_job : ℕ
longest_job = 17273
