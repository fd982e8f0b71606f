-- Every number that is shown fits the i64 in which it is handed over; and how many bytes an explanation has at most.
use Rattle.std.specs.Prelude.{ℕ, ◌^◌, ◌≤◌, ◌<◌, List, length}
use Rattle.std.specs.Int.Signed.{mag}
use Rattle.readings.specs.declared.headers.Version.{Version}
use Rattle.records.specs.declared.Certificate.{Certificate}
use Rattle.records.specs.declared.Run.{Run}
use Rattle.steps.specs.declared.Figure.{Figure}
use Rattle.opening.specs.Opening.{run_count_of}
use Rattle.explaining.specs.Explaining.{explanation}
use Rattle.forms.specs.Forms.{Bytes}
use Rattle.explanations.specs.Written.{written}
use Rattle.grounds.specs.Showing.{Condition, shown}
use Rattle.demands.specs.FigureFile.{Lent, figure_in, GoodLent}
use Rattle.demands.specs.ReadingOrder.{GoodJob}
use Rattle.reviewing.specs.Shown.{Among, ground_of_run}

-- four numbers from -2^63 up to but not 2^63
pub record FitsI64 (c : Condition) : Type 0 where
  pub left : mag c.left < 2 ^ 63
  pub right : mag c.right < 2 ^ 63
  pub remainder : mag c.remainder < 2 ^ 63
  pub limit : mag c.limit < 2 ^ 63

-- of every good job, by a good figure or none, every run, rule and place
abbrev pub NumbersFit : Type 0
NumbersFit =
    (l : Lent) (s : List ℕ) (k rule place : ℕ)
    → GoodLent l
    → GoodJob s
    → k < run_count_of s
    → (c : Condition)
    → Among c (shown (ground_of_run (figure_in l) s k rule place))
    → FitsI64 c

-- whatever run, certificates and figure an explanation is of
abbrev pub SeventyBytes : Type 0
SeventyBytes =
    (v : Version) (fig : Figure) (f : ℕ → Certificate) (n : ℕ) (r : Run) (rule place : ℕ)
    → length (written Bytes (explanation v fig f n r rule place)) ≤ 70
