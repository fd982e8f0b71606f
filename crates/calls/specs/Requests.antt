-- What a request gets back: the answer of the call that its header names, and both outputs as the call leaves them.
use Rattle.std.specs.Prelude.{ℕ, ◌≤◌, ◌<◌, ◌≡◌, min, Bool, true, false, List, ◌++◌, length, take, replicate, Option}
use Rattle.std.specs.Io.KnownBytes.{Keeps, Appends, Consumes, IsAtEnd}
use Rattle.fields.specs.Numbers.{byte_at, u16_at, u32_at}
use Rattle.output.specs.Answers.{packed}
use Rattle.output.specs.Bytes.{le}
use Rattle.layouts.specs.Outcomes.{round_outcome, rectangle_outcome}
use Rattle.counting.specs.Counting.{count_answer, number_answer}
use Rattle.figures.specs.Figures.{none_supplied, read_figure}
use Rattle.forms.specs.Forms.{Bytes, Text}
use Rattle.leverbonnet.specs.Calls.{Reduces, PrintsText, ExplainsFinding, LaysOut}

-- The call's number, the three numbers that it takes, the figure and the job, both outputs before and after, and the answer
module _ (call a b c : ℕ) (figure job first second firstOut secondOut : List ℕ) (r : ℕ) where
  -- by the call's number, what the public call promises, and an output that it does not take is as it was; the answer is 0 where there is no such call
  pub data ByCall : Type 0 where
    by_reduce : call ≡ 1 → Reduces none_supplied job a first second firstOut secondOut r → ByCall
    by_run_count : call ≡ 2 → r ≡ packed (count_answer job) → firstOut ≡ first → secondOut ≡ second → ByCall
    by_run_number : call ≡ 3 → r ≡ packed (number_answer job a) → firstOut ≡ first → secondOut ≡ second → ByCall
    by_round_layout : call ≡ 4 → LaysOut (round_outcome a b c (length first)) first firstOut r → secondOut ≡ second → ByCall
    by_rect_layout : call ≡ 5 → LaysOut (rectangle_outcome a b c (length first)) first firstOut r → secondOut ≡ second → ByCall
    by_sheet_text : call ≡ 6 → PrintsText none_supplied job first firstOut r → secondOut ≡ second → ByCall
    by_reduce_by_figure : call ≡ 7 → Reduces (read_figure figure) job a first second firstOut secondOut r → ByCall
    by_sheet_text_by_figure : call ≡ 8 → PrintsText (read_figure figure) job first firstOut r → secondOut ≡ second → ByCall
    by_explain : call ≡ 9 → ExplainsFinding Bytes none_supplied job a b c first firstOut r → secondOut ≡ second → ByCall
    by_explain_by_figure : call ≡ 10 → ExplainsFinding Bytes (read_figure figure) job a b c first firstOut r → secondOut ≡ second → ByCall
    by_explain_text : call ≡ 11 → ExplainsFinding Text none_supplied job a b c first firstOut r → secondOut ≡ second → ByCall
    by_explain_text_by_figure : call ≡ 12 → ExplainsFinding Text (read_figure figure) job a b c first firstOut r → secondOut ≡ second → ByCall
    by_none : (1 ≤ call → call ≤ 12 → ⊥) → r ≡ 0 → firstOut ≡ first → secondOut ≡ second → ByCall

-- the call and its numbers are those of the header
abbrev pub Replied : List ℕ → List ℕ → List ℕ → List ℕ → List ℕ → List ℕ → List ℕ → ℕ → Type 0
Replied header figure job first second firstOut secondOut r =
    ByCall (byte_at header 0) (u16_at header 2) (u16_at header 4) (u16_at header 6) figure job first second firstOut secondOut r

-- A file that was read: its front is what the input gave, all of it where there was enough
pub record ReadInto (given rest : Option (List ℕ)) (file : List ℕ) : Type 0 where
  pub count : ℕ
  pub within : count ≤ length file
  pub bytes : Consumes given rest (take count file)
  pub end : count < length file → IsAtEnd rest

-- A call that was made and told: the request's header, the figure and the job, both outputs as the call left them; what the
-- input had left before and after, and what stood written before and after
pub record Exchanged (header figure job first second : List ℕ) (given rest before after : Option (List ℕ)) : Type 0 where
  -- the figure and then the job
  pub between : Option (List ℕ)
  pub figure_read : ReadInto given between figure
  pub job_read : ReadInto between rest job
  -- the call found the header's byte throughout both outputs
  pub answer : ℕ
  pub replied : Replied header figure job (replicate (length first) (byte_at header 1)) (replicate (length second) (byte_at header 1)) first second answer
  -- the answer as eight bytes, and both outputs
  pub written : Appends before after (le 8 answer ++ (first ++ second))

-- A request that was answered: its parts have the lengths that its header gives, each at most its most
pub record Request (given rest before after : Option (List ℕ)) : Type 0 where
  pub header : List ℕ
  pub figure : List ℕ
  pub job : List ℕ
  pub first : List ℕ
  pub second : List ℕ
  pub header_size : length header ≡ 18
  pub figure_size : length figure ≡ min (u16_at header 16) 4096
  pub job_size : length job ≡ min (u32_at header 12) 65536
  pub first_size : length first ≡ min (u16_at header 8) 65536
  pub second_size : length second ≡ min (u16_at header 10) 4096
  pub behind : Option (List ℕ)
  pub header_read : Consumes given behind header
  pub exchanged : Exchanged header figure job first second behind rest before after

-- whether there was a request: one was answered, or the input is at its end and nothing was written
abbrev pub Served : Bool → Option (List ℕ) → Option (List ℕ) → Option (List ℕ) → Option (List ℕ) → Type 0
Served true given rest before after = Request given rest before after
Served false given rest before after = IsAtEnd rest × Keeps before after
