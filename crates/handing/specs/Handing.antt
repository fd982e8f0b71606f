-- What comes of handing a reduced run over: decided by the lengths of the lent outputs, before a byte is written.
use Rattle.std.specs.Prelude.{ℕ, ◌+◌, ◌*◌, ◌≡◌, Bool, cond, ◌||◌, List, ltb, length}
use Rattle.reduction.specs.declared.Reduced.{Reduced}
use Rattle.output.specs.Answers.{Answer, Done, Refused, short_output}
use Rattle.output.specs.Splice.{spliced}
use Rattle.writing.specs.Bytes.{sheet_size, sheet_bytes, finding_size, findings_bytes}

-- What comes of asking for a run: a refusal, or the run reduced
pub data Outcome : Type 0 where
  refused : ℕ → ℕ → Outcome
  reduced : Reduced → Outcome

-- 9: a lent output is too short for the lines, or for the findings
unfoldable pub handed : Reduced → ℕ → ℕ → Outcome
handed r lines findings = cond (ltb lines sheet_size || ltb findings (finding_size * r.findings.count)) (refused short_output 0) (reduced r)

-- how many findings, and 65,536 more if the run is accepted
unfoldable pub success : ℕ → Bool → ℕ
success count accepted = cond accepted (count + 65536) count

-- the answer to each outcome
unfoldable pub answer_of : Outcome → Answer
answer_of (refused number place) = Refused number place
answer_of (reduced r) = Done (success r.findings.count r.accepted)

-- the lines' buffer afterwards: a refusal changes no byte, success none past the lines
unfoldable pub lines_after : Outcome → List ℕ → List ℕ
lines_after (refused number place) old = old
lines_after (reduced r) old = spliced old 0 (sheet_bytes r.sheet)

-- the findings' buffer afterwards
unfoldable pub findings_after : Outcome → List ℕ → List ℕ
findings_after (refused number place) old = old
findings_after (reduced r) old = spliced old 0 (findings_bytes r.findings.list r.findings.count)

-- the answer and both buffers are an outcome's
pub record Came (o : Outcome) (lines_in findings_in lines_out findings_out : List ℕ) (a : Answer) : Type 0 where
  pub answer : a ≡ answer_of o
  pub lines : lines_out ≡ lines_after o lines_in
  pub findings : findings_out ≡ findings_after o findings_in

-- a reduced run handed over into these two buffers
abbrev pub Handed : Reduced → List ℕ → List ℕ → List ℕ → List ℕ → Answer → Type 0
Handed r lines findings lines_out findings_out a = Came (handed r (length lines) (length findings)) lines findings lines_out findings_out a
