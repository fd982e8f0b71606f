-- Each way through a handing over, and the outcome that it is.
use Prim.Native.Nat.{ℕ, ◌*◌, ◌≤◌, ◌<◌}
use mathlib.Core.Path.{◌≡◌, refl, ap, subst}
use mathlib.Core.List.{List}
use borrow.Author.Tests.{lt-ltb, le-ltb}
use lib.ListN.{length}
use Rattle.reduction.specs.declared.Reduced.{Reduced}
use Rattle.output.specs.Answers.{Answer, Done, Refused}
use Rattle.output.specs.Splice.{spliced}
use Rattle.writing.specs.Bytes.{sheet_size, sheet_bytes, finding_size, findings_bytes}
use Rattle.handing.specs.Handing.{Outcome, refused, handed, success, answer_of, lines_after, findings_after, Came}

-- a refusal leaves both buffers as they were
pub came_refused : {o : Outcome} (number place : ℕ) (lines findings : List ℕ) → o ≡ refused number place → Came o lines findings lines findings (Refused number place)
unfolding answer_of lines_after findings_after
came_refused number place lines findings e = rw e (record { answer = refl; lines = refl; findings = refl })

pub short_lines : (r : Reduced) (lines findings : ℕ) → lines < sheet_size → handed r lines findings ≡ refused 9 0
unfolding handed
short_lines r lines findings h = rw (lt-ltb lines sheet_size h)

pub short_findings : (r : Reduced) (lines findings : ℕ) → sheet_size ≤ lines → findings < finding_size * r.findings.count → handed r lines findings ≡ refused 9 0
unfolding handed
short_findings r lines findings h k = rw (le-ltb lines sheet_size h, lt-ltb findings (finding_size * r.findings.count) k)

pub came_reduced : (r : Reduced) (lines findings : List ℕ) {lines_out findings_out : List ℕ} {n : ℕ} → sheet_size ≤ length lines → finding_size * r.findings.count ≤ length findings → lines_out ≡ spliced lines 0 (sheet_bytes r.sheet) → findings_out ≡ spliced findings 0 (findings_bytes r.findings.list r.findings.count) → n ≡ success r.findings.count r.accepted → Came (handed r (length lines) (length findings)) lines findings lines_out findings_out (Done n)
unfolding handed answer_of lines_after findings_after
came_reduced r lines findings h k el ef en =
    rw (le-ltb (length lines) sheet_size h, le-ltb (length findings) (finding_size * r.findings.count) k)
    (record { answer = ap Done en; lines = el; findings = ef })

-- what came of one outcome came of the same one
pub came_same : {o o' : Outcome} {lines findings lines_out findings_out : List ℕ} {a : Answer} → o ≡ o' → Came o lines findings lines_out findings_out a → Came o' lines findings lines_out findings_out a
came_same {lines = lines} {findings} {lines_out} {findings_out} {a} e came = subst (λ o. Came o lines findings lines_out findings_out a) e came
