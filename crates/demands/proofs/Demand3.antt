-- Demand 3. The findings that a successful call wrote are the rules that the run breaks, in order and each once; it answered their number, and
-- accepted exactly if none is a fault.
use Prim.Native.Nat.{ℕ, ◌≤◌, ◌<◌}
use mathlib.Core.Path.{◌≡◌, refl, sym, ◌∙◌, ap}
use mathlib.Core.Bool.{Bool, true, false}
use mathlib.Core.List.{List}
use native.Mathlib.Omega.{arith}
use lib.ListN.{length, get_or}
use lib.Seq.{get_or-take}
use Rattle.arrays.proofs.Filled.{filled_front}
use Rattle.steps.specs.declared.Figure.{Figure}
use Rattle.findings.specs.declared.Finding.{Finding}
use Rattle.findings.specs.Listing.{most_findings, no_finding, accepted, listed, lines_for, findings_for}
use Rattle.findings.proofs.Accepting.{accepted_exactly}
use Rattle.findings.proofs.Members.{listed_exactly}
use Rattle.findings.proofs.Most.{at_most_for}
use Rattle.demands.proofs.Sorted.{in_order, each_once, class_at}
use Rattle.opening.specs.Opening.{version_of}
use Rattle.job.specs.Places.{run_of}
use Rattle.job.proofs.ClearJobs.{clear_run}
use Rattle.reduction.specs.Reducing.{worked, reduction, chosen_in, reduced_run}
use Rattle.output.specs.Answers.{packed}
use Rattle.output.proofs.Records.{record_at}
use Rattle.writing.specs.Bytes.{finding_size, finding_bytes, findings_bytes}
use Rattle.writing.proofs.Sizes.{finding_length}
use Rattle.handing.specs.Handing.{success}
use Rattle.demands.specs.FigureFile.{figure_in}
use Rattle.demands.specs.Demands.{Call, Promised, Succeeds, bytes_of_finding, FindingsOf, Demand3}
use Rattle.demands.proofs.GoodParts.{good_job}
use Rattle.demands.proofs.Succeeding.{Done, done}

-- the list of run k's findings is what it is called
findings_of : (fig : Figure) (s : List ℕ) (k : ℕ) → FindingsOf fig s k (findings_for (version_of s) fig (run_of s k) (chosen_in s k))
unfolding findings_for
findings_of fig s k =
    let v = version_of s in
    let r = run_of s k in
    let ch = chosen_in s k in
    let l = lines_for v r ch in
    record { sorted = in_order v fig r ch l; once = each_once v fig r ch l; exactly = listed_exactly v fig r ch l; class = class_at v fig r ch l }

-- what stands at an index of a list stands there in the array that holds it
held_at : (fs : List Finding) (i : ℕ) → i < length fs → get_or (listed fs).list i no_finding ≡ get_or fs i no_finding
unfolding listed
held_at fs i inside =
    sym (get_or-take (length fs) (listed fs).list i no_finding inside) ∙ ap (λ gs. get_or gs i no_finding) (filled_front most_findings no_finding fs)

-- a count and a verdict can be told from an answer
told_apart : {count other : ℕ} (verdict stands : Bool) → count ≤ most_findings → other ≤ most_findings → success other stands ≡ success count verdict → (count ≡ other) × (verdict ≡ stands)
unfolding success
told_apart true true few small e = (omega arith, refl)
told_apart false false few small e = (sym e, refl)
told_apart true false few small e = absurd (omega arith)
told_apart false true few small e = absurd (omega arith)

-- The findings written are the rules broken; the answer is their number and the verdict
pub findings_by_rules : (c : Call) → Promised c → Succeeds c → Demand3 c
unfolding reduced_run reduction chosen_in worked findings_bytes listed packed
findings_by_rules c kept succeeds =
    record {
      index = k;
      run = d.reducing.run;
      list = list;
      findings = findings_of (figure_in c.figure) c.job k;
      accepted = accepted list;
      answer = d.reducing.answer;
      few = few;
      alone = λ count verdict small e. told_apart verdict (accepted list) small few (sym d.reducing.answer ∙ e);
      stands = accepted_exactly list;
      bytes = written;
    }
  where
    d : Done c
    d = done c kept succeeds

    k : ℕ
    k = d.index

    list : List Finding
    list = findings_for (version_of c.job) (figure_in c.figure) (run_of c.job k) (chosen_in c.job k)

    few : length list ≤ most_findings
    few = at_most_for (version_of c.job) (figure_in c.figure) (run_of c.job k) (chosen_in c.job k) (clear_run c.job (good_job c.job d.reducing.good) k d.reducing.run.inside)

    written : (i : ℕ) → i < length list → bytes_of_finding c.findings_out i ≡ finding_bytes (get_or list i no_finding)
    written i inside =
        ap (λ out. bytes_of_finding out i) d.reducing.findings
        ∙ record_at (λ n. finding_bytes (get_or (listed list).list n no_finding)) finding_size (λ n. finding_length _) c.findings_in (length list) i inside
        ∙ ap finding_bytes (held_at list i inside)
