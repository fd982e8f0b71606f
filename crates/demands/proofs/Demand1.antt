-- Demand 1. Every call is refused by a row of the table, with nothing written, or it reduces a run; and where a row applies, that is the answer.
use Rattle.std.specs.Prelude.{Option, Some, None}
use Prim.Native.Nat.{ℕ, ◌*◌, ◌≤◌, ◌<◌}
use mathlib.Core.Path.{◌≡◌, refl, sym, ◌∙◌, ap}
use mathlib.Core.Bool.{Bool, true, false}
use mathlib.Core.List.{List}
use mathlib.Core.Logic.{◌⊎◌, inl, inr}
use borrow.Author.Tests.{ltb-true, ltb-false, lt-ltb, le-ltb}
use lib.Dec.{ltb}
use lib.ListN.{length}
use Rattle.fields.specs.Trouble.{Trouble, Clear, At}
use Rattle.opening.specs.Opening.{run_count_of}
use Rattle.job.specs.Places.{run_of}
use Rattle.job.specs.Troubles.{job_trouble}
use Rattle.entries.proofs.LookBack.{or_true}
use Rattle.reduction.specs.declared.Reduced.{Reduced}
use Rattle.reduction.specs.Reducing.{reduced_run, run_named}
use Rattle.reduction.proofs.Naming.{found_inside, named, none_named}
use Rattle.output.specs.Answers.{packed}
use Rattle.writing.specs.Bytes.{sheet_size, finding_size}
use Rattle.handing.specs.Handing.{refused, reduced, handed, answer_of, lines_after, findings_after}
use Rattle.runs.specs.Outcomes.{of_trouble, outcome, unless_bad_figure, outcome_by}
use Rattle.demands.specs.Table.{CallRefused, row14, of_file, row9, row10}
use Rattle.demands.specs.FigureFile.{Lent, supplied, figure_in, GoodLent}
use Rattle.demands.proofs.FigureFile.{lent_clear, clear_lent, bad_file, bad_lent}
use Rattle.demands.specs.Demands.{Call, Promised, RowApplies, RefusedWith, ReducesRun, CameTo, by_row, to_run, Demand1}
use Rattle.demands.proofs.GoodParts.{clear_job, good_job}
use Rattle.demands.proofs.ByTable.{row_told, told_row}
use Rattle.demands.proofs.NamedRun.{only_run, outcome_of_run, outcome_of_none}
use Rattle.demands.proofs.Apart.{answers_apart}

-- an output is too short for a run: 9
short_handed : (r : Reduced) (lines findings : ℕ) → (lines < sheet_size) ⊎ (findings < finding_size * r.findings.count) → handed r lines findings ≡ refused 9 0
unfolding handed
short_handed r lines findings (inl short) = rw (lt-ltb lines sheet_size short)
short_handed r lines findings (inr short) = rw (lt-ltb findings (finding_size * r.findings.count) short, or_true (ltb lines sheet_size) true refl)

-- with a good figure, or none, its steps decide
by_good_lent : (l : Lent) → GoodLent l → (s : List ℕ) (run lines findings : ℕ) → outcome_by (supplied l) s run lines findings ≡ outcome (figure_in l) s run lines findings
by_good_lent l good s run lines findings =
    ap (λ t. unless_bad_figure t (outcome (figure_in l) s run lines findings)) (lent_clear l good)

-- where a row applies, the outcome is that refusal
row_outcome : (l : Lent) (s : List ℕ) (run lines findings : ℕ) {n p : ℕ} → CallRefused l s run lines findings n p → outcome_by (supplied l) s run lines findings ≡ refused n p
unfolding outcome
row_outcome l s run lines findings (row14 f is bad) =
    ap (λ t. unless_bad_figure t (outcome (figure_in l) s run lines findings)) (bad_file l f is bad)
row_outcome l s run lines findings (of_file figure row) =
    by_good_lent l figure s run lines findings ∙ ap (λ t. of_trouble t (figure_in l) s run lines findings) (row_told s row)
row_outcome l s run lines findings (row10 figure good none) =
    by_good_lent l figure s run lines findings ∙ outcome_of_none s run (good_job s good) (figure_in l) lines findings none
row_outcome l s run lines findings (row9 figure good k inside number short) =
    by_good_lent l figure s run lines findings
    ∙ outcome_of_run s run (good_job s good) (figure_in l) k lines findings inside number
    ∙ short_handed (reduced_run (figure_in l) s k) lines findings short

module _ (c : Call) (kept : Promised c) where
  -- a refusal as outcome is answered, and changes no byte
  refused_with : {n p : ℕ} → outcome_by (supplied c.figure) c.job c.run (length c.lines_in) (length c.findings_in) ≡ refused n p → RefusedWith c n p
  unfolding answer_of lines_after findings_after
  refused_with e =
      record {
        answer = kept.answer ∙ ap (λ o. packed (answer_of o)) e;
        lines = kept.lines ∙ ap (λ o. lines_after o c.lines_in) e;
        findings = kept.findings ∙ ap (λ o. findings_after o c.findings_in) e;
      }

  row_answered : (n p : ℕ) → RowApplies c n p → RefusedWith c n p
  row_answered n p row = refused_with (row_outcome c.figure c.job c.run (length c.lines_in) (length c.findings_in) row)

  from_row : (n p : ℕ) → RowApplies c n p → CameTo c
  from_row n p row = by_row n p row (row_answered n p row)

  -- a run is handed over where both outputs suffice
  reducing : GoodLent c.figure → job_trouble c.job ≡ Clear → (k : ℕ) → k < run_count_of c.job → (run_of c.job k).header.number ≡ c.run → sheet_size ≤ length c.lines_in → finding_size * (reduced_run (figure_in c.figure) c.job k).findings.count ≤ length c.findings_in → ReducesRun c k
  unfolding handed answer_of lines_after findings_after
  reducing figure clear k inside number lines_room findings_room =
      let r = reduced_run (figure_in c.figure) c.job k in
      let suffices : handed r (length c.lines_in) (length c.findings_in) ≡ reduced r = rw (le-ltb (length c.lines_in) sheet_size lines_room, le-ltb (length c.findings_in) (finding_size * r.findings.count) findings_room) in
      let is =
      by_good_lent c.figure figure c.job c.run (length c.lines_in) (length c.findings_in)
      ∙ outcome_of_run c.job c.run clear (figure_in c.figure) k (length c.lines_in) (length c.findings_in) inside number
      ∙ suffices in
      record {
        figure = figure;
        good = clear_job c.job clear;
        run = only_run c.job c.run clear k inside number;
        lines_room = lines_room;
        findings_room = findings_room;
        answer = kept.answer ∙ ap (λ o. packed (answer_of o)) is;
        lines = kept.lines ∙ ap (λ o. lines_after o c.lines_in) is;
        findings = kept.findings ∙ ap (λ o. findings_after o c.findings_in) is;
      }

  by_room : GoodLent c.figure → job_trouble c.job ≡ Clear → (k : ℕ) → k < run_count_of c.job → (run_of c.job k).header.number ≡ c.run → (a b : Bool) → ltb (length c.lines_in) sheet_size ≡ a → ltb (length c.findings_in) (finding_size * (reduced_run (figure_in c.figure) c.job k).findings.count) ≡ b → CameTo c
  by_room figure clear k inside number true b e f = from_row 9 0 (row9 figure (clear_job c.job clear) k inside number (inl (ltb-true _ _ e)))
  by_room figure clear k inside number false true e f = from_row 9 0 (row9 figure (clear_job c.job clear) k inside number (inr (ltb-true _ _ f)))
  by_room figure clear k inside number false false e f = to_run k (reducing figure clear k inside number (ltb-false _ _ e) (ltb-false _ _ f))

  by_number : GoodLent c.figure → job_trouble c.job ≡ Clear → (which : Option ℕ) → run_named (run_of c.job) c.run (run_count_of c.job) ≡ which → CameTo c
  by_number figure clear None e = from_row 10 0 (row10 figure (clear_job c.job clear) (none_named (run_of c.job) c.run (run_count_of c.job) e))
  by_number figure clear (Some k) e =
      by_room figure clear k (found_inside (run_of c.job) c.run (run_count_of c.job) e) (named (run_of c.job) c.run (run_count_of c.job) e) _ _ refl refl

  by_trouble : GoodLent c.figure → (t : Trouble) → job_trouble c.job ≡ t → CameTo c
  by_trouble figure (At n p) e = from_row n p (of_file figure (told_row c.job e))
  by_trouble figure Clear e = by_number figure e (run_named (run_of c.job) c.run (run_count_of c.job)) refl

  by_figure : (t : Trouble) → (supplied c.figure).trouble ≡ t → CameTo c
  by_figure (At n p) e =
      let told = bad_lent c.figure e in
      from_row 14 p (row14 told.bytes told.is told.bad)
  by_figure Clear e = by_trouble (clear_lent c.figure e) (job_trouble c.job) refl

  pub came_to : CameTo c
  came_to = by_figure (supplied c.figure).trouble refl

  -- Every call is refused by a row of the table, or reduces a run; where a row applies, that is the answer; and no two answers are that number
  pub answered_by_table : Demand1 c
  answered_by_table =
      record {
        came = came_to;
        row = row_answered;
        alone = λ a b e f. answers_apart a b (e ∙ sym f);
      }
