-- Every call to explain is refused by a row of the table, with nothing written, or explains a finding that the run has; and where a row
-- applies, that is the answer.
use Rattle.std.specs.Prelude.{Option, Some, None}
use Prim.Native.Nat.{ℕ, ◌≤◌, ◌<◌}
use mathlib.Core.Path.{◌≡◌, refl, sym, ◌∙◌, ap}
use mathlib.Core.Bool.{Bool, true, false, true≢false}
use mathlib.Core.List.{List}
use borrow.Author.Tests.{ltb-true, ltb-false, lt-ltb, le-ltb}
use lib.Dec.{ltb}
use lib.ListN.{length}
use Rattle.fields.specs.Trouble.{Trouble, Clear, At}
use Rattle.grounds.specs.Grounds.{broken}
use Rattle.steps.specs.declared.Figure.{Figure}
use Rattle.opening.specs.Opening.{version_of, certificate_count_of, run_count_of}
use Rattle.heads.specs.Values.{certificate_of}
use Rattle.job.specs.Places.{run_of}
use Rattle.job.specs.Troubles.{job_trouble}
use Rattle.reduction.specs.Reducing.{chosen_in, run_named}
use Rattle.reduction.proofs.Naming.{found_inside, named, none_named}
use Rattle.findings.specs.Listing.{HasFinding}
use Rattle.output.specs.Answers.{packed}
use Rattle.printed.specs.Printing.{Printing, unprinted, printed, if_fits, unprinted_if_bad, printing_answer, printing_out}
use Rattle.explaining.specs.Explaining.{explanation, explained, explained_run}
use Rattle.forms.specs.Forms.{Form}
use Rattle.explanations.specs.Written.{written}
use Rattle.asking.specs.Outcomes.{of_explained, of_named_run, unless_job_trouble, explaining, explaining_by}
use Rattle.demands.specs.FigureFile.{Lent, supplied, figure_in, GoodLent}
use Rattle.demands.specs.Demands.{OnlyRun}
use Rattle.demands.proofs.FigureFile.{lent_clear, clear_lent, bad_file, bad_lent}
use Rattle.demands.proofs.GoodParts.{clear_job, good_job}
use Rattle.demands.proofs.ByTable.{row_told, told_row}
use Rattle.demands.proofs.NamedRun.{only_run, found_by_number, not_found}
use Rattle.demands.proofs.Apart.{answers_apart}
use Rattle.reviewing.specs.Shown.{findings_in, ground_of_run}
use Rattle.reviewing.specs.Asking.{Asking, KeepsPromise, Asked, reason_of, RowFor, row_for14, row_for_file, row_for10, row_for15, row_for9, RefusedFor, ExplainsRun, CameOf, came_by_row, came_to_finding, AskedAndAnswered}
use Rattle.reviewing.proofs.Placed.{from_one_table}

-- A run that has the finding is explained, and one that does not have it is not
module _ (fig : Figure) (s : List ℕ) (k rule place : ℕ) where
  pub has_reason : HasFinding (findings_in fig s k) rule place → explained_run fig s k rule place ≡ Some (explanation (version_of s) fig (certificate_of s) (certificate_count_of s) (run_of s k) rule place)
  unfolding explained_run explained chosen_in
  has_reason h = rw ((from_one_table fig s k rule place).finding.0 h)

  pub no_reason : (HasFinding (findings_in fig s k) rule place → ⊥) → explained_run fig s k rule place ≡ None
  unfolding explained_run explained chosen_in
  no_reason none = rw (stands (broken (ground_of_run fig s k rule place)) refl)
    where
      stands : (b : Bool) → broken (ground_of_run fig s k rule place) ≡ b → broken (ground_of_run fig s k rule place) ≡ false
      stands true e = absurd (none ((from_one_table fig s k rule place).finding.1 e))
      stands false e = e

  -- whether it has it can be told
  pub has_or_not : {P : Type 0} → (HasFinding (findings_in fig s k) rule place → P) → ((HasFinding (findings_in fig s k) rule place → ⊥) → P) → P
  has_or_not {P} has hasn't = go (broken (ground_of_run fig s k rule place)) refl
    where
      go : (b : Bool) → broken (ground_of_run fig s k rule place) ≡ b → P
      go true e = has ((from_one_table fig s k rule place).finding.1 e)
      go false e = hasn't (λ h. true≢false (sym ((from_one_table fig s k rule place).finding.0 h) ∙ e))

module _ (form : Form) (s : List ℕ) (run : ℕ) (clear : job_trouble s ≡ Clear) (fig : Figure) (rule place room : ℕ) where
  -- what comes of the only run of a number
  pub of_only_run : (k : ℕ) → OnlyRun s run k → explaining form fig s run rule place room ≡ of_explained form (explained_run fig s k rule place) room
  unfolding explaining
  of_only_run k only =
      ap (λ t. unless_job_trouble form t fig s run rule place room) clear
      ∙ ap (λ which. of_named_run form fig s which rule place room) (found_by_number s run clear k only.inside only.number)

  of_no_run : ((k : ℕ) → k < run_count_of s → (run_of s k).header.number ≡ run → ⊥) → explaining form fig s run rule place room ≡ unprinted 10 0
  unfolding explaining
  of_no_run none =
      ap (λ t. unless_job_trouble form t fig s run rule place room) clear
      ∙ ap (λ which. of_named_run form fig s which rule place room) (not_found s run clear none)

module _ (a : Asking) where
  abbrev l : Lent
  l = a.figure

  abbrev s : List ℕ
  s = a.job

  abbrev room : ℕ
  room = length a.out_in

  abbrev came : Printing
  came = explaining_by a.form (supplied l) s a.run a.rule a.place room

  -- with a good figure, or none, its steps decide
  by_good_lent : GoodLent l → came ≡ explaining a.form (figure_in l) s a.run a.rule a.place room
  by_good_lent good = ap (λ t. unprinted_if_bad t (explaining a.form (figure_in l) s a.run a.rule a.place room)) (lent_clear l good)

  -- and of the only run of the number, its explanation, or that it does not have the finding
  of_run_lem : GoodLent l → job_trouble s ≡ Clear → (k : ℕ) → OnlyRun s a.run k → came ≡ of_explained a.form (explained_run (figure_in l) s k a.rule a.place) room
  of_run_lem good clear k only = by_good_lent good ∙ of_only_run a.form s a.run clear (figure_in l) a.rule a.place room k only

  lacking_it : GoodLent l → job_trouble s ≡ Clear → (k : ℕ) → OnlyRun s a.run k → (Asked a k → ⊥) → came ≡ unprinted 15 0
  unfolding of_explained
  lacking_it good clear k only none = of_run_lem good clear k only ∙ rw (no_reason (figure_in l) s k a.rule a.place none)

  having_it : GoodLent l → job_trouble s ≡ Clear → (k : ℕ) → OnlyRun s a.run k → Asked a k → came ≡ if_fits (written a.form (reason_of a k)) room
  unfolding of_explained
  having_it good clear k only has = of_run_lem good clear k only ∙ rw (has_reason (figure_in l) s k a.rule a.place has)

  -- where a row applies, that refusal came of the call
  row_came : {n p : ℕ} → RowFor a n p → came ≡ unprinted n p
  unfolding explaining if_fits
  row_came (row_for14 f is bad) = ap (λ t. unprinted_if_bad t (explaining a.form (figure_in l) s a.run a.rule a.place room)) (bad_file l f is bad)
  row_came (row_for_file figure row) = by_good_lent figure ∙ ap (λ t. unless_job_trouble a.form t (figure_in l) s a.run a.rule a.place room) (row_told s row)
  row_came (row_for10 figure good none) = by_good_lent figure ∙ of_no_run a.form s a.run (good_job s good) (figure_in l) a.rule a.place room none
  row_came (row_for15 figure good k only none) = lacking_it figure (good_job s good) k only none
  row_came (row_for9 figure good k only has short) = having_it figure (good_job s good) k only has ∙ rw (lt-ltb _ _ short)

  module _ (kept : KeepsPromise a) where
    -- a refusal is answered, and changes no byte
    refused_for : {n p : ℕ} → came ≡ unprinted n p → RefusedFor a n p
    unfolding printing_answer printing_out
    refused_for e =
        record {
          answer = kept.answer ∙ ap (λ p. packed (printing_answer p)) e;
          out = kept.out ∙ ap (λ p. printing_out p a.out_in) e;
        }

    row_answered : (n p : ℕ) → RowFor a n p → RefusedFor a n p
    row_answered n p row = refused_for (row_came row)

    by_row : (n p : ℕ) → RowFor a n p → CameOf a
    by_row n p row = came_by_row n p row (row_answered n p row)

    -- an explanation is handed over where the output suffices
    handed : GoodLent l → job_trouble s ≡ Clear → (k : ℕ) → OnlyRun s a.run k → Asked a k → length (written a.form (reason_of a k)) ≤ room → ExplainsRun a k
    unfolding if_fits printing_answer printing_out
    handed figure clear k only has enough =
        let is : came ≡ printed (written a.form (reason_of a k)) = having_it figure clear k only has ∙ rw (le-ltb _ _ enough) in
        record {
          figure = figure;
          good = clear_job s clear;
          run = only;
          finding = has;
          room = enough;
          answer = kept.answer ∙ ap (λ p. packed (printing_answer p)) is;
          out = kept.out ∙ ap (λ p. printing_out p a.out_in) is;
        }

    by_room : GoodLent l → job_trouble s ≡ Clear → (k : ℕ) → OnlyRun s a.run k → Asked a k → (b : Bool) → ltb room (length (written a.form (reason_of a k))) ≡ b → CameOf a
    by_room figure clear k only has true e = by_row 9 0 (row_for9 figure (clear_job s clear) k only has (ltb-true _ _ e))
    by_room figure clear k only has false e = came_to_finding k (handed figure clear k only has (ltb-false _ _ e))

    by_finding : GoodLent l → job_trouble s ≡ Clear → (k : ℕ) → OnlyRun s a.run k → CameOf a
    by_finding figure clear k only =
        has_or_not (figure_in l) s k a.rule a.place
        (λ has. by_room figure clear k only has _ refl)
        (λ none. by_row 15 0 (row_for15 figure (clear_job s clear) k only none))

    by_number : GoodLent l → job_trouble s ≡ Clear → (which : Option ℕ) → run_named (run_of s) a.run (run_count_of s) ≡ which → CameOf a
    by_number figure clear None e = by_row 10 0 (row_for10 figure (clear_job s clear) (none_named (run_of s) a.run (run_count_of s) e))
    by_number figure clear (Some k) e =
        by_finding figure clear k (only_run s a.run clear k (found_inside (run_of s) a.run (run_count_of s) e) (named (run_of s) a.run (run_count_of s) e))

    by_trouble : GoodLent l → (t : Trouble) → job_trouble s ≡ t → CameOf a
    by_trouble figure (At n p) e = by_row n p (row_for_file figure (told_row s e))
    by_trouble figure Clear e = by_number figure e (run_named (run_of s) a.run (run_count_of s)) refl

    by_figure : (t : Trouble) → (supplied l).trouble ≡ t → CameOf a
    by_figure (At n p) e =
        let told = bad_lent l e in
        by_row 14 p (row_for14 told.bytes told.is told.bad)
    by_figure Clear e = by_trouble (clear_lent l e) (job_trouble s) refl

    -- Every call to explain
    pub asked_and_answered : AskedAndAnswered a
    asked_and_answered =
        record {
          came = by_figure (supplied l).trouble refl;
          row = row_answered;
          alone = λ x y e f. answers_apart x y (e ∙ sym f);
        }
