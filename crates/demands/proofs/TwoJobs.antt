-- Demand 3, two jobs: a run's answer hangs on its own record, its own certificates, the job's version and the figure alone, and on the
-- version only where the run breaks rule 5.
use Prim.Native.Nat.{ℕ, ◌<◌}
use mathlib.Core.Path.{◌≡◌, sym, ◌∙◌, ap}
use mathlib.Core.List.{List}
use native.Mathlib.Decide.{dec_lt}
use native.Mathlib.Omega.{arith}
use lib.ListN.{length}
use Rattle.fields.specs.Trouble.{Clear}
use Rattle.records.specs.declared.Run.{Run}
use Rattle.choosing.specs.declared.Chosen.{Chosen}
use Rattle.choosing.specs.Choosing.{Unique, Of}
use Rattle.choosing.proofs.Choosing.{chosen_for_same_members}
use Rattle.steps.specs.declared.Figure.{Figure}
use Rattle.steps.specs.Steps.{no_figure}
use Rattle.heads.specs.Values.{certificate_of}
use Rattle.opening.specs.Opening.{version_of, certificate_count_of}
use Rattle.job.specs.Places.{run_of}
use Rattle.job.specs.Troubles.{job_trouble}
use Rattle.job.proofs.ClearJobs.{unique}
use Rattle.reduction.specs.Reducing.{worked, reduction, chosen_in, reduced_run}
use Rattle.handing.specs.Handing.{handed}
use Rattle.runs.specs.Outcomes.{outcome, unless_bad_figure}
use Rattle.leverbonnet.specs.Calls.{Reduces}
use Rattle.demands.specs.FigureFile.{Lent, supplied, figure_in}
use Rattle.demands.specs.Demands.{SameRecords, SameRun, SameFigure, SameBytes}
use Rattle.demands.specs.MovedFactor.{SameUnmoved}
use Rattle.demands.proofs.NamedRun.{outcome_of_run}
use Rattle.demands.proofs.SameOutcomes.{reduces_same}
use Rattle.demands.proofs.Unmoved.{not_moved, worked_same}

-- a job that is read repeats no certificate
pub read_unique : (s : List ℕ) → job_trouble s ≡ Clear → Unique (certificate_of s) (certificate_count_of s)
read_unique s clear = record { once = once }
  where
    once : (i j : ℕ) → i < certificate_count_of s → j < certificate_count_of s → Of (certificate_of s j).kind (certificate_of s j).identity (certificate_of s i) → (certificate_of s i).day ≡ (certificate_of s j).day → i ≡ j
    once i j hi hj same day = order (dec_lt i j) (dec_lt j i)
      where
        order : Dec (i < j) → Dec (j < i) → i ≡ j
        order (yes l) d = absurd (unique s clear i j l hj same.kind same.identity day)
        order (no f) (yes l) = absurd (unique s clear j i l hi (sym same.kind) (sym same.identity) (sym day))
        order (no f) (no g) = omega (arith, f, g)

module _ (s t : List ℕ) (run : ℕ) (same : SameRecords s t run) where
  -- the run, and what is chosen for it in the first job
  abbrev r : Run
  r = run_of s same.index

  abbrev ch : Chosen
  ch = chosen_in s same.index

  -- reduced, it is what it is in the second, lines and findings, where it is worked alike by both versions
  same_reduced : (fig : Figure) → worked (version_of s) fig r ch ≡ worked (version_of t) fig r ch → reduced_run fig s same.index ≡ reduced_run fig t same.other
  unfolding reduced_run reduction chosen_in
  same_reduced fig alike =
      let chosen = chosen_for_same_members r.header (certificate_of s) (certificate_count_of s) (certificate_of t) (certificate_count_of t) (read_unique s same.first) same.certificates in
      alike ∙ ap (worked (version_of t) fig r) chosen ∙ rw same.record'

  -- and so is what the call answers and writes
  same_reduces : (l : Lent) → worked (version_of s) (figure_in l) r ch ≡ worked (version_of t) (figure_in l) r ch → (lines_in findings_in lines_out findings_out : List ℕ) (result : ℕ) → Reduces (supplied l) s run lines_in findings_in lines_out findings_out result → Reduces (supplied l) t run lines_in findings_in lines_out findings_out result
  same_reduces l alike lines_in findings_in lines_out findings_out result =
      reduces_same (supplied l) (supplied l) s t (ap (unless_bad_figure (supplied l).trouble) same_outcome)
    where
      same_outcome : outcome (figure_in l) s run (length lines_in) (length findings_in) ≡ outcome (figure_in l) t run (length lines_in) (length findings_in)
      same_outcome =
          outcome_of_run s run same.first (figure_in l) same.index (length lines_in) (length findings_in) same.inside same.number
          ∙ ap (λ r. handed r (length lines_in) (length findings_in)) (same_reduced (figure_in l) alike)
          ∙ sym (outcome_of_run t run same.second (figure_in l) same.other (length lines_in) (length findings_in) same.within (ap (λ r. r.header.number) (sym same.record') ∙ same.number))

-- Two jobs of one version and one figure, or none: what the call answers and writes for one, it answers and writes for the other, byte for
-- byte
pub same_bytes : SameBytes SameFigure SameRun
same_bytes l m s t run figures alike =
    let r = run_of s alike.records.index in
    let ch = chosen_in s alike.records.index in
    rw (← figures) (same_reduces s t run alike.records l (ap (λ v. worked v (figure_in l) r ch) alike.version))

-- Two jobs of whatever versions, where the run does not break rule 5
pub same_unless_moved : SameBytes SameFigure SameUnmoved
same_unless_moved l m s t run figures alike =
    let r = run_of s alike.records.index in
    let ch = chosen_in s alike.records.index in
    let unmoved = not_moved no_figure r ch _ alike.unmoved in
    rw (← figures)
    (same_reduces s t run alike.records l (worked_same (version_of s) (figure_in l) r ch unmoved ∙ sym (worked_same (version_of t) (figure_in l) r ch unmoved)))
