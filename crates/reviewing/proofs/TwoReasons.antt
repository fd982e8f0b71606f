-- Two jobs: an explanation hangs on the run's own record, its own certificates, the job's version and the figure alone.
use Prim.Native.Nat.{ℕ}
use mathlib.Core.Path.{◌≡◌, sym, ◌∙◌, ap}
use mathlib.Core.List.{List}
use mathlib.Core.Bool.{true, false}
use lib.ListN.{length}
use Rattle.readings.specs.declared.headers.Version.{Version}
use Rattle.readings.specs.Ranges.{meter, pitot, nozzle}
use Rattle.records.specs.declared.Certificate.{Certificate}
use Rattle.records.specs.declared.Run.{Run}
use Rattle.choosing.specs.Choosing.{Unique, SameForRun}
use Rattle.choosing.proofs.Choosing.{chosen_same_members, chosen_for_same_members}
use Rattle.steps.specs.declared.Figure.{Figure}
use Rattle.heads.specs.Values.{certificate_of}
use Rattle.opening.specs.Opening.{version_of, certificate_count_of}
use Rattle.job.specs.Places.{run_of}
use Rattle.output.specs.Answers.{packed}
use Rattle.printed.specs.Printing.{unprinted_if_bad, printing_answer, printing_out}
use Rattle.dates.specs.Dates.{days_of}
use Rattle.explaining.specs.Explaining.{explanation, explained, explained_run}
use Rattle.forms.specs.Forms.{Form}
use Rattle.asking.specs.Outcomes.{of_explained, explaining}
use Rattle.leverbonnet.specs.Calls.{ExplainsFinding}
use Rattle.demands.specs.FigureFile.{Lent, supplied, figure_in}
use Rattle.demands.specs.Demands.{SameRun}
use Rattle.demands.proofs.TwoJobs.{read_unique}
use Rattle.demands.proofs.NamedRun.{only_run}
use Rattle.reviewing.specs.Asking.{SameReasons}
use Rattle.reviewing.proofs.Answered.{of_only_run}

-- From values: the same certificates of the three instruments give the same days, and the same explanation
module _ (v : Version) (r : Run) (f : ℕ → Certificate) (n : ℕ) (g : ℕ → Certificate) (m : ℕ) (unique : Unique f n) (same : SameForRun r.header f n g m) (rule : ℕ) where
  same_days : days_of v f n r.header rule ≡ days_of v g m r.header rule
  unfolding days_of
  same_days =
      let h = r.header in
      rw (
        chosen_same_members false meter h.meter h.day f n g m unique same.meter,
        chosen_same_members true meter h.meter h.day f n g m unique same.meter,
        chosen_same_members false pitot h.pitot h.day f n g m unique same.pitot,
        chosen_same_members true pitot h.pitot h.day f n g m unique same.pitot,
        chosen_same_members false nozzle h.nozzle h.day f n g m unique same.nozzle,
        chosen_same_members true nozzle h.nozzle h.day f n g m unique same.nozzle,
      )

  same_explained : (fig : Figure) (place : ℕ) → explained v fig f n r rule place ≡ explained v fig g m r rule place
  unfolding explained explanation
  same_explained fig place = rw (chosen_for_same_members r.header f n g m unique same, same_days)

-- From files
module _ (s t : List ℕ) (run : ℕ) (same : SameRun s t run) (rule place : ℕ) where
  same_run_explained : (fig : Figure) → explained_run fig s same.records.index rule place ≡ explained_run fig t same.records.other rule place
  unfolding explained_run
  same_run_explained fig =
      same_explained (version_of s) (run_of s same.records.index) (certificate_of s) (certificate_count_of s) (certificate_of t) (certificate_count_of t) (read_unique s same.records.first) same.records.certificates rule fig place
      ∙ rw (same.version, same.records.record')

  same_explaining : (form : Form) (fig : Figure) (room : ℕ) → explaining form fig s run rule place room ≡ explaining form fig t run rule place room
  same_explaining form fig room =
      let records = same.records in
      let other = ap (λ r. r.header.number) (sym records.record') ∙ records.number in
      of_only_run form s run records.first fig rule place room records.index (only_run s run records.first records.index records.inside records.number)
      ∙ ap (λ e. of_explained form e room) (same_run_explained fig)
      ∙ sym (of_only_run form t run records.second fig rule place room records.other (only_run t run records.second records.other records.within other))

  same_explains : (form : Form) (l : Lent) (out_in out_out : List ℕ) (r : ℕ) → ExplainsFinding form (supplied l) s run rule place out_in out_out r → ExplainsFinding form (supplied l) t run rule place out_in out_out r
  same_explains form l out_in out_out r done =
      let is = ap (unprinted_if_bad (supplied l).trouble) (same_explaining form (figure_in l) (length out_in)) in
      record {
        answer = done.answer ∙ ap (λ p. packed (printing_answer p)) is;
        out = done.out ∙ ap (λ p. printing_out p out_in) is;
      }

-- Two jobs of one version and one figure, or none: what the call answers and writes for one, it answers and writes for the other, byte for
-- byte
pub same_reasons : SameReasons
same_reasons form l m s t run rule place figures same out_in out_out r =
    rw (← figures) (same_explains s t run same rule place form l out_in out_out r)
