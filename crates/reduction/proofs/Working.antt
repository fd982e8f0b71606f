-- A run worked with what was chosen for it, put together.
use Rattle.std.specs.Prelude.{Option}
use Prim.Native.Nat.{ℕ}
use mathlib.Core.Path.{◌≡◌, refl, ◌∙◌, subst⁻¹}
use mathlib.Core.Bool.{Bool}
use mathlib.Core.List.{List}
use lib.ListN.{take}
use Rattle.arrays.proofs.Filled.{filled_front}
use Rattle.readings.specs.declared.headers.Version.{Version}
use Rattle.records.specs.declared.Certificate.{Certificate}
use Rattle.records.specs.declared.Run.{Run}
use Rattle.values.specs.declared.Diameters.{Diameters}
use Rattle.lines.specs.declared.Lines.{Lines}
use Rattle.lines.specs.declared.Sheet.{Sheet}
use Rattle.lines.specs.Promise.{RunWithValues}
use Rattle.lines.specs.Sheet.{lines, sheet}
use Rattle.choosing.specs.declared.Chosen.{Chosen}
use Rattle.choosing.specs.Choosing.{chosen_for}
use Rattle.factors.specs.Factor.{factor_of, coefficient_of, diameters_of}
use Rattle.factors.specs.InRange.{ChosenOk}
use Rattle.factors.proofs.Values.{chosen_in_range, factor_range, coefficient_range, diameters_range}
use Rattle.steps.specs.declared.Figure.{Figure}
use Rattle.findings.specs.declared.Finding.{Finding}
use Rattle.findings.specs.declared.Sought.{Sought}
use Rattle.findings.specs.declared.Sought.TheVariants.{All, Why}
use Rattle.findings.specs.declared.Walked.{Walked}
use Rattle.findings.specs.Listing.{most_findings, no_finding, accepted, listed, lines_for, findings_for}
use Rattle.findings.specs.Seeking.{list_for, walked}
use Rattle.reduction.specs.declared.Reduced.{Reduced}
use Rattle.reduction.specs.Reducing.{Reducible, found_for, judged, worked, reduction, reduced_run, judged_run, chosen_in}

module _ (v : Version) (f : ℕ → Certificate) (n : ℕ) (r : Run) (ok : Reducible f n r) where
  -- what is chosen for a run is in range, and so are the values that it gives
  pub lines_workable : {ch : Chosen} {y cp : Option ℕ} {nozzle : Option Diameters} → ch ≡ chosen_for f n r.header → y ≡ factor_of v ch → cp ≡ coefficient_of ch → nozzle ≡ diameters_of ch → RunWithValues r y cp nozzle
  lines_workable {ch} ec ey ecp en =
      let chosen : ChosenOk ch = subst⁻¹ ChosenOk ec (chosen_in_range f n r.header ok.certificates) in
      record {
        run = ok.run;
        factor = rw ey (factor_range v ch chosen);
        coefficient = rw ecp (coefficient_range ch chosen);
        diameters = rw en (diameters_range ch chosen);
      }

-- the findings take the lines that the chosen certificates give
pub lines_worked : (v : Version) (r : Run) (ch : Chosen) {y cp : Option ℕ} {nozzle : Option Diameters} {l : Lines} → y ≡ factor_of v ch → cp ≡ coefficient_of ch → nozzle ≡ diameters_of ch → l ≡ lines r y cp nozzle → l ≡ lines_for v r ch
unfolding lines_for
lines_worked v r ch ey ecp en el = el ∙ rw (ey, ecp, en)

-- as many findings as the list holds
pub listed_count : (fs : List Finding) → take (listed fs).count (listed fs).list ≡ fs
unfolding listed
listed_count fs = filled_front most_findings no_finding fs

-- the lists of what is sought are those that were looked for
same_list : (sought : Sought) (v : Version) (fig : Figure) (r : Run) (ch : Chosen) → list_for sought v fig r ch (lines_for v r ch) ≡ found_for sought v fig r ch
unfolding findings_for
same_list All v fig r ch = refl
same_list (Why rule place) v fig r ch = refl

pub is_judged : (sought : Sought) (v : Version) (fig : Figure) (f : ℕ → Certificate) (n : ℕ) (r : Run) {ch : Chosen} {l : Lines} {done : Walked} {stands : Bool} {written : Sheet} → ch ≡ chosen_for f n r.header → l ≡ lines_for v r ch → done ≡ walked sought v fig r ch l → stands ≡ accepted (take done.findings.count done.findings.list) → written ≡ sheet l → ◌≡◌ {A = Reduced} (record { number = r.header.number; accepted = stands; sheet = written; findings = done.findings; basis = done.basis }) (judged sought v fig r (chosen_for f n r.header))
is_judged sought v fig f n r {ch} ec el ed ea ew = rw (ew, ea, ed, listed_count, el, ec, same_list sought v fig r (chosen_for f n r.header))

-- Where all findings are sought, the run is reduced
pub judged_all : (fig : Figure) (s : List ℕ) (k : ℕ) → judged_run All fig s k ≡ reduced_run fig s k
unfolding judged_run reduced_run reduction worked chosen_in
judged_all fig s k = refl
