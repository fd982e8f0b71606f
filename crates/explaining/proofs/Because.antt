-- A finding explained, put together; and that there is none.
use Rattle.std.specs.Prelude.{Option, Some, None}
use Prim.Native.Nat.{ℕ, ◌<◌}
use mathlib.Core.Path.{◌≡◌, refl, sym, ◌∙◌, ap}
use mathlib.Core.Bool.{Bool, true, false, cond}
use mathlib.Core.List.{List}
use native.Mathlib.Omega.{arith}
use lib.ListN.{drop, get_or}
use Rattle.numbered.proofs.Rest.{above_all, numbers_of, other_number}
use Rattle.readings.specs.declared.headers.Version.{Version}
use Rattle.records.specs.declared.RunHeader.{RunHeader}
use Rattle.grounds.specs.declared.Ground.{Ground}
use Rattle.grounds.specs.declared.Ground.TheVariants.{Silent}
use Rattle.grounds.specs.Grounds.{broken}
use Rattle.dates.specs.declared.Days.{Days}
use Rattle.dates.specs.Dates.{days_of}
use Rattle.diameters.specs.Diameters.{is_round}
use Rattle.steps.specs.declared.Figure.{Figure}
use Rattle.conditions.specs.declared.Part.{Part}
use Rattle.classes.specs.Classes.{class_number, class_of}
use Rattle.rules.specs.declared.Beside.{Beside}
use Rattle.rules.specs.Rules.{last_rule, table, ground_of}
use Rattle.findings.specs.declared.Sought.TheVariants.{Why}
use Rattle.findings.specs.Seeking.{if_broken, ground_at}
use Rattle.findings.proofs.Speaking.{silent_stands}
use Rattle.opening.specs.Opening.{version_of, certificate_count_of}
use Rattle.heads.specs.Values.{certificate_of, header}
use Rattle.parts.specs.Values.{run_at}
use Rattle.job.specs.declared.Job.{Job}
use Rattle.job.specs.Places.{run_of}
use Rattle.job.proofs.ReadJobs.{count_of_certificates, start_of}
use Rattle.reduction.specs.declared.Reduced.{Reduced}
use Rattle.reduction.specs.Reducing.{ClearRun, chosen_in, judged_run}
use Rattle.explaining.specs.declared.Explanation.{Explanation}
use Rattle.explaining.specs.Explaining.{ground_for, explanation_by, explanation, explained, explained_run}

-- no rule has the number 0
pub no_rule_zero : (part : Part) (b : Beside) → ground_of part b 0 ≡ Silent
unfolding ground_of table
no_rule_zero part b = refl

-- no rule has a number above the last
pub beyond_table : (part : Part) (b : Beside) (rule : ℕ) → last_rule < rule → ground_of part b rule ≡ Silent
unfolding ground_of table
beyond_table part b rule h =
    other_number Silent (table part b) rule (above_all last_rule (numbers_of (table part b)) rule refl h)

-- of two grounds that are both nothing, either is
either_silent : (test : Bool) (g : Ground) → g ≡ Silent → cond test g Silent ≡ Silent
either_silent true g e = e
either_silent false g e = refl

-- a ground that is kept only if it is broken is nothing exactly where it is not
kept_none : (g : Ground) → if_broken g ≡ Silent → broken g ≡ false
kept_none g = go (broken g) refl
  where
    go : (t : Bool) → broken g ≡ t → cond t g Silent ≡ Silent → broken g ≡ false
    go true e none = absurd (silent_stands (sym none) e)
    go false e none = e

kept_some : (g : Ground) → (if_broken g ≡ Silent → ⊥) → broken g ≡ true
kept_some g = go (broken g) refl
  where
    go : (t : Bool) → broken g ≡ t → (cond t g Silent ≡ Silent → ⊥) → broken g ≡ true
    go true e some = e
    go false e some = absurd (some refl)

module _ (fig : Figure) (s : List ℕ) (k rule place : ℕ) where
  -- what the rule of the finding goes by
  abbrev ground : Ground
  ground = ground_for (version_of s) fig (run_of s k) (chosen_in s k) rule place

  unbroken : broken ground ≡ false → None ≡ explained_run fig s k rule place
  unfolding explained_run explained chosen_in
  unbroken e = rw e

  -- a number that no rule has
  pub beneath : rule < 1 → None ≡ explained_run fig s k rule place
  unfolding ground_for ground_at broken
  beneath h =
      let none : rule ≡ 0 = omega (arith, h) in
      unbroken (rw (none, either_silent _ _ (no_rule_zero _ _)))

  pub beyond : last_rule < rule → None ≡ explained_run fig s k rule place
  unfolding ground_for ground_at broken
  beyond h = unbroken (rw (either_silent _ _ (beyond_table _ _ rule h)))

  module _ {done : Reduced} (is : done ≡ judged_run (Why rule place) fig s k) where
    kept : done.basis ≡ if_broken ground
    unfolding judged_run ground_for
    kept = ap (λ (r : Reduced). r.basis) is

    -- nothing was kept, and the run does not have the finding
    pub no_finding_lem : done.basis ≡ Silent → None ≡ explained_run fig s k rule place
    no_finding_lem none = unbroken (kept_none ground (sym kept ∙ none))

    -- something was, and that is what explains it
    pub has_finding : (done.basis ≡ Silent → ⊥) → {e : Explanation} → e ≡ explanation_by done.basis (version_of s) (certificate_of s) (certificate_count_of s) (run_of s k) rule place → ◌≡◌ {A = Option Explanation} (Some e) (explained_run fig s k rule place)
    unfolding explained_run explained explanation chosen_in
    has_finding some ee =
        let broke : broken ground ≡ true = kept_some ground (λ none. some (kept ∙ none)) in
        rw (broke, ee, kept, broke)

-- the header that is read at a run's place is the run's
header_is : {s t : List ℕ} {v w : Version} {j : Job} {k : ℕ} {h : RunHeader} → ClearRun s j k → v ≡ version_of s → w ≡ v → t ≡ drop (get_or j.starts k 0) s → h ≡ header w t → h ≡ (run_of s k).header
unfolding run_at
header_is {s} {j = j} {k = k} ok ev ew et eh = eh ∙ rw (ew, ev, et, start_of s j ok.job k ok.inside)

-- A finding explained by a ground, from what is read and chosen
pub put_together : {s t : List ℕ} {v w : Version} {j : Job} {k : ℕ} {h : RunHeader} {class : ℕ} {days : Days} (g : Ground) (rule place : ℕ) → ClearRun s j k → v ≡ version_of s → w ≡ v → t ≡ drop (get_or j.starts k 0) s → h ≡ header w t → class ≡ class_number (class_of v rule) → days ≡ days_of v (certificate_of s) j.certificates h rule → ◌≡◌ {A = Explanation} (record { finding = record { rule = rule; class = class; place = place }; round = is_round h.site; basis = g; days = days }) (explanation_by g (version_of s) (certificate_of s) (certificate_count_of s) (run_of s k) rule place)
put_together {s} {j = j} g rule place ok ev ew et eh ec ed =
    rw (ed, ec, header_is ok ev ew et eh, ev, count_of_certificates s j ok.job)
