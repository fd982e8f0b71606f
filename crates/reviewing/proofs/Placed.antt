-- Over every run, rule and place: the run has the finding exactly when what its rule goes by there is broken.
use Prim.Native.Nat.{ℕ, ◌≤◌, ◌<◌}
use mathlib.Core.Path.{◌≡◌, sym, ◌∙◌, ap}
use mathlib.Core.Bool.{true}
use mathlib.Core.List.{List}
use native.Mathlib.Decide.{dec_lt}
use native.Mathlib.Omega.{arith}
use Rattle.records.specs.declared.Run.{Run}
use Rattle.lines.specs.declared.Lines.{Lines}
use Rattle.choosing.specs.declared.Chosen.{Chosen}
use Rattle.steps.specs.declared.Figure.{Figure}
use Rattle.grounds.specs.Grounds.{broken}
use Rattle.classes.specs.Classes.{places_of, place_at}
use Rattle.rules.specs.Rules.{last_rule, ground_of}
use Rattle.opening.specs.Opening.{version_of}
use Rattle.job.specs.Places.{run_of}
use Rattle.reduction.specs.Reducing.{chosen_in}
use Rattle.findings.specs.Listing.{part_of, beside_of, broken_at, findings_for, lines_for, Breaks}
use Rattle.findings.proofs.Members.{listed_exactly}
use Rattle.findings.specs.Seeking.{index_of, ground_at}
use Rattle.explaining.specs.Explaining.{ground_for}
use Rattle.findings.proofs.Speaking.{index_of_place, silent_stands, spoken, spoken_inside, spoken_there, spoken_broken}
use Rattle.explaining.proofs.Because.{no_rule_zero, beyond_table}
use Rattle.reviewing.specs.Shown.{ground_of_run, FromOneTable}
use Rattle.reviewing.proofs.Conditions.{shown_exactly}

module _ (fig : Figure) (r : Run) (ch : Chosen) (l : Lines) (rule place : ℕ) where
  -- a rule that is broken at a place is broken there by what it goes by
  by_ground : Breaks fig r ch l rule place → broken (ground_at fig r ch l rule place) ≡ true
  unfolding broken_at
  by_ground b =
      let at : index_of place ≡ b.index = ap index_of b.there ∙ index_of_place r.header.counts rule b.index b.inside in
      let inside : index_of place < places_of r.header.counts rule = rw at b.inside in
      let there : place ≡ place_at rule (index_of place) = rw at b.there in
      rw (← spoken fig r ch l rule place inside there, at) b.broken

  module _ (is : broken (ground_at fig r ch l rule place) ≡ true) where
    -- the rule speaks of the place
    at_index : broken (ground_of (part_of r rule (index_of place)) (beside_of fig r ch l) rule) ≡ true
    unfolding broken_at
    at_index = spoken_broken fig r ch l rule place is

    -- and is one of the table
    first : Dec (1 ≤ rule) → 1 ≤ rule
    first (yes h) = h
    first (no h) =
        let none : rule ≡ 0 = omega (arith, h) in
        absurd (silent_stands (sym (no_rule_zero _ _)) (rw none at at_index))

    last : Dec (last_rule < rule) → rule ≤ last_rule
    last (yes h) = absurd (silent_stands (sym (beyond_table _ _ rule h)) at_index)
    last (no h) = omega (arith, h)

    breaks_there : Breaks fig r ch l rule place
    unfolding broken_at
    breaks_there =
        record { first = first (dec_lt 0 rule); last = last (dec_lt last_rule rule); index = index_of place; inside = spoken_inside fig r ch l rule place is; there = spoken_there fig r ch l rule place is; broken = at_index }

-- Over every run, rule and place
pub from_one_table : (fig : Figure) (s : List ℕ) (k rule place : ℕ) → FromOneTable fig s k rule place
unfolding findings_for ground_for
from_one_table fig s k rule place =
    let v = version_of s in
    let r = run_of s k in
    let ch = chosen_in s k in
    let l = lines_for v r ch in
    let listed = listed_exactly v fig r ch l rule place in
    record {
      finding = (λ h. by_ground fig r ch l rule place (listed.0 h), λ e. listed.1 (breaks_there fig r ch l rule place e));
      exactly = shown_exactly (ground_of_run fig s k rule place);
    }
