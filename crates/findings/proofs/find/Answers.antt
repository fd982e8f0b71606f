-- `find` is `walked`: at each place of each rule that is looked at, what its rule goes by there decides, and a broken rule is entered or sought.
use Prim.Native.Nat.{ℕ, ◌+◌, ◌≤◌, ◌<◌}
use mathlib.Core.Path.{◌≡◌, refl, ◌∙◌, sym, ap}
use mathlib.Core.Bool.{Bool, true, true≢false}
use mathlib.Core.List.{◌++◌}
use native.Mathlib.Nat.{le_refl, le_trans}
use native.Mathlib.Omega.{arith}
use lib.ListN.{length}
use Rattle.records.specs.declared.Run.{Run}
use Rattle.rules.specs.declared.Beside.{Beside}
use Rattle.grounds.specs.Grounds.{broken}
use Rattle.classes.specs.Classes.{places_of}
use Rattle.rules.specs.Rules.{last_rule, ground_of}
use Rattle.findings.specs.declared.Finding.{Finding}
use Rattle.findings.specs.Listing.{part_of, finding_at, findings_to, rule_findings, most_findings}
use Rattle.arrays.proofs.Filled.{filled_none}
use Rattle.findings.proofs.Filling.{Entered, entered_first, entered_room, entered_found, entered_passed, entered_rule, fewer}
use Rattle.findings.proofs.Places.{part_point, part_segment, part_weighing, part_whole}
use Rattle.findings.proofs.InRange.{point_in, segment_in, weighing_in, weighings_in, judgeable}
use Rattle.findings.proofs.Most.{all_fit_beside}
use Rattle.findings.proofs.Seeking.{places_from, places_above, places_fewer, passed_more, passed_rule, nothing_before, met, not_met}
use Rattle.findings.proofs.find.Goals as goal
use Rattle.findings.proofs.find.Goals.{After-broken, in-10, in-11, in-17, in_default, then-broken+else-finding-place, else-broken}

-- whether a rule of a run is broken at its place i
abbrev broken_of : Run → Beside → ℕ → ℕ → Bool
broken_of run beside rule i = broken (ground_of (part_of run rule i) beside rule)

-- A turn of the inner loop, once the rule is judged

-- the part that the rule looks at
part_is : (c : After-broken) → c.match-rule.part ≡ part_of c.args.run.now (c.loop-done.done + 1) c.loop-i.i
part_is c =
    elim c.match-rule.branch [
      | in-10 w ↦ w.part-is ∙ part_point _ _ w.in-10.is
      | in-11 w ↦ w.part-is ∙ part_segment _ _ w.in-11.is
      | in-17 w ↦ w.part-is ∙ part_weighing _ _ w.in-17.is
      | in_default w ↦ w.part-is ∙ part_whole _ _ (omega arith) (omega arith) (omega arith)
    ]

-- what its rule goes by there is the ground of the run
ground_is : (c : After-broken) → c.ground_of-ground.result ≡ ground_of (part_of c.args.run.now (c.loop-done.done + 1) c.loop-i.i) c.beside_of-beside.result (c.loop-done.done + 1)
ground_is c = rw (part_is c) at c.ground_of-ground.ensures

-- the test is whether the rule is broken there
test_is : (c : After-broken) → c.broken.result ≡ broken_of c.args.run.now c.beside_of-beside.result (c.loop-done.done + 1) c.loop-i.i
test_is c = c.broken.ensures ∙ ap broken (ground_is c)

-- the rule is one of those that are looked at, and so is the place
rule_in : (c : After-broken) → c.loop-done.done < last_rule
rule_in c = omega (arith, c.loop-done-test.true, c.last-last.ensures, c.requires.seekable.last)

place_in : (c : After-broken) → c.loop-i.i < places_of c.args.run.now.header.counts (c.loop-done.done + 1)
place_in c = rw c.places-i-end.ensures at c.loop-i-test.true

place_above : (c : After-broken) → c.loop-i.i < places_from c.before-before.result c.args.run.now.header.counts (c.loop-done.done + 1)
place_above c = rw (places_above c.before-before.result _ _ c.loop-done.auto.done) (place_in c)

-- what is entered when a turn begins
entered :
    (c : After-broken)
    → Entered (findings_to c.args.v (broken_of c.args.run.now c.beside_of-beside.result) (places_from c.before-before.result c.args.run.now.header.counts) c.loop-done.done ++ rule_findings c.args.v (broken_of c.args.run.now c.beside_of-beside.result (c.loop-done.done + 1)) (c.loop-done.done + 1) c.loop-i.i) c.loop-i.count c.loop-i.walked.findings.list
entered c = c.loop-i.invariant.1 _ c.loop-done.invariant.1

-- all of a run's findings fit
fits :
    (c : After-broken)
    → length (findings_to c.args.v (broken_of c.args.run.now c.beside_of-beside.result) (places_from c.before-before.result c.args.run.now.header.counts) last_rule) ≤ most_findings
fits c = le_trans (fewer _ _ _ _ (places_fewer _ _) _) (all_fit_beside _ _ _ _ _ c.requires.worked c.beside_of-beside.ensures)

-- a broken rule finds room
has_room : (c : After-broken) → c.broken.result ≡ true → c.loop-i.count < most_findings
has_room c broke = entered_room _ _ _ _ _ (fits c) (rule_in c) (place_above c) (test_is c) broke (entered c)

pub beside_of-beside-requires : goal.beside_of-beside-requires
beside_of-beside-requires c = weighings_in _ _ c.requires.worked

pub loop-done-init : goal.loop-done-init
loop-done-init c = (
  (λ rule above below. absurd (omega (arith, above, below))),
  rw (nothing_before _ _ _ _ _ (le_refl _)) (filled_none _ _),
  refl,
)

pub loop-i-init : goal.loop-i-init
loop-i-init c = (
  (λ i h. absurd (omega (arith, h))),
  (λ fs s. entered_first _ (broken_of c.args.run.now c.beside_of-beside.result) fs (c.loop-done.done + 1) s),
  c.loop-done.invariant.2,
)

pub bounds-run-i : goal.bounds-run-i
bounds-run-i c = point_in _ _ c.requires.worked c.in-10.is (rw c.places-i-end.ensures at c.loop-i-test.true)

pub bounds-run-i-in-11 : goal.bounds-run-i-in-11
bounds-run-i-in-11 c = segment_in _ _ c.requires.worked c.in-11.is (rw c.places-i-end.ensures at c.loop-i-test.true)

pub bounds-run-i-in-17 : goal.bounds-run-i-in-17
bounds-run-i-in-17 c = weighing_in _ _ c.requires.worked c.in-17.is (rw c.places-i-end.ensures at c.loop-i-test.true)

pub ground_of-ground-requires : goal.ground_of-ground-requires
ground_of-ground-requires c = judgeable _ _ c.requires.worked _ _ c.beside_of-beside.ensures

pub returns-then-finding-place : goal.returns-then-finding-place
unfolding finding_at
returns-then-finding-place c =
    let judged = (goal.at.returns-then-finding-place c).After-broken in
    met _ _ _ _ _ c.args.sought c.before-before.result _ _ c.beside_of-beside.ensures c.before-before.ensures c.place-place.ensures c.loop-done.auto.done
    (omega (arith, c.loop-done-test.true, c.last-last.ensures))
    (place_in judged)
    (omega (arith, c.loop-i-test.true))
    (sym (ap (λ (f : Finding). f.place) c.finding_at-finding.ensures) ∙ c.if-finding-place.true)
    (ground_is judged)
    (sym c.broken.ensures ∙ c.if-broken.true)
    (entered judged)

pub offset_bounds-walked-count : goal.offset_bounds-walked-count
offset_bounds-walked-count c = omega (arith, has_room (goal.at.offset_bounds-walked-count c).After-broken c.if-broken.true)

pub bounds-walked-count : goal.bounds-walked-count
bounds-walked-count c = has_room (goal.at.bounds-walked-count c).After-broken c.if-broken.true

pub overflow_add-count : goal.overflow_add-count
overflow_add-count c = omega (arith, has_room (goal.at.overflow_add-count c).After-broken c.if-broken.true)

pub loop-i-preserved : goal.loop-i-preserved
unfolding finding_at
loop-i-preserved c =
    let judged = (goal.at.loop-i-preserved c).After-broken in
    let inv = c.loop-i.invariant in
    let test = test_is judged in
    let is_broken = broken_of c.args.run.now c.beside_of-beside.result in
    elim c.if-broken.branch [
      | then-broken+else-finding-place w ↦ (
        passed_more is_broken _ _ _ (λ broke at. w.if-finding-place.false (ap (λ (f : Finding). f.place) w.finding_at-finding.ensures ∙ at)) inv.0,
        (λ fs s. rw (w.walked-is, w.count-is) (entered_found _ is_broken fs _ _ (has_room judged w.if-broken.true) test w.if-broken.true w.finding_at-finding.ensures (inv.1 fs s))),
        rw w.walked-is inv.2,
      )
      | else-broken w ↦ (
        passed_more is_broken _ _ _ (λ broke at. true≢false (sym broke ∙ sym test ∙ w.if-broken.false)) inv.0,
        (λ fs s. rw (w.walked-is, w.count-is) (entered_passed _ is_broken fs _ _ test w.if-broken.false (inv.1 fs s))),
        rw w.walked-is inv.2,
      )
    ]

pub loop-done-preserved : goal.loop-done-preserved
loop-done-preserved c =
    let all : c.loop-i.i ≡ c.places-i-end.result = omega arith in
    let last_place = all ∙ c.places-i-end.ensures in
    let outer = c.loop-done.invariant in (
      passed_rule _ _ _ _ _ (rw last_place at c.loop-i.invariant.0) outer.0,
      entered_rule _ _ _ _ _ (last_place ∙ sym (places_above _ _ _ c.loop-done.auto.done)) (c.loop-i.invariant.1 _ outer.1),
      c.loop-i.invariant.2,
    )

pub returns : goal.returns
returns c =
    let end : c.loop-done.done ≡ c.last-last.result = omega (arith, c.requires.seekable.some, c.before-before.ensures, c.last-last.ensures) in
    let last_is = end ∙ c.last-last.ensures in
    rw c.loop-done.invariant.2
    (not_met _ _ _ _ _ c.args.sought c.before-before.result c.beside_of-beside.ensures c.before-before.ensures c.place-place.ensures c.requires.seekable.some
    (rw last_is at c.loop-done.invariant.0)
    (rw last_is at c.loop-done.invariant.1))
