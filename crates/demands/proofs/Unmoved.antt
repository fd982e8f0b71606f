-- Where a run does not break rule 5, the version of its job changes neither its lines nor its findings.
use Rattle.std.specs.Prelude.{Option, Some, None}
use Rattle.records.specs.declared.Certificate.{Certificate}
use Prim.Native.Nat.{ℕ, zero, suc, ◌+◌}
use mathlib.Core.Path.{◌≡◌, refl, sym, ◌∙◌, ap, ap₂}
use mathlib.Core.Bool.{Bool, true, false, cond, true≢false}
use mathlib.Core.List.{[], ◌∷◌, ◌++◌}
use native.Mathlib.Omega.{arith}
use borrow.Author.Tests.{ne_eqb}
use Rattle.readings.specs.declared.headers.Version.{Version}
use Rattle.readings.specs.declared.headers.Version.TheVariants.{One, Two}
use Rattle.records.specs.declared.Run.{Run}
use Rattle.lines.specs.declared.Lines.{Lines}
use Rattle.choosing.specs.declared.Chosen.{Chosen}
use Rattle.grounds.specs.Comparing.{holds}
use Rattle.grounds.specs.Grounds.{broken}
use Rattle.factors.specs.Factor.{factor_moved, lower_if_moved, factor, factor_from, factor_of}
use Rattle.conditions.specs.Conditions.{moved}
use Rattle.classes.specs.Classes.{places_of, place_at, class_of}
use Rattle.rules.specs.Rules.{last_rule, table, ground_of}
use Rattle.steps.specs.declared.Figure.{Figure}
use Rattle.findings.specs.Listing.{beside_of, broken_at, finding_at, rule_findings, findings_to, findings, lines_for, findings_for, Breaks}
use Rattle.reduction.specs.Reducing.{worked}

-- The factor

-- it did not move
abbrev Unmoved : Chosen → Type 0
Unmoved ch = broken (moved ch.before ch.after) ≡ false

unmoved_lower : (before after : ℕ) → holds (factor_moved before after) ≡ false → lower_if_moved before after ≡ before
unfolding lower_if_moved
unmoved_lower before after e = rw e

from_same : (v : Version) (b a : Option Certificate) → broken (moved b a) ≡ false → factor_from v b a ≡ factor_from Two b a
unfolding broken moved factor
from_same v None a e = refl
from_same v (Some b) None e = refl
from_same Two (Some b) (Some a) e = refl
from_same One (Some b) (Some a) e = ap Some (unmoved_lower b.first a.first e)

factor_same : (v : Version) (ch : Chosen) → Unmoved ch → factor_of v ch ≡ factor_of Two ch
unfolding factor_of
factor_same v ch e = from_same v ch.before ch.after e

-- The classes

class_same : (v : Version) (rule : ℕ) → (rule ≡ 5 → ⊥) → class_of v rule ≡ class_of Two rule
unfolding class_of
class_same One rule other = rw (ne_eqb rule 5 other)
class_same Two rule other = refl

-- The list: the same where every broken rule has the same class

module _ (v : Version) where
  one_same : (rule i : ℕ) (t : Bool) → (t ≡ true → class_of v rule ≡ class_of Two rule) → cond t (finding_at v rule i ∷ []) [] ≡ cond t (finding_at Two rule i ∷ []) []
  unfolding finding_at
  one_same rule i true same = rw (same refl)
  one_same rule i false same = refl

  rule_same : (is_broken : ℕ → Bool) (rule n : ℕ) → ((i : ℕ) → is_broken i ≡ true → class_of v rule ≡ class_of Two rule) → rule_findings v is_broken rule n ≡ rule_findings Two is_broken rule n
  unfolding rule_findings
  rule_same is_broken rule zero same = refl
  rule_same is_broken rule (suc n) same = ap₂ (λ fs gs. fs ++ gs) (rule_same is_broken rule n same) (one_same rule n (is_broken n) (same n))

  all_same : (is_broken : ℕ → ℕ → Bool) (places : ℕ → ℕ) (k : ℕ) → ((rule i : ℕ) → is_broken rule i ≡ true → class_of v rule ≡ class_of Two rule) → findings_to v is_broken places k ≡ findings_to Two is_broken places k
  unfolding findings_to
  all_same is_broken places zero same = refl
  all_same is_broken places (suc k) same =
      ap₂ (λ fs gs. fs ++ gs) (all_same is_broken places k same) (rule_same (is_broken (k + 1)) (k + 1) (places (k + 1)) (same (k + 1)))

module _ (v : Version) (fig : Figure) (r : Run) (ch : Chosen) (e : Unmoved ch) where
  not_five : (l : Lines) (rule i : ℕ) → broken_at fig r ch l rule i ≡ true → rule ≡ 5 → ⊥
  unfolding beside_of broken_at table ground_of
  not_five l rule i is five = true≢false (sym (rw five at is) ∙ e)

  findings_same : (l : Lines) → findings v fig r ch l ≡ findings Two fig r ch l
  unfolding findings
  findings_same l =
      all_same v (broken_at fig r ch l) (places_of r.header.counts) last_rule (λ rule i is. class_same v rule (not_five l rule i is))

  lines_same : lines_for v r ch ≡ lines_for Two r ch
  unfolding lines_for
  lines_same = rw (factor_same v ch e)

  pub worked_same : worked v fig r ch ≡ worked Two fig r ch
  unfolding worked findings_for
  worked_same = rw (findings_same, lines_same)

-- a run that does not break rule 5 has such a factor
pub not_moved : (fig : Figure) (r : Run) (ch : Chosen) (l : Lines) → (Breaks fig r ch l 5 0 → ⊥) → Unmoved ch
unfolding places_of place_at beside_of broken_at table ground_of
not_moved fig r ch l kept = go (broken (moved ch.before ch.after)) refl
  where
    go : (t : Bool) → broken (moved ch.before ch.after) ≡ t → broken (moved ch.before ch.after) ≡ false
    go false e = e
    go true e =
        absurd (kept (record { first = omega arith; last = omega arith; index = 0; inside = omega arith; there = refl; broken = e }))
