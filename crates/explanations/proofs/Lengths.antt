-- How long an explanation can be: two conditions and six certificate days.
use Prim.Native.Nat.{ℕ, ◌*◌, ◌≤◌}
use mathlib.Core.Path.{◌≡◌, refl}
use mathlib.Core.Bool.{Bool, true, false}
use mathlib.Core.List.{List, [], ◌∷◌}
use native.Mathlib.Omega.{arith}
use lib.ListN.{length, length-append}
use Rattle.readings.specs.Ranges.{meter, pitot, nozzle}
use Rattle.grounds.specs.declared.Ground.{Ground}
use Rattle.grounds.specs.declared.Ground.TheVariants.{Silent, NoCertificate, Compared, Either, Exactly, SignedBelow}
use Rattle.grounds.specs.Showing.{Condition, Judged, conditions, broken_of, shown}
use Rattle.dates.specs.declared.Sides.{Sides}
use Rattle.dates.specs.declared.Days.{Days}
use Rattle.dates.specs.Side.{before, after}
use Rattle.explaining.specs.declared.Explanation.{Explanation}
use Rattle.forms.specs.Forms.{Form}
use Rattle.forms.proofs.Lengths.{head_short, condition_short, day_short}
use Rattle.explanations.specs.Written.{conditions_in, sides_in, days_in, written}

-- no more conditions are shown than there are
pub shown_few : (js : List Judged) → length (broken_of js) ≤ length js
unfolding broken_of
shown_few [] = omega arith
shown_few (j ∷ js) = go j (shown_few js) j.broken refl
  where
    go : (j : Judged) → length (broken_of js) ≤ length js → (b : Bool) → j.broken ≡ b → length (broken_of (j ∷ js)) ≤ length (j ∷ js)
    go j h true e = rw e (omega (arith, h))
    go j h false e = rw e (omega (arith, h))

pub at_most_two : (g : Ground) → length (conditions g) ≤ 2
unfolding conditions
at_most_two Silent = omega arith
at_most_two NoCertificate = omega arith
at_most_two (Compared c) = omega arith
at_most_two (Either a b) = omega arith
at_most_two (Exactly c) = omega arith
at_most_two (SignedBelow left right) = omega arith

-- conditions are at most so long
conditions_short : (form : Form) (rule : ℕ) (round : Bool) (cs : List Condition) → length (conditions_in form rule round cs) ≤ length cs * 257
unfolding conditions_in
conditions_short form rule round [] = omega arith
conditions_short form rule round (c ∷ cs) =
    simp length-append (omega (arith, condition_short form rule round c, conditions_short form rule round cs))

-- and so are the certificate days
sides_short : (form : Form) (kind : ℕ) (s : Sides) → length (sides_in form kind s) ≤ 98
unfolding sides_in
sides_short form kind s =
    simp length-append (omega (arith, day_short form kind before s.before, day_short form kind after s.after))

days_short : (form : Form) (d : Days) → length (days_in form d) ≤ 294
unfolding days_in
days_short form d =
    simp length-append (omega (arith, sides_short form meter d.meter, sides_short form pitot d.pitot, sides_short form nozzle d.nozzle))

-- An explanation
pub written_short : (form : Form) (e : Explanation) → length (written form e) ≤ 1024
unfolding written shown
written_short form e =
    let few : length (shown e.basis) ≤ 2 = omega (arith, shown_few (conditions e.basis), at_most_two e.basis) in
    simp length-append (omega (arith, head_short form e, few, conditions_short form e.finding.rule e.round (shown e.basis), days_short form e.days))
