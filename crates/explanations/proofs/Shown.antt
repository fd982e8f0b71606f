-- Conditions written: none, one, and one after another.
use Prim.Native.Nat.{ℕ}
use mathlib.Core.Path.{◌≡◌, refl}
use mathlib.Core.Bool.{Bool, true, false}
use mathlib.Core.List.{List, [], ◌∷◌, ◌++◌, append-nil}
use mathlib.Core.Logic.{◌⊎◌, inl, inr}
use lib.IntN.{ℤ}
use lib.Signed.{lt_z}
use Rattle.grounds.specs.declared.comparison.Comparison.{Comparison}
use Rattle.grounds.specs.declared.comparison.ExactComparison.{ExactComparison}
use Rattle.grounds.specs.declared.Ground.{Ground}
use Rattle.grounds.specs.declared.Ground.TheVariants.{Silent, NoCertificate, Compared, Either, Exactly, SignedBelow}
use Rattle.grounds.specs.Comparing.{holds, deciding}
use Rattle.grounds.specs.Showing.{Condition, Judged, two_numbers, a_quotient, two_signed, ◌broken_if◌, conditions, broken_of, shown}
use Rattle.forms.specs.Forms.{Form, condition_in}
use Rattle.explanations.specs.Written.{conditions_in}

module _ (form : Form) (rule : ℕ) (round : Bool) where
  -- one that is not broken is not written
  pub kept_back : (x : Condition) → conditions_in form rule round (broken_of ((x broken_if false) ∷ [])) ≡ []
  unfolding conditions_in broken_of
  kept_back x = refl

  -- one that is broken is
  pub one_shown : (x : Condition) → conditions_in form rule round (broken_of ((x broken_if true) ∷ [])) ≡ condition_in form rule round x
  unfolding conditions_in broken_of
  one_shown x = append-nil (condition_in form rule round x)

  -- and what is broken of others stands behind it
  pub then_others : (x : Condition) (broken : Bool) (js : List Judged) → conditions_in form rule round (broken_of ((x broken_if broken) ∷ js)) ≡ conditions_in form rule round (broken_of ((x broken_if broken) ∷ [])) ++ conditions_in form rule round (broken_of js)
  unfolding conditions_in broken_of
  then_others x true js = rw (append-nil (condition_in form rule round x))
  then_others x false js = refl

  -- by the ground: nothing
  pub nothing_text : {g : Ground} → (g ≡ Silent) ⊎ (g ≡ NoCertificate) → conditions_in form rule round (shown g) ≡ []
  unfolding conditions_in shown conditions broken_of
  nothing_text (inl e) = rw e
  nothing_text (inr e) = rw e

  -- two numbers, once or twice
  pub compared_text : {g : Ground} {c : Comparison} → g ≡ Compared c → conditions_in form rule round (shown g) ≡ conditions_in form rule round (broken_of ((two_numbers 1 c broken_if holds c) ∷ []))
  unfolding shown conditions
  compared_text e = rw e

  pub either_text : {g : Ground} {a b : Comparison} → g ≡ Either a b → conditions_in form rule round (shown g) ≡ conditions_in form rule round (broken_of ((two_numbers 1 a broken_if holds a) ∷ [])) ++ conditions_in form rule round (broken_of ((two_numbers 2 b broken_if holds b) ∷ []))
  unfolding shown conditions
  either_text {a = a} {b} e = rw e (then_others (two_numbers 1 a) (holds a) ((two_numbers 2 b broken_if holds b) ∷ []))

  -- a quotient
  pub exact_text : {g : Ground} {c : ExactComparison} → g ≡ Exactly c → holds (deciding c) ≡ true → conditions_in form rule round (shown g) ≡ condition_in form rule round (a_quotient c)
  unfolding shown conditions
  exact_text {c = c} e h = rw (e, h) (one_shown (a_quotient c))

  pub exact_kept : {g : Ground} {c : ExactComparison} → g ≡ Exactly c → holds (deciding c) ≡ false → conditions_in form rule round (shown g) ≡ []
  unfolding shown conditions
  exact_kept {c = c} e h = rw (e, h) (kept_back (a_quotient c))

  -- two signed numbers
  pub signed_text : {g : Ground} {left right : ℤ} → g ≡ SignedBelow left right → lt_z left right ≡ true → conditions_in form rule round (shown g) ≡ condition_in form rule round (two_signed left right)
  unfolding shown conditions
  signed_text {left = left} {right} e h = rw (e, h) (one_shown (two_signed left right))

  pub signed_kept : {g : Ground} {left right : ℤ} → g ≡ SignedBelow left right → lt_z left right ≡ false → conditions_in form rule round (shown g) ≡ []
  unfolding shown conditions
  signed_kept {left = left} {right} e h = rw (e, h) (kept_back (two_signed left right))

-- the text of a ground, by its shape
pub ruleset by_ground = (nothing_text, compared_text, exact_text, exact_kept, signed_text, signed_kept)

-- the text of a condition, by whether it is broken
pub ruleset by_breach = (kept_back, one_shown)
