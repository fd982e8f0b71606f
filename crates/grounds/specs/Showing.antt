-- What is shown of a ground: every condition of it that is broken, with the numbers that are compared (docs/RULES.md, A finding explained).
use Rattle.std.specs.Prelude.{ℕ, Bool, true, false, cond, List, [], ◌∷◌, ℤ, pos}
use Rattle.std.specs.Int.Signed.{lt_z}
use Rattle.grounds.specs.declared.comparison.Way.{Way}
use Rattle.grounds.specs.declared.comparison.Way.TheVariants.{Below}
use Rattle.grounds.specs.declared.comparison.Comparison.{Comparison}
use Rattle.grounds.specs.declared.comparison.ExactComparison.{ExactComparison}
use Rattle.grounds.specs.Comparing.{holds, deciding}
use Rattle.grounds.specs.declared.Ground.{Ground}
use Rattle.grounds.specs.declared.Ground.TheVariants.{Silent, NoCertificate, Compared, Either, Exactly, SignedBelow}

-- a condition as it is shown: which of its rule's it is, the way, the two numbers; whether the left one is a quotient, its remainder and
-- the remainder's limit, both 0 where it is none
pub record Condition : Type 0 where
  pub which : ℕ
  pub way : Way
  pub left : ℤ
  pub right : ℤ
  pub quotient : Bool
  pub remainder : ℤ
  pub limit : ℤ

-- two whole numbers
abbrev pub two_numbers : ℕ → Comparison → Condition
two_numbers which c =
    record { which = which; way = c.way; left = pos c.left; right = pos c.right; quotient = false; remainder = pos 0; limit = pos 0 }

-- a quotient and its remainder, against a limit and 0
abbrev pub a_quotient : ExactComparison → Condition
a_quotient c =
    record { which = 1; way = c.way; left = pos c.quotient; right = pos c.limit; quotient = true; remainder = pos c.remainder; limit = pos 0 }

-- two signed numbers
abbrev pub two_signed : ℤ → ℤ → Condition
two_signed left right =
    record { which = 1; way = Below; left = left; right = right; quotient = false; remainder = pos 0; limit = pos 0 }

-- a condition, and whether the rule is broken by it
pub record Judged : Type 0 where
  pub condition : Condition
  pub broken : Bool

infixl 50 ◌broken_if◌
abbrev pub ◌broken_if◌ : Condition → Bool → Judged
condition broken_if broken = record { condition = condition; broken = broken }

-- the conditions of a ground, in order
unfoldable pub conditions : Ground → List Judged
conditions Silent = []
conditions NoCertificate = []
conditions (Compared c) = (two_numbers 1 c broken_if holds c) ∷ []
conditions (Either a b) = (two_numbers 1 a broken_if holds a) ∷ (two_numbers 2 b broken_if holds b) ∷ []
conditions (Exactly c) = (a_quotient c broken_if holds (deciding c)) ∷ []
conditions (SignedBelow left right) = (two_signed left right broken_if lt_z left right) ∷ []

-- those of them that are broken
unfoldable pub broken_of : List Judged → List Condition
broken_of [] = []
broken_of (j ∷ js) = cond j.broken (j.condition ∷ broken_of js) (broken_of js)

-- What is shown of a ground
unfoldable pub shown : Ground → List Condition
shown g = broken_of (conditions g)
