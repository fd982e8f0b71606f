-- The starred values of docs/RULES.md that are about rules, as lists of what is given and what is expected.
use Rattle.std.specs.Prelude.{ℕ, ◌≡◌, Bool, true, false, cond, List, [], ◌∷◌, ℤ, pos, neg_ℤ, Some}
use Rattle.arith.specs.declared.Division.{Division}
use Rattle.readings.specs.declared.headers.Version.{Version}
use Rattle.readings.specs.declared.headers.Version.TheVariants.{One, Two}
use Rattle.records.specs.declared.Certificate.{Certificate}
use Rattle.records.specs.declared.Weighing.{Weighing}
use Rattle.factors.specs.Factor.{factor_of}
use Rattle.conditions.specs.declared.Part.{Part}
use Rattle.conditions.specs.declared.Part.TheVariants.{OneWeighing}
use Rattle.conditions.specs.Conditions.{difference, net}
use Rattle.classes.specs.declared.Class.{Class}
use Rattle.classes.specs.declared.Class.TheVariants.{Fault, Note}
use Rattle.classes.specs.Classes.{class_of}
use Rattle.rules.specs.declared.Beside.{Beside}
use Rattle.grounds.specs.Grounds.{broken}
use Rattle.rules.specs.Rules.{ground_of}

-- what holds of each in a list
abbrev pub Each : {A : Type 0} → (A → Type 0) → List A → Type 0
Each P [] = Unit {0}
Each P (x ∷ xs) = P x × Each P xs

-- a job's version, a before and an after factor; the class of the finding of rule 5, where there is one, and Y
pub record StarredFactor : Type 0 where
  pub version : Version
  pub before : ℕ
  pub after : ℕ
  pub five : List Class
  pub y : ℕ

-- the starred factors
unfoldable pub starred_factors : List StarredFactor
starred_factors =
    record { version = One; before = 10000; after = 10500; five = []; y = 10000 }
    ∷ record { version = One; before = 10000; after = 10501; five = Note ∷ []; y = 10000 }
    ∷ record { version = One; before = 10000; after = 9499; five = Note ∷ []; y = 9499 }
    ∷ record { version = Two; before = 10000; after = 10500; five = []; y = 10000 }
    ∷ record { version = Two; before = 10000; after = 10501; five = Fault ∷ []; y = 10000 }
    ∷ record { version = Two; before = 10000; after = 9499; five = Fault ∷ []; y = 10000 }
    ∷ []

-- the class of a finding of rule 5 in a job of that version, if the rule is broken
abbrev pub five_in : Version → Part → Beside → List Class
five_in v part b = cond (broken (ground_of part b 5)) (class_of v 5 ∷ []) []

-- whatever a rule looks at, before and after certificates of those factors give that finding, or none, and that Y
abbrev pub FactorStands : StarredFactor → Type 0
FactorStands s =
    (part : Part) (b : Beside) (before after : Certificate)
    → b.chosen.before ≡ Some before
    → b.chosen.after ≡ Some after
    → before.first ≡ s.before
    → after.first ≡ s.after
    → (five_in s.version part b ≡ s.five) × (factor_of s.version b.chosen ≡ Some s.y)

-- a remainder: that one, or any
pub data Remainder : Type 0 where
  only : ℕ → Remainder
  any : Remainder

-- r is such a remainder
abbrev pub Such : Remainder → ℕ → Type 0
Such (only n) r = r ≡ n
Such any r = Unit {0}

-- the quotient of line 18 before it is rounded, and its remainder; whether there is a fault 15, and a fault 16
pub record StarredIsokinetic : Type 0 where
  pub quotient : ℕ
  pub remainder : Remainder
  pub fifteen : Bool
  pub sixteen : Bool

-- the starred percents isokinetic
unfoldable pub starred_isokinetic : List StarredIsokinetic
starred_isokinetic =
    record { quotient = 8999; remainder = only 0; fifteen = true; sixteen = false }
    ∷ record { quotient = 8999; remainder = any; fifteen = true; sixteen = false }
    ∷ record { quotient = 9000; remainder = only 0; fifteen = false; sixteen = false }
    ∷ record { quotient = 9000; remainder = any; fifteen = false; sixteen = false }
    ∷ record { quotient = 11000; remainder = only 0; fifteen = false; sixteen = false }
    ∷ record { quotient = 11000; remainder = only 1; fifteen = false; sixteen = true }
    ∷ record { quotient = 11001; remainder = only 0; fifteen = false; sixteen = true }
    ∷ []

-- whatever a rule looks at, and whatever line 18 is rounded to, that quotient and remainder give those faults
abbrev pub IsokineticStands : StarredIsokinetic → Type 0
IsokineticStands s =
    (part : Part) (b : Beside) (n : Division)
    → b.lines.sampling.isokinetic ≡ Some n
    → n.quotient ≡ s.quotient
    → Such s.remainder n.remainder
    → (broken (ground_of part b 15) ≡ s.fifteen) × (broken (ground_of part b 16) ≡ s.sixteen)

-- a weighing's difference and net; whether there is a fault 17
pub record StarredWeighing : Type 0 where
  pub difference : ℕ
  pub net : ℤ
  pub seventeen : Bool

-- the starred weighings
unfoldable pub starred_weighings : List StarredWeighing
starred_weighings =
    record { difference = 5; net = neg_ℤ (pos 600); seventeen = false }
    ∷ record { difference = 5; net = neg_ℤ (pos 1); seventeen = false }
    ∷ record { difference = 5; net = pos 0; seventeen = false }
    ∷ record { difference = 5; net = pos 500; seventeen = false }
    ∷ record { difference = 5; net = pos 599; seventeen = false }
    ∷ record { difference = 5; net = pos 600; seventeen = false }
    ∷ record { difference = 5; net = pos 601; seventeen = false }
    ∷ record { difference = 6; net = neg_ℤ (pos 600); seventeen = true }
    ∷ record { difference = 6; net = neg_ℤ (pos 1); seventeen = true }
    ∷ record { difference = 6; net = pos 0; seventeen = true }
    ∷ record { difference = 6; net = pos 500; seventeen = true }
    ∷ record { difference = 6; net = pos 599; seventeen = true }
    ∷ record { difference = 6; net = pos 600; seventeen = false }
    ∷ record { difference = 6; net = pos 601; seventeen = false }
    ∷ record { difference = 900; net = pos 90000; seventeen = false }
    ∷ record { difference = 901; net = pos 90000; seventeen = true }
    ∷ []

-- whatever stands beside it, a weighing of that difference and net gives the fault, or none
abbrev pub WeighingStands : StarredWeighing → Type 0
WeighingStands s =
    (b : Beside) (w : Weighing)
    → difference w ≡ s.difference
    → net w ≡ s.net
    → broken (ground_of (OneWeighing w) b 17) ≡ s.seventeen
