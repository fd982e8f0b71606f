-- The promise of docs/RULES.md, A finding explained: what is shown of a finding is what the list of findings is decided by, every condition
-- that is broken and no other, with numbers that can be checked by themselves.
use Rattle.std.specs.Prelude.{ℕ, ◌+◌, ◌*◌, ◌≡◌, Bool, true, false, cond, not, List, [], ◌∷◌, ◌⊎◌, ◌↔◌, eqb, ℤ, pos, negsuc}
use Rattle.std.specs.Int.Signed.{lt_z}
use Rattle.readings.specs.Ranges.{round_shape}
use Rattle.records.specs.declared.Site.{Site}
use Rattle.grounds.specs.declared.comparison.Way.{Way}
use Rattle.grounds.specs.declared.comparison.Way.TheVariants.{Below, Above, Same, Differs}
use Rattle.grounds.specs.declared.Ground.{Ground}
use Rattle.grounds.specs.declared.Ground.TheVariants.{NoCertificate}
use Rattle.grounds.specs.Grounds.{broken}
use Rattle.grounds.specs.Showing.{Condition, Judged, conditions, shown}
use Rattle.site.specs.Site.{narrow, disturbed}
use Rattle.steps.specs.declared.Figure.{Figure}
use Rattle.opening.specs.Opening.{version_of}
use Rattle.job.specs.Places.{run_of}
use Rattle.reduction.specs.Reducing.{chosen_in}
use Rattle.findings.specs.declared.Finding.{Finding}
use Rattle.findings.specs.Listing.{findings_for, HasFinding}
use Rattle.explaining.specs.Explaining.{ground_for}

-- What a reader of two numbers checks

-- two whole numbers are equal
abbrev pub equal_z : ℤ → ℤ → Bool
equal_z (pos a) (pos b) = eqb a b
equal_z (pos a) (negsuc b) = false
equal_z (negsuc a) (pos b) = false
equal_z (negsuc a) (negsuc b) = eqb a b

-- a stands to b this way
abbrev pub stands_to_z : Way → ℤ → ℤ → Bool
stands_to_z Below a b = lt_z a b
stands_to_z Above a b = lt_z b a
stands_to_z Same a b = equal_z a b
stands_to_z Differs a b = not (equal_z a b)

-- the comparison that is shown holds: left and right decide, and where they are equal the remainder and its limit
abbrev pub holds_as_shown : Condition → Bool
holds_as_shown c = cond (equal_z c.left c.right) (stands_to_z c.way c.remainder c.limit) (stands_to_z c.way c.left c.right)

-- a list holds x
abbrev pub Among : {A : Type 0} → A → List A → Type 0
Among x [] = ⊥
Among x (y ∷ ys) = (x ≡ y) ⊎ Among x ys

-- Of every ground
pub record ShownExactly (g : Ground) : Type 0 where
  -- a condition's comparison, as it is shown, holds exactly when the condition is broken
  pub holds : (j : Judged) → Among j (conditions g) → holds_as_shown j.condition ≡ j.broken
  -- what is shown is a condition that is broken
  pub only : (c : Condition) → Among c (shown g) → (j : Judged) × (Among j (conditions g) × ((j.condition ≡ c) × (j.broken ≡ true)))
  -- and every one that is broken is shown
  pub all : (j : Judged) → Among j (conditions g) → j.broken ≡ true → Among j.condition (shown g)
  -- the rule is broken exactly when a certificate is missing or something is shown
  pub decides : (broken g ≡ true) ↔ ((g ≡ NoCertificate) ⊎ ((c : Condition) × Among c (shown g)))

-- the findings of run k of a job, by a figure
abbrev pub findings_in : Figure → List ℕ → ℕ → List Finding
findings_in fig s k = findings_for (version_of s) fig (run_of s k) (chosen_in s k)

-- what its rule goes by at a place
abbrev pub ground_of_run : Figure → List ℕ → ℕ → ℕ → ℕ → Ground
ground_of_run fig s k rule place = ground_for (version_of s) fig (run_of s k) (chosen_in s k) rule place

-- Over every run, rule and place: the run has the finding exactly when what is shown of it is broken, and that is shown exactly
pub record FromOneTable (fig : Figure) (s : List ℕ) (k rule place : ℕ) : Type 0 where
  pub finding : HasFinding (findings_in fig s k) rule place ↔ (broken (ground_of_run fig s k rule place) ≡ true)
  pub exactly : ShownExactly (ground_of_run fig s k rule place)

-- The numbers of rules 7 and 8, where round and rectangular differ

-- of a condition: which, its way, left and right
abbrev pub Numbers : Condition → ℕ → Way → ℕ → ℕ → Type 0
Numbers c which way left right = (c.which ≡ which) × ((c.way ≡ way) × ((c.left ≡ pos left) × (c.right ≡ pos right)))

-- a ground has one condition of these numbers, or two
pub data Compares (g : Ground) (one : Condition → Type 0) : Type 0 where
  once : (j : Judged) → conditions g ≡ j ∷ [] → one j.condition → Compares g one

pub data ComparesTwice (g : Ground) (one two : Condition → Type 0) : Type 0 where
  twice : (j k : Judged) → conditions g ≡ j ∷ k ∷ [] → one j.condition → two k.condition → ComparesTwice g one two

pub record SiteNumbers (s : Site) : Type 0 where
  -- round: the diameter against 120; twice the distance to the next disturbance against it; the distance from the last against twice it
  pub narrow_round : s.shape ≡ round_shape → Compares (narrow s) (λ c. Numbers c 1 Below s.first 120)
  pub disturbed_round :
      s.shape ≡ round_shape
      → ComparesTwice (disturbed s) (λ c. Numbers c 1 Below (2 * s.next) s.first) (λ c. Numbers c 2 Below s.last (2 * s.first))
  -- rectangular: 2LW against 120 (L+W); the distance times (L+W) against LW; the distance times (L+W) against 4LW
  pub narrow_rectangular :
      (s.shape ≡ round_shape → ⊥)
      → Compares (narrow s) (λ c. Numbers c 1 Below (2 * (s.first * s.second)) (120 * (s.first + s.second)))
  pub disturbed_rectangular :
      (s.shape ≡ round_shape → ⊥)
      → ComparesTwice (disturbed s)
      (λ c. Numbers c 1 Below (s.next * (s.first + s.second)) (s.first * s.second))
      (λ c. Numbers c 2 Below (s.last * (s.first + s.second)) (4 * (s.first * s.second)))
