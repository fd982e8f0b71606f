-- What holds of each row of the table of the rules holds of what any rule goes by.
use Prim.Native.Nat.{ℕ}
use mathlib.Core.Path.{◌≡◌, refl}
use mathlib.Core.Bool.{Bool, true, false, cond}
use mathlib.Core.List.{List, [], ◌∷◌}
use lib.Dec.{eqb}
use Rattle.numbered.specs.Numbered.{Numbered, row_of}
use Rattle.grounds.specs.declared.Ground.{Ground}
use Rattle.grounds.specs.declared.Ground.TheVariants.{Silent}

-- P holds of the ground of each row whose number is n
infixr 50 ◌then◌
pub data EachRow (P : Ground → Type 0) (n : ℕ) : List (Numbered Ground) → Type 0 where
  end : EachRow P n []
  ◌then◌ : {row : Numbered Ground} {rows : List (Numbered Ground)} → (eqb n row.number ≡ true → P row.row) → EachRow P n rows → EachRow P n (row ∷ rows)

-- So it holds of what the rule of that number goes by, and of nothing where no rule has it
pub any_rule : (P : Ground → Type 0) → P Silent → (n : ℕ) {rows : List (Numbered Ground)} → EachRow P n rows → P (row_of Silent rows n)
any_rule P silent n end = silent
any_rule P silent n (◌then◌ {row} {rows} own rest) = go (eqb n row.number) refl (any_rule P silent n rest)
  where
    go : (t : Bool) → eqb n row.number ≡ t → P (row_of Silent rows n) → P (cond t row.row (row_of Silent rows n))
    go true e later = own e
    go false e later = later
