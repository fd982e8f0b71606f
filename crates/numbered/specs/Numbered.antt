-- Lists of numbers, and tables with numbered rows.
use Rattle.std.specs.Prelude.{ℕ, Bool, false, cond, ◌||◌, List, [], ◌∷◌, eqb}

-- one of the numbers listed
abbrev pub one_of : List ℕ → ℕ → Bool
one_of [] v = false
one_of (n ∷ ns) v = eqb v n || one_of ns v

-- a row of a table, and its number
pub record Numbered (A : Type 0) : Type 0 where
  pub number : ℕ
  pub row : A

-- of a table, the row of a number; `none` where no row has it
abbrev pub row_of : {A : Type 0} → A → List (Numbered A) → ℕ → A
row_of none [] n = none
row_of none (r ∷ rs) n = cond (eqb n r.number) r.row (row_of none rs n)
