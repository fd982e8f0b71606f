-- How long the words of a condition can be.
use Prim.Native.Nat.{ℕ, ◌≤◌}
use mathlib.Core.Bool.{Bool}
use mathlib.Core.List.{List, [], ◌∷◌}
use native.Mathlib.Omega.{arith}
use lib.Dec.{eqb}
use lib.ListN.{length}
use Rattle.numbered.specs.Numbered.{Numbered, row_of}
use Rattle.characters.specs.Words.{spelled}
use Rattle.characters.proofs.Texts.{either_short}
use Rattle.wording.specs.Wording.{sayings, words_of}

-- every row of a table has at most 128 characters
abbrev AllShort : List (Numbered (List ℕ)) → Type 0
AllShort [] = Unit {0}
AllShort (said ∷ more) = (length said.row ≤ 128) × AllShort more

short_in : (rows : List (Numbered (List ℕ))) → AllShort rows → (rule : ℕ) → length (row_of [] rows rule) ≤ 128
short_in [] all rule = omega arith
short_in (said ∷ more) (short, all) rule = either_short (eqb rule said.number) _ _ 128 short (short_in more all rule)

all_short : (which : ℕ) (round : Bool) → AllShort (sayings which round)
unfolding sayings spelled
all_short which round = (omega arith, (omega arith, (either_short round _ _ 128 (omega arith) (omega arith), (either_short (eqb which 1) _ _ 128 (either_short round _ _ 128 (omega arith) (omega arith)) (either_short round _ _ 128 (omega arith) (omega arith)), (either_short (eqb which 1) _ _ 128 (either_short round _ _ 128 (omega arith) (omega arith)) (either_short round _ _ 128 (omega arith) (omega arith)), (omega arith, (omega arith, (omega arith, (omega arith, (omega arith, (omega arith, (omega arith, (omega arith, (omega arith, (omega arith, tt)))))))))))))))

pub words_short : (rule which : ℕ) (round : Bool) → length (words_of rule which round) ≤ 128
unfolding words_of
words_short rule which round = short_in (sayings which round) (all_short which round) rule
