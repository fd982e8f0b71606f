-- A word as the list of its characters.
use Rattle.std.specs.Prelude.{ℕ, List, [] as none, ◌∷◌ as ◌then◌}
use Prim.Native.Char.{code}
use Prim.Native.String.{String, [], ◌∷◌}

-- the codes of a word's characters, from the first to the last
unfoldable pub spelled : String → List ℕ
spelled [] = none
spelled (c ∷ word) = code c then spelled word
