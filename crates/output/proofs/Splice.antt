-- The laws of a write: its length, one byte, and a write after a write.
use Prim.Native.Nat.{ℕ, ◌+◌, ◌≤◌, ◌<◌}
use mathlib.Core.Path.{◌≡◌, sym, ◌∙◌, ap}
use mathlib.Core.List.{List, [], ◌∷◌, ◌++◌, append_assoc}
use native.Mathlib.Nat.{add_assoc, add-zero}
use native.Mathlib.Numerals.{add-one}
use native.Mathlib.Omega.{arith}
use lib.ListN.{length, take, drop, set, length-append, length-take, length-drop, take-append-drop}
use lib.Seq.{set_split, take_at, drop-drop, drop-append-add}
use Rattle.output.specs.Splice.{spliced}

-- a write keeps the length of the buffer
pub length_spliced : (old : List ℕ) (at : ℕ) (bytes : List ℕ) → at + length bytes ≤ length old → length (spliced old at bytes) ≡ length old
unfolding spliced
length_spliced old at bytes h =
    simp (length-append, length-take, length-drop) (omega arith)

-- nothing written
pub spliced_none : (old : List ℕ) (at : ℕ) → old ≡ spliced old at []
unfolding spliced
spliced_none old at = rw add-zero (sym (take-append-drop at old))

-- one byte
pub spliced_one : (old : List ℕ) (at byte : ℕ) → at < length old → set old at byte ≡ spliced old at (byte ∷ [])
unfolding spliced
spliced_one old at byte h = set_split old at byte h ∙ ap (λ n. take at old ++ byte ∷ drop n old) (sym (add-one at))

-- a write just after a write
module _ (old : List ℕ) (at : ℕ) (a b : List ℕ) (fits : at + length a + length b ≤ length old) where
  front_length : length (take at old ++ a) ≡ at + length a
  front_length = simp (length-append, length-take) (omega arith)

  regrouped : at + length a + length b ≡ at + length (a ++ b)
  regrouped = simp length-append (add_assoc at (length a) (length b))

  rest : drop (at + length a + length b) (take at old ++ a ++ drop (at + length a) old) ≡ drop (at + length (a ++ b)) old
  rest =
      ap (λ n. drop (n + length b) (take at old ++ a ++ drop (at + length a) old)) (sym front_length)
      ∙ drop-append-add (take at old ++ a) (drop (at + length a) old) (length b)
      ∙ drop-drop (length b) (at + length a) old
      ∙ ap (λ n. drop n old) regrouped

  pub spliced_more : spliced (spliced old at a) (at + length a) b ≡ spliced old at (a ++ b)
  unfolding spliced
  spliced_more =
      rw (← append_assoc (take at old) a (drop (at + length a) old))
      (rw (take_at (take at old ++ a) (drop (at + length a) old) (at + length a) front_length, rest) (simp append_assoc))
