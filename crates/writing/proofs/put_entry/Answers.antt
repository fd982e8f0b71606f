-- A byte and a number, one after the other, by the two cases of a line.
use Rattle.std.specs.Prelude.{Some, None}
use Prim.Native.Nat.{ℕ, ◌+◌, ◌^◌, ◌≤◌, ◌<◌}
use mathlib.Core.Path.{◌≡◌, ◌∙◌, ap}
use mathlib.Core.List.{List, [], ◌∷◌}
use native.Mathlib.Omega.{arith}
use lib.IntN.{ℤ}
use lib.ListN.{length}
use lib.Signed.{mag}
use mir.Facts.{to_z-of_z}
use mir.Syntax.{w64}
use mir.Val.{SFits, to_z, of_z}
use Rattle.lines.specs.declared.Entry.{Entry}
use Rattle.output.specs.Bytes.{le, signed_bits}
use Rattle.output.specs.Splice.{spliced}
use Rattle.output.proofs.Bytes.{length_le}
use Rattle.output.proofs.Splice.{spliced_more}
use Rattle.writing.specs.Bytes.{line_size, entry_bytes}
use Rattle.writing.proofs.put_entry.Goals as goal

two : (old : List ℕ) (at flag n : ℕ) {mid out : List ℕ} → at + line_size ≤ length old → mid ≡ spliced old at (flag ∷ []) → out ≡ spliced mid (at + 1) (le 8 n) → out ≡ spliced old at (flag ∷ le 8 n)
two old at flag n room em eo =
    let long : length (le 8 n) ≡ 8 = length_le 8 n in
    eo ∙ rw em (spliced_more old at (flag ∷ []) (le 8 n) (omega arith))

present : (entry : Entry) {z : ℤ} (old : List ℕ) (at : ℕ) {mid out : List ℕ} {n : ℕ} → entry.line ≡ Some z → mag z < 2 ^ 63 → at + line_size ≤ length old → mid ≡ spliced old at (1 ∷ []) → n ≡ signed_bits (to_z w64 (of_z w64 z)) → out ≡ spliced mid (at + 1) (le 8 n) → out ≡ spliced old at (entry_bytes entry)
unfolding entry_bytes
present entry {z} old at {mid} {out} {n} el small room em en eo =
    let fits : SFits w64 z = record { sfits = small } in
    let value : n ≡ signed_bits z = en ∙ ap signed_bits (to_z-of_z fits) in
    rw el (two old at 1 n room em eo ∙ ap (λ v. spliced old at (1 ∷ le 8 v)) value)

absent : (entry : Entry) (old : List ℕ) (at : ℕ) {mid out : List ℕ} → entry.line ≡ None → at + line_size ≤ length old → mid ≡ spliced old at (0 ∷ []) → out ≡ spliced mid (at + 1) (le 8 0) → out ≡ spliced old at (entry_bytes entry)
unfolding entry_bytes
absent entry old at el room em eo = rw el (two old at 0 0 room em eo)

pub returns-in-Some : goal.returns-in-Some
returns-in-Some c =
    present _ _ _ c.in-Some.is (omega arith) c.requires c.put_byte.ensures c.cast_unsigned.ensures c.put_number.ensures

pub returns-in_default : goal.returns-in_default
returns-in_default c =
    absent _ _ _ c.in_default.is c.requires c.put_byte-in_default.ensures c.put_number-in_default.ensures
