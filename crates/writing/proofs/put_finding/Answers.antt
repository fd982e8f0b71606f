-- Two bytes and a number, one after another.
use Prim.Native.Nat.{ℕ, ◌+◌, ◌≤◌}
use mathlib.Core.Path.{◌≡◌, ◌∙◌}
use mathlib.Core.List.{List, [], ◌∷◌}
use native.Mathlib.Omega.{arith}
use lib.ListN.{length}
use Rattle.output.specs.Splice.{spliced}
use Rattle.findings.specs.declared.Finding.{Finding}
use Rattle.output.specs.Bytes.{le}
use Rattle.output.proofs.Bytes.{length_le}
use Rattle.output.proofs.Splice.{spliced_more}
use Rattle.writing.specs.Bytes.{finding_size, finding_bytes}
use Rattle.writing.proofs.put_finding.Goals as goal

three : (f : Finding) (old : List ℕ) (at : ℕ) {a b out : List ℕ} → at + finding_size ≤ length old → a ≡ spliced old at (f.rule ∷ []) → b ≡ spliced a (at + 1) (f.class ∷ []) → out ≡ spliced b (at + 2) (le 2 f.place) → out ≡ spliced old at (finding_bytes f)
unfolding finding_bytes
three f old at {a} {b} {out} room ea eb eo =
    let long : length (le 2 f.place) ≡ 2 = length_le 2 f.place in
    let front : b ≡ spliced old at (f.rule ∷ f.class ∷ []) = eb ∙ rw ea (spliced_more old at (f.rule ∷ []) (f.class ∷ []) (omega arith)) in
    eo ∙ rw front (spliced_more old at (f.rule ∷ f.class ∷ []) (le 2 f.place) (omega arith))

pub returns : goal.returns
returns c = three _ _ _ c.requires c.put_byte.ensures c.put_byte-2.ensures c.put_number.ensures
