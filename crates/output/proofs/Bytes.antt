-- How long a number's bytes are, and a loop that writes them one after another.
use Prim.Native.Nat.{ℕ, zero, suc, ◌+◌, ◌*◌, ◌/◌, ◌%◌, ◌^◌, ◌≤◌, ◌<◌}
use mathlib.Core.List.{List, [], ◌∷◌}
use mathlib.Core.Path.{◌≡◌, refl, sym, ◌∙◌, ap}
use native.Mathlib.Nat.{pow-suc, div-one, div-div-eq-div-mul}
use native.Mathlib.Numerals.{add-one}
use native.Mathlib.Omega.{arith}
use lib.ListN.{length, length-append}
use Rattle.output.specs.Bytes.{le}
use Rattle.output.specs.Splice.{spliced}
use Rattle.output.proofs.Splice.{spliced_none, spliced_more, length_spliced}

pub length_le : (width n : ℕ) → length (le width n) ≡ width
unfolding le
length_le zero n = refl
length_le (suc width) n =
    let rest : length (le width n) ≡ width = length_le width n in
    simp length-append (omega arith)

-- i bytes of a number are written: the rest is what is left of it
pub record Written (old : List ℕ) (at width value : ℕ) (out : List ℕ) (rest i : ℕ) : Type 0 where
  pub past : i ≤ width
  pub room : at + width ≤ length old
  pub left : rest ≡ value / 256 ^ i
  pub is : out ≡ spliced old at (le i value)

pub written_none : (old : List ℕ) (at width value : ℕ) → at + width ≤ length old → Written old at width value old value 0
unfolding le
written_none old at width value room =
    record { past = omega arith; room = room; left = sym (div-one value); is = spliced_none old at }

pub written_length : {old : List ℕ} {at width value : ℕ} {out : List ℕ} {rest i : ℕ} → Written old at width value out rest i → length out ≡ length old
written_length {old} {at} {width} {value} {out} {rest} {i} w =
    let size : length (le i value) ≡ i = length_le i value in
    ap length w.is ∙ length_spliced old at (le i value) (omega (arith, w.past, w.room))

pub written_more : {old : List ℕ} {at width value : ℕ} {out next : List ℕ} {rest i : ℕ} → Written old at width value out rest i → i < width → next ≡ spliced out (at + i) (rest % 256 ∷ []) → Written old at width value next (rest / 256) (i + 1)
unfolding le
written_more {old} {at} {width} {value} {out} {next} {rest} {i} w inside e =
    let size : length (le i value) ≡ i = length_le i value in
    let fits : at + length (le i value) + 1 ≤ length old = omega (arith, w.room) in
    let fewer : rest / 256 ≡ value / (256 ^ i * 256) = ap (λ n. n / 256) w.left ∙ div-div-eq-div-mul value (256 ^ i) 256 in
    record {
      past = omega arith;
      room = w.room;
      left = fewer ∙ rw (add-one i, pow-suc 256 i);
      is =
          e
          ∙ rw (w.is, w.left, add-one i)
          (ap (λ n. spliced (spliced old at (le i value)) (at + n) (value / 256 ^ i % 256 ∷ [])) (sym size)
          ∙ spliced_more old at (le i value) (value / 256 ^ i % 256 ∷ []) fits);
    }

pub written_all : {old : List ℕ} {at width value : ℕ} {out : List ℕ} {rest i : ℕ} → Written old at width value out rest i → width ≤ i → out ≡ spliced old at (le width value)
written_all {old} {at} {width} {value} {i = i} w end =
    let whole : i ≡ width = omega (arith, w.past) in
    w.is ∙ ap (λ n. spliced old at (le n value)) whole
