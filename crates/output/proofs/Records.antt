-- Records of one size, written one after another from the front of a buffer.
use Prim.Native.Nat.{ℕ, zero, suc, ◌+◌, ◌*◌, ◌≤◌, ◌<◌}
use mathlib.Core.Path.{◌≡◌, refl, sym, ◌∙◌, ap, ap₂}
use mathlib.Core.List.{List, [], ◌++◌, append_assoc, append-nil}
use mathlib.Core.Logic.{◌⊎◌, inl, inr}
use native.Mathlib.Nat.{mul-suc, mul-zero, zero-add, le_antisymm, lt_trans, lt-suc_self, eq-or-lt_of_le, le_of_suc-le-suc}
use native.Mathlib.Numerals.{add-one}
use native.Mathlib.Omega.{arith}
use lib.ListN.{length, take, drop, get_or, length-append}
use lib.Seq.{take_at, drop_at, length-take-le, get_or-take}
use Rattle.output.specs.Bytes.{joined}
use Rattle.output.specs.Splice.{spliced}
use Rattle.output.proofs.Splice.{length_spliced, spliced_none, spliced_more}

-- records of one size have that size each
pub joined_length : (bytes : ℕ → List ℕ) (size : ℕ) → ((i : ℕ) → length (bytes i) ≡ size) → (n : ℕ) → length (joined bytes n) ≡ size * n
unfolding joined
joined_length bytes size equal zero = sym (mul-zero size)
joined_length bytes size equal (suc n) = length-append (joined bytes n) (bytes n) ∙ rw (joined_length bytes size equal n, equal n, mul-suc size n)

-- i of them are written
pub record Put (bytes : ℕ → List ℕ) (size : ℕ) (old out : List ℕ) (i : ℕ) : Type 0 where
  pub equal : (k : ℕ) → length (bytes k) ≡ size
  pub is : out ≡ spliced old 0 (joined bytes i)

pub put_none : {bytes : ℕ → List ℕ} {size : ℕ} (old : List ℕ) → ((k : ℕ) → length (bytes k) ≡ size) → Put bytes size old old 0
unfolding joined
put_none old equal = record { equal = equal; is = spliced_none old 0 }

module _ {bytes : ℕ → List ℕ} {size : ℕ} {old out : List ℕ} {i : ℕ} (p : Put bytes size old out i) where
  -- the buffer keeps its length
  pub put_length : size * i ≤ length old → length out ≡ length old
  put_length room =
      ap length p.is ∙ length_spliced old 0 (joined bytes i) (omega (arith, joined_length bytes size p.equal i))

  -- one record more, just behind the others
  pub put_more : {next : List ℕ} → size * i + size ≤ length old → next ≡ spliced out (size * i) (bytes i) → Put bytes size old next (i + 1)
  unfolding joined
  put_more room e =
      let place : size * i ≡ 0 + length (joined bytes i) = sym (joined_length bytes size p.equal i) ∙ sym (zero-add (length (joined bytes i))) in
      let fits : 0 + length (joined bytes i) + length (bytes i) ≤ length old = rw (← place, p.equal i) room in
      record { equal = p.equal; is = e ∙ rw (p.is, place, add-one i) (spliced_more old 0 (joined bytes i) (bytes i) fits) }

  -- all of them
  pub put_all : {n : ℕ} → i ≤ n → n ≤ i → out ≡ spliced old 0 (joined bytes n)
  put_all past end = p.is ∙ ap (λ n. spliced old 0 (joined bytes n)) (le_antisymm past end)

-- the same records, the same bytes
pub joined_ext : (f g : ℕ → List ℕ) (n : ℕ) → ((i : ℕ) → i < n → f i ≡ g i) → joined f n ≡ joined g n
unfolding joined
joined_ext f g zero same = refl
joined_ext f g (suc n) same =
    ap₂ ◌++◌ (joined_ext f g n (λ i h. same i (lt_trans h (lt-suc_self n)))) (same n (lt-suc_self n))

-- the records up to one, that one, and the rest
record Split (bytes : ℕ → List ℕ) (n i : ℕ) : Type 0 where
  rest : List ℕ
  is : joined bytes n ≡ joined bytes i ++ (bytes i ++ rest)

split : (bytes : ℕ → List ℕ) (n i : ℕ) → i < n → Split bytes n i
unfolding joined
split bytes zero i inside = absurd (omega (arith, inside))
split bytes (suc n) i inside = go (eq-or-lt_of_le (le_of_suc-le-suc inside)) (λ h. split bytes n i h)
  where
    go : (i ≡ n) ⊎ (i < n) → (i < n → Split bytes n i) → Split bytes (suc n) i
    go (inl e) before = record { rest = []; is = rw (← e) (ap (λ b. joined bytes i ++ b) (sym (append-nil (bytes i)))) }
    go (inr h) before =
        let p = before h in
        record { rest = p.rest ++ bytes n; is = ap (λ b. b ++ bytes n) p.is ∙ simp append_assoc }

-- What stands at record i of a buffer after n of one size were written from its front
pub record_at : (bytes : ℕ → List ℕ) (size : ℕ) → ((k : ℕ) → length (bytes k) ≡ size) → (old : List ℕ) (n i : ℕ) → i < n → take size (drop (size * i) (spliced old 0 (joined bytes n))) ≡ bytes i
unfolding spliced
record_at bytes size equal old n i inside =
    let p = split bytes n i inside in
    let after : List ℕ = drop (0 + length (joined bytes n)) old in
    let whole : joined bytes n ++ after ≡ joined bytes i ++ (bytes i ++ (p.rest ++ after)) = ap (λ b. b ++ after) p.is ∙ simp append_assoc in
    ap (λ b. take size (drop (size * i) b)) whole
    ∙ ap (take size) (drop_at (joined bytes i) _ (size * i) (joined_length bytes size equal i))
    ∙ take_at (bytes i) _ size (equal i)

-- the records of a list's front are its first ones
pub joined_taken : {A : Type 0} (d : A) (bytes : A → List ℕ) (xs : List A) (n : ℕ) → n ≤ length xs → joined (λ i. bytes (get_or (take n xs) i d)) (length (take n xs)) ≡ joined (λ i. bytes (get_or xs i d)) n
joined_taken d bytes xs n held =
    ap (joined (λ i. bytes (get_or (take n xs) i d))) (length-take-le n xs held)
    ∙ joined_ext _ _ n (λ i inside. ap bytes (get_or-take n xs i d inside))
