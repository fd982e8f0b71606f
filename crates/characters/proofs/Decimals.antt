-- The laws of decimal numbers: one more digit, and how long they are.
use Prim.Native.Nat.{ℕ, zero, suc, ◌+◌, ◌*◌, ◌/◌, ◌%◌, ◌^◌, ◌≤◌, ◌<◌}
use mathlib.Core.Path.{◌≡◌, sym, ◌∙◌, ap}
use mathlib.Core.List.{[], ◌∷◌, ◌++◌}
use native.Mathlib.Nat.{pow-suc}
use native.Mathlib.Decide.{dec_lt}
use native.Mathlib.Omega.{arith}
use borrow.Author.Tests.{lt-ltb, le-ltb}
use lib.IntN.{ℤ, pos, negsuc}
use lib.ListN.{length, length-append}
use Rattle.characters.specs.Numbers.{decimal_of, decimal, signed_decimal}

few : (k n : ℕ) → n < 10 → decimal_of (suc k) n ≡ (48 + n) ∷ []
unfolding decimal_of
few k n h = rw (lt-ltb n 10 h)

many : (k n : ℕ) → 10 ≤ n → decimal_of (suc k) n ≡ decimal_of k (n / 10) ++ ((48 + n % 10) ∷ [])
unfolding decimal_of
many k n h = rw (le-ltb n 10 h)

-- the digits of two numbers of rooms are the same where those of the leading ones are
same_digits : (k n : ℕ) → (10 ≤ n → decimal_of (suc k) (n / 10) ≡ decimal_of k (n / 10)) → Dec (n < 10) → decimal_of (suc (suc k)) n ≡ decimal_of (suc k) n
same_digits k n leading (yes t) = few (suc k) n t ∙ sym (few k n t)
same_digits k n leading (no f) =
    let at_least : 10 ≤ n = omega arith in
    many (suc k) n at_least ∙ ap (λ ds. ds ++ ((48 + n % 10) ∷ [])) (leading at_least) ∙ sym (many k n at_least)

-- room for more digits changes nothing
more_room : (k n : ℕ) → n < 10 ^ suc k → decimal_of (suc (suc k)) n ≡ decimal_of (suc k) n
more_room zero n h = same_digits 0 n (λ at_least. absurd (omega (arith, h))) (dec_lt n 10)
more_room (suc k) n h =
    let power : 10 ^ suc (suc k) ≡ 10 ^ suc k * 10 = pow-suc 10 (suc k) in
    let fewer : n / 10 < 10 ^ suc k = omega arith in
    same_digits (suc k) n (λ at_least. more_room k (n / 10) fewer) (dec_lt n 10)

-- one digit
pub decimal_few : (n : ℕ) → n < 10 → decimal n ≡ (48 + n) ∷ []
unfolding decimal
decimal_few n h = few 19 n h

-- the leading digits, and one more
pub decimal_many : (n : ℕ) → 10 ≤ n → n < 10 ^ 20 → decimal n ≡ decimal (n / 10) ++ ((48 + n % 10) ∷ [])
unfolding decimal
decimal_many n h small =
    let fewer : n / 10 < 10 ^ 19 = omega arith in
    many 19 n h ∙ ap (λ ds. ds ++ ((48 + n % 10) ∷ [])) (sym (more_room 18 (n / 10) fewer))

-- no number is longer than its room
one_longer : (k n : ℕ) → length (decimal_of k (n / 10)) ≤ k → Dec (n < 10) → length (decimal_of (suc k) n) ≤ suc k
one_longer k n rest (yes t) = rw (few k n t) (omega arith)
one_longer k n rest (no f) =
    let at_least : 10 ≤ n = omega arith in
    rw (many k n at_least) (simp length-append (omega arith))

decimal_of_short : (k n : ℕ) → length (decimal_of k n) ≤ k
unfolding decimal_of
decimal_of_short zero n = omega arith
decimal_of_short (suc k) n = one_longer k n (decimal_of_short k (n / 10)) (dec_lt n 10)

pub decimal_short : (n : ℕ) → length (decimal n) ≤ 20
unfolding decimal
decimal_short n = decimal_of_short 20 n

-- no number below a power of ten has more digits than that power has zeros
fewer_digits : (k most n : ℕ) → (10 ≤ n → length (decimal_of k (n / 10)) ≤ most) → Dec (n < 10) → length (decimal_of (suc k) n) ≤ suc most
fewer_digits k most n rest (yes t) = rw (few k n t) (omega arith)
fewer_digits k most n rest (no f) =
    let at_least : 10 ≤ n = omega arith in
    rw (many k n at_least) (simp length-append (omega (arith, rest at_least)))

digits_of : (k most n : ℕ) → n < 10 ^ suc most → length (decimal_of k n) ≤ suc most
unfolding decimal_of
digits_of zero most n h = omega arith
digits_of (suc k) zero n h = fewer_digits k 0 n (λ at_least. absurd (omega (arith, h))) (dec_lt n 10)
digits_of (suc k) (suc most) n h =
    let power : 10 ^ suc (suc most) ≡ 10 ^ suc most * 10 = pow-suc 10 (suc most) in
    let smaller : n / 10 < 10 ^ suc most = omega arith in
    fewer_digits k (suc most) n (λ at_least. digits_of k most (n / 10) smaller) (dec_lt n 10)

pub decimal_digits : (most n : ℕ) → n < 10 ^ suc most → length (decimal n) ≤ suc most
unfolding decimal
decimal_digits most n h = digits_of 20 most n h

pub signed_short : (z : ℤ) → length (signed_decimal z) ≤ 21
unfolding signed_decimal
signed_short (pos n) = omega (arith, decimal_short n)
signed_short (negsuc n) = omega (arith, decimal_short (n + 1))
