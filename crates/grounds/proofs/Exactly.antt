-- The comparison of a quotient and its remainder with a limit and 0 comes out as that of the dividend with so many times the divisor.
use Prim.Native.Nat.{ℕ, ◌+◌, ◌*◌, ◌≤◌, ◌<◌}
use mathlib.Core.Path.{◌≡◌, sym, ◌∙◌, ap}
use mathlib.Core.Bool.{not}
use native.Mathlib.Nat.{mul-le-mul_right, add-mul}
use native.Mathlib.Decide.{dec_lt}
use native.Mathlib.Omega.{arith}
use borrow.Author.Tests.{lt-ltb, le-ltb, eq-eqb, ne_eqb}
use Rattle.grounds.specs.declared.comparison.Way.{Way}
use Rattle.grounds.specs.declared.comparison.Way.TheVariants.{Below, Above, Same, Differs}
use Rattle.grounds.specs.Comparing.{stands_to, holds, deciding, compare_exactly}

-- How two numbers stand hangs on nothing but their order

lower : (way : Way) (a b : ℕ) → a < b → stands_to way a b ≡ stands_to way 0 1
lower Below a b h = lt-ltb a b h
lower Above a b h = le-ltb b a (omega arith)
lower Same a b h = ne_eqb a b (omega arith)
lower Differs a b h = ap not (ne_eqb a b (omega arith))

level : (way : Way) (a b : ℕ) → a ≡ b → stands_to way a b ≡ stands_to way 0 0
level Below a b h = le-ltb a b (omega arith)
level Above a b h = le-ltb b a (omega arith)
level Same a b h = eq-eqb a b h
level Differs a b h = ap not (eq-eqb a b h)

higher : (way : Way) (a b : ℕ) → b < a → stands_to way a b ≡ stands_to way 1 0
higher Below a b h = le-ltb a b (omega arith)
higher Above a b h = lt-ltb b a h
higher Same a b h = ne_eqb a b (omega arith)
higher Differs a b h = ap not (ne_eqb a b (omega arith))

-- for a dividend n that is q times the divisor d and r more, r below d, whichever way
pub exactly : (way : Way) (n d q r limit : ℕ) → q * d + r ≡ n → r < d → holds (deciding (compare_exactly q r way limit)) ≡ stands_to way n (limit * d)
unfolding holds deciding
exactly way n d q r limit parts rest = go (dec_lt q limit) (dec_lt limit q)
  where
    -- a higher number of divisors is a whole divisor more, at least
    within : {a b : ℕ} → a < b → a * d + d ≤ b * d
    within {a} {b} h =
        let next : a + 1 ≤ b = omega arith in
        omega (arith, mul-le-mul_right d next, add-mul a 1 d)

    by_remainder : q ≡ limit → Dec (0 < r) → stands_to way r 0 ≡ stands_to way n (limit * d)
    by_remainder is (yes more) =
        let same : q * d ≡ limit * d = ap (λ k. k * d) is in
        higher way r 0 more ∙ sym (higher way n (limit * d) (omega (arith, parts)))
    by_remainder is (no none) =
        let same : q * d ≡ limit * d = ap (λ k. k * d) is in
        level way r 0 (omega (arith, none)) ∙ sym (level way n (limit * d) (omega (arith, none, parts)))

    go : Dec (q < limit) → Dec (limit < q) → holds (deciding (compare_exactly q r way limit)) ≡ stands_to way n (limit * d)
    go (yes low) high =
        rw (ne_eqb q limit (omega arith)) (lower way q limit low ∙ sym (lower way n (limit * d) (omega (arith, within low, parts, rest))))
    go (no f) (yes high) =
        rw (ne_eqb q limit (omega arith)) (higher way q limit high ∙ sym (higher way n (limit * d) (omega (arith, within high, parts))))
    go (no f) (no g) =
        let is : q ≡ limit = omega (arith, f, g) in
        rw (eq-eqb q limit is) (by_remainder is (dec_lt 0 r))
