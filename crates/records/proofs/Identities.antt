-- The comparison of two identities: the program's `==` is `same_identity`, and it is passed exactly when they are equal.
use mathlib.Core.Path.{◌≡◌, refl}
use mathlib.Core.Bool.{Bool, true, false, ◌&&◌}
use borrow.Author.Tests.{eqb-true, eq-eqb}
use lib.Dec.{eqb}
use Rattle.readings.proofs.Ranges.{both_left, both_right}
use Rattle.records.specs.declared.Identity.{Identity}
use Rattle.records.specs.contracts.IdentityPartialEq.TheImpl as derived
use Rattle.records.specs.Records.{same_identity}

-- five tests in another order
reordered : (first second third serial letter : Bool) → ((first && (second && third)) && (serial && letter)) ≡ (serial && (first && (second && (third && letter))))
reordered true true true serial letter = refl
reordered true true false true letter = refl
reordered true true false false letter = refl
reordered true false third true letter = refl
reordered true false third false letter = refl
reordered false second third true letter = refl
reordered false second third false letter = refl

-- the derived `==` compares the same five parts
pub derived_same : (a b : Identity) → (derived.ghosts).eq a b ≡ same_identity a b
unfolding same_identity
derived_same a b =
    reordered (eqb a.maker.first b.maker.first) (eqb a.maker.second b.maker.second) (eqb a.maker.third b.maker.third) (eqb a.serial b.serial) (eqb a.letter b.letter)

pub same_equal : (a b : Identity) → same_identity a b ≡ true → a ≡ b
unfolding same_identity
same_equal a b e =
    let serial : a.serial ≡ b.serial = eqb-true _ _ (both_left _ _ e) in
    let maker = both_right (eqb a.serial b.serial) _ e in
    let first : a.maker.first ≡ b.maker.first = eqb-true _ _ (both_left _ _ maker) in
    let later = both_right (eqb a.maker.first b.maker.first) _ maker in
    let second : a.maker.second ≡ b.maker.second = eqb-true _ _ (both_left _ _ later) in
    let last = both_right (eqb a.maker.second b.maker.second) _ later in
    let third : a.maker.third ≡ b.maker.third = eqb-true _ _ (both_left _ _ last) in
    let letter : a.letter ≡ b.letter = eqb-true _ _ (both_right (eqb a.maker.third b.maker.third) _ last) in
    λ i. record { maker = record { first = first i; second = second i; third = third i }; serial = serial i; letter = letter i }

pub same_refl : (a : Identity) → same_identity a a ≡ true
unfolding same_identity
same_refl a =
    rw (eq-eqb a.serial a.serial refl, eq-eqb a.maker.first a.maker.first refl, eq-eqb a.maker.second a.maker.second refl, eq-eqb a.maker.third a.maker.third refl, eq-eqb a.letter a.letter refl)
