-- A number that names none of the twelve calls is past them all.
use mathlib.Core.Path.{refl}
use native.Mathlib.Omega.{arith}
use Rattle.numbered.proofs.Rest.{not_one_of, up_from, past_all}
use Rattle.calls.specs.Requests.{by_none}
use Rattle.calls.proofs.answer.Goals as goal

pub returns-in_default : goal.returns-in_default
returns-in_default c =
    let other = (not_one_of (up_from 1 12) _ _ c.in_default.in_default-own.rest).0 in
    by_none (λ least most. omega (arith, past_all 1 12 _ other least)) refl refl refl
