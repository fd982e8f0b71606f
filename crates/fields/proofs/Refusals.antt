-- The laws of what the code answers, read as trouble.
use Prim.Native.Nat.{ℕ, ◌+◌, ◌<◌}
use mathlib.Core.Path.{◌≡◌, refl, sym, ◌∙◌}
use Rattle.std.specs.Prelude.{Result, Ok, Err, IsErrAnd}
use Rattle.std.specs.Result.{result_and}
use Rattle.fields.specs.declared.trouble.BadFile.{BadFile}
use Rattle.fields.specs.Trouble.{Trouble, Clear, At, first, up_to}
use Rattle.fields.specs.Refusals.{trouble_of}
use Rattle.fields.proofs.FirstTrouble.{first_at, first_clear, goes_on, stops}

-- Rows one after the other: those of a tell t, that of b tells u
pub adds : {q : Result (Unit {0}) BadFile} (a b : Result (Unit {0}) BadFile) {t u : Trouble} → q ≡ result_and a b → trouble_of a ≡ t → trouble_of b ≡ u → trouble_of q ≡ first t u
unfolding first
adds (Ok x) b e f g = rw (e, ← f) g
adds (Err y) b e f g = rw (e, ← f) refl

-- What a `?` hands on: q is the error e of the call
pub handed : {A : Type 0} (q : Result A BadFile) (e : BadFile) {t : Trouble} → IsErrAnd q (λ y. y ≡ e) → At e.number e.place ≡ t → trouble_of q ≡ t
handed (Ok a) e same told = absurd same
handed (Err y) e same told = rw same told

-- an early answer: t is refused, and no later one counts ..
pub refuses : {A : Type 0} (q : Result A BadFile) (e : BadFile) {t : Trouble} (u : Trouble) → IsErrAnd q (λ y. y ≡ e) → At e.number e.place ≡ t → trouble_of q ≡ first t u
refuses q e u same told = handed q e same (sym (first_at u (sym told)))

-- .. or all was well so far, and what comes later is the answer
pub passes : {t u q : Trouble} → Clear ≡ t → q ≡ u → q ≡ first t u
passes told later = later ∙ sym (first_clear _ (sym told))

-- A loop over records that stops at the first that is refused, by a `?`
pub stopped : {A : Type 0} (q : Result A BadFile) (e : BadFile) (f : ℕ → Trouble) (i m : ℕ) → up_to f i ≡ Clear → IsErrAnd q (λ y. y ≡ e) → At e.number e.place ≡ f i → i < m → trouble_of q ≡ up_to f m
stopped q e f i m clear same told inside = handed q e same (stops f i m clear told refl inside)

-- and that all is well with so far
pub still_clear : (f : ℕ → Trouble) (i : ℕ) → up_to f i ≡ Clear → Clear ≡ f i → up_to f (i + 1) ≡ Clear
still_clear f i clear told = goes_on f i clear told refl
