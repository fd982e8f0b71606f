-- What each way through a call answers and leaves, and the list that a layout's array holds.
use Prim.Native.Nat.{ℕ, ◌-◌, ◌*◌, ◌≤◌, ◌<◌}
use mathlib.Core.Path.{◌≡◌, refl, sym, ◌∙◌, ap}
use mathlib.Core.Bool.{Bool, true, false}
use mathlib.Core.List.{List}
use native.Mathlib.Omega.{arith}
use borrow.Author.Tests.{le-leb, lt-leb}
use lib.ListN.{length, take, replicate, length-append}
use Rattle.arrays.specs.Arrays.{filled_to}
use Rattle.arrays.proofs.Filled.{filled_front}
use Rattle.output.specs.Answers.{Answer, Done, Refused}
use Rattle.output.specs.Splice.{spliced}
use Rattle.traverse.specs.declared.Layout.{Layout}
use Rattle.traverse.specs.Layout.{most_distances, IsLayout}
use Rattle.layouts.specs.Outcomes.{distance_size, lent_outcome, layout_outcome, distance_bytes, layout_answer, layout_out, Answered}

-- n distances and an output that is too short for them
pub refused_short : (ds old : List ℕ) {n : ℕ} → length ds ≡ n → length old < distance_size * n → Answered (lent_outcome ds (length old)) old old (Refused 9 0)
unfolding lent_outcome layout_answer layout_out
refused_short ds old {n} e short =
    rw (e, lt-leb (distance_size * n) (length old) short) (record { answer = refl; out = refl })

-- n distances written
pub laid_out : (ds old : List ℕ) {new : List ℕ} {n : ℕ} → length ds ≡ n → distance_size * n ≤ length old → new ≡ spliced old 0 (distance_bytes ds) → Answered (lent_outcome ds (length old)) old new (Done (distance_size * n))
unfolding lent_outcome layout_answer layout_out
laid_out ds old {new} {n} e room written =
    rw (e, le-leb (distance_size * n) (length old) room) (record { answer = ap (λ m. Done (distance_size * m)) (sym e); out = written })

-- the layout is outside its ranges, and inside them
pub refused_outside : {fits : Bool} (ds old : List ℕ) (room : ℕ) → fits ≡ false → Answered (layout_outcome fits ds room) old old (Refused 11 0)
unfolding layout_outcome layout_answer layout_out
refused_outside ds old room e = rw e (record { answer = refl; out = refl })

pub inside : {fits : Bool} (ds : List ℕ) (room : ℕ) {old new : List ℕ} {r : Answer} → fits ≡ true → Answered (lent_outcome ds room) old new r → Answered (layout_outcome fits ds room) old new r
unfolding layout_outcome
inside ds room e a = rw e a

-- an array that holds a list's distances has no more of them than it holds, and they are its front
module _ {ds : List ℕ} {l : Layout} (h : IsLayout ds l) (long : length l.distances ≡ most_distances) where
  pub held_few : l.count ≤ most_distances
  unfolding filled_to
  held_few =
      let all = ap length (sym h.distances) ∙ long in
      let size : length ds ≤ most_distances = omega (arith, length-append ds (replicate (most_distances - length ds) 0), all) in
      omega (arith, h.count)

  pub held_front : take l.count l.distances ≡ ds
  held_front = rw (h.distances, h.count) (filled_front most_distances 0 ds)
