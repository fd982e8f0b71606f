-- So many times those of one identity.
use Prim.Native.Nat.{ℕ, ◌*◌}
use mathlib.Core.Path.{◌∙◌, ap}
use Rattle.opening.proofs.HowMany.{times_each}
use Rattle.opening.proofs.letters.Goals as goal

pub returns : goal.returns
returns c = ap (λ (k : ℕ). c.args.n * k) c.each.ensures ∙ times_each c.args.v c.args.n
