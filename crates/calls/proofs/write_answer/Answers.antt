-- The number fills the reply.
use Rattle.std.proofs.Common.{rules, ◌≡◌, ℕ, replicate, OnOk, subst, ◌∙◌}
use Rattle.std.specs.Io.KnownBytes.{Appends}
use Rattle.output.specs.Bytes.{le}
use Rattle.output.specs.Splice.{spliced}
use Rattle.calls.proofs.write_answer.Goals as goal

whole : (n : ℕ) → spliced (replicate 8 0) 0 (le 8 n) ≡ le 8 n
unfolding spliced le
whole n = search rules

pub returns : goal.returns
returns g c = subst (λ bs. OnOk c.write_all.result (Appends (g.W.Write.contents c.args.to.now) (g.W.Write.contents c.write_all.new.self) bs)) (c.put_number.ensures ∙ whole c.args.answer) c.write_all.ensures.bytes
