-- `choose` is `chosen`. The invariant: the best so far is the choice among the certificates passed.
use mathlib.Core.Path.{◌≡◌}
use Rattle.choosing.specs.Choosing.{chosen}
use Rattle.heads.specs.Values.{certificate_of}
use Rattle.certs.proofs.choose.Given as goal

abbrev pub invariant-loop-i : goal.invariant-loop-i
invariant-loop-i l =
    l.best ≡ chosen l.wanted.after l.wanted.kind l.wanted.identity l.wanted.day (certificate_of l.all.file.bytes.now) l.i
