-- Two conditions, one after the other.
use Rattle.characters.proofs.Texts.{wrote_more, room_front, room_behind}
use Rattle.explanations.proofs.Shown.{either_text}
use Rattle.explanations.proofs.put_ground.Goals as goal

pub put_if_broken-requires-in-Either : goal.put_if_broken-requires-in-Either
put_if_broken-requires-in-Either g c =
    room_front _ _ (rw (either_text g.F.Form.form c.args.subject.rule c.args.subject.round c.in-Either.is) at c.requires)

pub put_if_broken-requires-in-Either-2 : goal.put_if_broken-requires-in-Either-2
put_if_broken-requires-in-Either-2 g c =
    room_behind _ c.put_if_broken-in-Either.ensures (rw (either_text g.F.Form.form c.args.subject.rule c.args.subject.round c.in-Either.is) at c.requires)

pub returns-in-Either : goal.returns-in-Either
returns-in-Either g c =
    let text = either_text g.F.Form.form c.args.subject.rule c.args.subject.round c.in-Either.is in
    rw text (wrote_more c.put_if_broken-in-Either.ensures c.put_if_broken-in-Either-2.ensures (rw text at c.requires))
