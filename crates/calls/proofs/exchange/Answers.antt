-- A request's reply is the answer and then both outputs: each write stands behind the one before.
use Rattle.std.proofs.Common.{◌≡◌, length, replicate, OnOk, Ok, Err, Result, rules, sym, ap, ◌∙◌}
use Rattle.std.proofs.KnownBytes.{Appends-trans}
use Rattle.fields.specs.Numbers.{byte_at}
use Rattle.calls.proofs.exchange.Goals as goal

given_ok : {T E : Type 0} {P Q : Type 0} (r : Result T E) → OnOk r P → (P → Q) → OnOk r Q
given_ok (Ok x) p f = f p
given_ok (Err e) p f = p

pub returns : goal.returns
returns g c =
    let byte = byte_at c.args.header.now 1 in
    let first : c.fill.new.self ≡ replicate (length c.answer.new.first) byte = c.fill.ensures.after (λ y h. h) ∙ ap (λ n. replicate n byte) (search rules) in
    let second : c.fill-2.new.self ≡ replicate (length c.answer.new.second) byte = c.fill-2.ensures.after (λ y h. h) ∙ ap (λ n. replicate n byte) (search rules) in
    given_ok c.write_all-2.result c.write_all-2.ensures.bytes (λ last. record {
      between = g.R.Read.remaining c.read_full.new.input;
      figure_read = record { count = c.in_ok-read_full.field-0; within = c.in_ok-read_full.ensures.bound; bytes = c.in_ok-read_full.ensures.bytes; end = c.in_ok-read_full.ensures.end };
      job_read = record { count = c.in_ok-read_full-2.field-0; within = c.in_ok-read_full-2.ensures.bound; bytes = c.in_ok-read_full-2.ensures.bytes; end = c.in_ok-read_full-2.ensures.end };
      answer = c.answer.result;
      replied = rw (sym first, sym second) c.answer.ensures;
      written = Appends-trans _ _ _ _ _ c.in_ok-write_answer.ensures (Appends-trans _ _ _ _ _ c.in_ok-write_all.ensures.bytes last);
    })
