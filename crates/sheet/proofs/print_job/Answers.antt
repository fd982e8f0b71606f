-- What is written is the text: it stands at the front of the buffer, which has room for any.
use Rattle.std.proofs.Common.{◌≡◌, arith, rules, length, take, OnOk, Ok, Err, Result, subst, sym, ap, ◌∙◌, length-take-le}
use Rattle.std.specs.Io.KnownBytes.{Appends}
use Rattle.steps.specs.Steps.{no_figure}
use Rattle.characters.proofs.Texts.{taken_front, within_front}
use Rattle.printing.specs.Jobs.{job_text}
use Rattle.printing.proofs.Lengths.{text_most}
use Rattle.sheet.proofs.print_job.Goals as goal

pub slice_bounds-out-end : goal.slice_bounds-out-end
slice_bounds-out-end g c = within_front c.put_job-end.ensures (text_most c.none.result _)

pub slice_bounds-write_all-end : goal.slice_bounds-write_all-end
slice_bounds-write_all-end g c =
    sym (length-take-le c.put_job-end.result c.put_job-end.new.out (within_front c.put_job-end.ensures (text_most c.none.result _)))

given_ok : {T E : Type 0} {P Q : Type 0} (r : Result T E) → OnOk r P → (P → Q) → OnOk r Q
given_ok (Ok x) p f = f p
given_ok (Err e) p f = p

pub returns : goal.returns
returns g c =
    let read = c.in_ok-length.length in
    let buf = c.read_full.new.buf in
    let text : take c.put_job-end.result c.put_job-end.new.out ≡ job_text no_figure (take read buf) =
    taken_front c.put_job-end.ensures ∙ ap (λ fig. job_text fig (take read buf)) c.none.ensures
    in
    let size : length buf ≡ 65536 = search rules in
    let taken : length (take read buf) ≡ read = length-take-le read buf c.in_ok-length.ensures.bound in
    given_ok c.write_all.result c.write_all.ensures.bytes (λ printed. record {
      file = take read buf;
      most = omega (arith, taken, size, c.in_ok-length.ensures.bound);
      read = c.in_ok-length.ensures.bytes;
      whole = λ few. c.in_ok-length.ensures.end (omega (arith, taken, size, few));
      printed = subst (Appends _ _) text printed;
    })
