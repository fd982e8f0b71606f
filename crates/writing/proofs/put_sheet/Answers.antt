-- The loop writes one line a turn.
use Rattle.std.proofs.Common.{◌≡◌, ◌*◌, ◌∙◌, ap, length, rules, arith}
use Rattle.std.proofs.lemmas.List.{get_or_default}
use Rattle.lines.specs.Sheet.{no_entry, line_count}
use Rattle.output.specs.Splice.{spliced}
use Rattle.output.proofs.Records.{put_none, put_length, put_more, put_all}
use Rattle.writing.specs.Bytes.{line_size, entry_bytes, sheet_bytes}
use Rattle.writing.proofs.Sizes.{entry_length}
use Rattle.writing.proofs.put_sheet.Goals as goal

pub loop-i-init : goal.loop-i-init
loop-i-init c = (omega arith, c.requires, put_none _ (λ k. entry_length _))

pub overflow_mul-i : goal.overflow_mul-i
overflow_mul-i c = omega (arith, c.loop-i-test.true)

pub offset_bounds-sheet-i : goal.offset_bounds-sheet-i
offset_bounds-sheet-i c = omega (arith, c.loop-i-test.true)

pub bounds-sheet-i : goal.bounds-sheet-i
bounds-sheet-i c = omega (arith, c.loop-i-test.true)

pub put_entry-requires : goal.put_entry-requires
put_entry-requires c =
    let f = c.loop-i.invariant in
    let inside = c.loop-i-test.true in
    omega (arith, inside, f.1, put_length f.2 (omega (arith, inside, f.1)))

pub loop-i-preserved : goal.loop-i-preserved
loop-i-preserved c =
    let f = c.loop-i.invariant in
    let inside = c.loop-i-test.true in
    let twenty : length c.args.sheet.entries ≡ line_count = search rules in
    let entry = get_or_default c.args.sheet.entries c.loop-i.i _ no_entry (omega (arith, inside, twenty)) in
    let written = c.put_entry.ensures ∙ ap (λ e. spliced c.loop-i.out (line_size * c.loop-i.i) (entry_bytes e)) entry in
    (omega (arith, inside), f.1, put_more f.2 (omega (arith, inside, f.1)) written)

pub shape_of-out : goal.shape_of-out
shape_of-out c =
    let f = c.loop-i.invariant in
    put_length f.2 (omega (arith, f.0, f.1))

pub returns : goal.returns
unfolding sheet_bytes
returns c =
    let f = c.loop-i.invariant in
    put_all f.2 f.0 c.loop-i-test.false
