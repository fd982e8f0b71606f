-- As many bytes as the number's width.
use Rattle.std.proofs.Common.{◌+◌, ◌≤◌, ap, refl, ◌∙◌, length, arith, rules}
use Rattle.output.proofs.Splice.{length_spliced}
use Rattle.output.proofs.Bytes.{length_le}
use Rattle.characters.proofs.Writer.number.Goals as goal

pub put_number-requires : goal.put_number-requires
put_number-requires c = omega (arith, length_le c.args.width c.args.value, c.requires.fits)

pub overflow_add-self : goal.overflow_add-self
overflow_add-self c =
    let inside : c.args.self.now.at + c.args.width ≤ length c.args.self.now.out.now = omega (arith, length_le c.args.width c.args.value, c.requires.fits) in
    search rules

pub returns : goal.returns
returns c =
    record {
      is = c.put_number.ensures;
      after = omega (arith, length_le c.args.width c.args.value);
      kept = ap length c.put_number.ensures ∙ length_spliced _ _ _ c.requires.fits;
      same = refl;
    }
