-- The word is copied over the bytes of its length.
use Rattle.std.proofs.Common.{ap, refl, ◌∙◌, length}
use Rattle.output.proofs.Splice.{length_spliced}
use Rattle.characters.proofs.Texts.{laid_over}
use Rattle.characters.proofs.Writer.word.Goals as goal

pub returns : goal.returns
returns c =
    let is = laid_over _ _ c.requires.fits c.copy_from_slice.ensures.after in
    record { is = is; after = refl; kept = ap length is ∙ length_spliced _ _ _ c.requires.fits; same = refl }
