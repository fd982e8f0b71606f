-- One byte is set.
use Rattle.output.proofs.Splice.{spliced_one}
use Rattle.output.proofs.put_byte.Goals as goal

pub returns : goal.returns
returns c = spliced_one _ _ _ c.requires
