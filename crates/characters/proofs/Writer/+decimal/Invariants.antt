-- The number falls at each call of itself.
use Rattle.characters.proofs.Writer.+decimal.Given as goal

abbrev pub decreases-decimal : goal.decreases-decimal
decreases-decimal l = l.n
