-- What a rule goes by, and when that breaks it.
use Rattle.std.specs.Prelude.{Bool, true, false, ◌||◌}
use Rattle.std.specs.Int.Signed.{lt_z}
use Rattle.grounds.specs.Comparing.{holds, deciding}
use Rattle.grounds.specs.declared.Ground.{Ground}
use Rattle.grounds.specs.declared.Ground.TheVariants.{Silent, NoCertificate, Compared, Either, Exactly, SignedBelow}

-- a comparison breaks a rule exactly when it holds; of two, either is enough
unfoldable pub broken : Ground → Bool
broken Silent = false
broken NoCertificate = true
broken (Compared c) = holds c
broken (Either a b) = holds a || holds b
broken (Exactly c) = holds (deciding c)
broken (SignedBelow left right) = lt_z left right
