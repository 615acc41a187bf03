use native.Mathlib.Omega.{arith}
use Rattle.pixel.proofs.Sources.{copied_asked, deep_6}
use Rattle.pixel.proofs.source_of_6.Goals as goal

pub copied_index-requires : goal.copied_index-requires
copied_index-requires c = copied_asked _ _ _ _ _ _ _ _ _ _ c.requires (omega arith) (deep_6 _ c.if-deep.true) c.copied_vector-v.ensures.0 c.copied_vector-v.ensures.1
