use native.Mathlib.Omega.{arith}
use Rattle.block.specs.Block.{one, two, four, eight}
use Rattle.block.proofs.Codes.{kind_B, kind_C, kind_D, kind_E, length_celled}
use Rattle.block.proofs.fixed_length.Goals as goal

pub returns-in-11 : goal.returns-in-11
returns-in-11 g c = λ s o. length_celled _ s o _ _ one (kind_B _ s o _ c.in-11.is) c.bytes_of-n.ensures.0

pub returns-in-12 : goal.returns-in-12
returns-in-12 g c = λ s o. length_celled _ s o _ _ two (kind_C _ s o _ c.in-12.is) c.bytes_of-n.ensures.0

pub returns-in-13 : goal.returns-in-13
returns-in-13 g c = λ s o. length_celled _ s o _ _ four (kind_D _ s o _ c.in-13.is) c.bytes_of-n.ensures.0

pub returns-in-14 : goal.returns-in-14
returns-in-14 g c = λ s o. let e = length_celled _ s o _ _ eight (kind_E _ s o _ c.in-14.is) c.bytes_of-n.ensures.0 in omega (arith, e)
