use native.Mathlib.Omega.{arith}
use Rattle.word_fields.proofs.Numbers.{counted, last_count}
use Rattle.word_fields.proofs.number_of.Goals as goal

pub returns-then-count-eq8 : goal.returns-then-count-eq8
returns-then-count-eq8 c = counted _ _ 8 _ _ c.if-count-eq8.true c.eight_bytes.ensures.0 c.eight_bytes.ensures.1

pub returns-then-count-eq4 : goal.returns-then-count-eq4
returns-then-count-eq4 c = counted _ _ 4 _ _ c.if-count-eq4.true c.four_bytes.ensures.0 c.four_bytes.ensures.1

pub two_bytes-requires : goal.two_bytes-requires
two_bytes-requires c = omega (arith, last_count _ c.requires.0 c.if-count-eq8.false c.if-count-eq4.false)

pub returns : goal.returns
returns c = counted _ _ 2 _ _ (last_count _ c.requires.0 c.if-count-eq8.false c.if-count-eq4.false) c.two_bytes.ensures.0 c.two_bytes.ensures.1
