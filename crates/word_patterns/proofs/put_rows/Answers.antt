use native.Mathlib.Omega.{arith}
use Rattle.word_patterns.proofs.Rows.{second_low, one_made, two_made}
use Rattle.word_patterns.proofs.put_rows.Goals as goal

pub overflow_add-to : goal.overflow_add-to
overflow_add-to g c = omega (arith, second_low c.requires c.put_eight.ensures c.if-high-eq2.true)

pub put_eight-requires-then-high-eq2 : goal.put_eight-requires-then-high-eq2
put_eight-requires-then-high-eq2 g c = c.requires.second c.if-high-eq2.true c.put_eight.ensures

pub returns-then-high-eq2 : goal.returns-then-high-eq2
returns-then-high-eq2 g c = two_made c.requires c.put_eight.ensures c.if-high-eq2.true c.put_eight-then-high-eq2.ensures

pub returns-else-high-eq2 : goal.returns-else-high-eq2
returns-else-high-eq2 g c = one_made c.requires c.put_eight.ensures c.if-high-eq2.false
