use Rattle.mve.proofs.Films.{short_out, begin_told}
use Rattle.mve.proofs.mve_begin.Goals as goal

pub returns-then-out-lt-ANSWER : goal.returns-then-out-lt-ANSWER
returns-then-out-lt-ANSWER c = short_out _ _ _ _ c.if-out-lt-ANSWER.true

pub returns : goal.returns
returns c = begin_told _ _ _ c.if-out-lt-ANSWER.false _ _ c.begin.result _ _ _ _ c.begin.ensures (c.put_begun.ensures.value, c.put_begun.ensures.out_after)
