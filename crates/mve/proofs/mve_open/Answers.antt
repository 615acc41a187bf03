use Rattle.mve.proofs.Films.{short_out, open_told}
use Rattle.mve.proofs.mve_open.Goals as goal

pub returns-then-out-lt-ANSWER : goal.returns-then-out-lt-ANSWER
returns-then-out-lt-ANSWER c = short_out _ _ _ _ c.if-out-lt-ANSWER.true

pub returns : goal.returns
returns c = open_told _ _ _ c.if-out-lt-ANSWER.false _ _ c.«open».result c.«open».ensures (c.put_opened.ensures.value, c.put_opened.ensures.out_after)
