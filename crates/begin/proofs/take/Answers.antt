use Rattle.begin.specs.Begin.{allowance}
use Rattle.begin.proofs.Before.{takes_dropped, takes_acted}
use Rattle.begin.proofs.take.Goals as goal

pub returns-then-is_heard : goal.returns-then-is_heard
returns-then-is_heard c = λ l g big. takes_dropped _ _ _ _ _ c.is_chosen.ensures c.is_heard.ensures l allowance c.if-is_heard.true _ (c.drop_sound.ensures l big)

pub returns : goal.returns
returns c = λ l g big. takes_acted _ _ _ _ _ c.is_chosen.ensures c.is_heard.ensures l allowance c.if-is_heard.false _ (c.act.ensures l g)
