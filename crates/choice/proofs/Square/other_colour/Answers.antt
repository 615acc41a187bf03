use Rattle.choice.specs.Asked.{pixels_of}
use Rattle.choice.proofs.Rows.{other_found, other_none}
use Rattle.choice.proofs.Square.other_colour.Goals as goal

pub returns-then-v-z : goal.returns-then-v-z
returns-then-v-z c = other_found (pixels_of c.args.self.now) _ c.pixel-z.ensures c.loop-i.i _ c.loop-i.invariant c.loop-i-test.true c.pixel-v.ensures c.if-v-z.true

pub returns : goal.returns
returns c = other_none (pixels_of c.args.self.now) _ c.pixel-z.ensures c.loop-i.i c.loop-i.invariant c.loop-i-test.false
