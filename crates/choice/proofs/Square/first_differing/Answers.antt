use Rattle.choice.specs.Asked.{pixels_of}
use Rattle.choice.proofs.Rows.{other_pixel, no_row}
use Rattle.choice.proofs.Square.first_differing.Goals as goal

pub returns-after-rows : goal.returns-after-rows
returns-after-rows c = no_row _ _ c.rows.r _ c.rows.invariant.0 c.rows.invariant.1 c.rows-test.false

pub returns-then-s-j : goal.returns-then-s-j
returns-then-s-j c = other_pixel (pixels_of c.args.self.now) _ _ _ _ _ c.row-s.ensures c.row-t.ensures c.loop-j-test.true c.loop-j.invariant.1 c.rows-test.true c.if-s-j.true
