use Rattle.choice.specs.Asked.{pixels_of}
use Rattle.choice.proofs.Rows.{turn_next, dither_next, dither_fail, dither_all}
use Rattle.choice.proofs.Square.is_dithered.Goals as goal

pub returns-then-not-is_turn_row : goal.returns-then-not-is_turn_row
returns-then-not-is_turn_row c = dither_fail (pixels_of c.args.self.now) c.loop-r.r c.loop-r-test.true _ c.row.ensures _ _ c.loop-r.invariant.0 c.loop-r.invariant.1 _ c.is_turn_row.ensures c.if-not-is_turn_row.true

pub loop-r-preserved : goal.loop-r-preserved
loop-r-preserved c = (c.loop-r.invariant.1, turn_next (pixels_of c.args.self.now) c.loop-r.r _ c.loop-r.invariant.0, dither_next (pixels_of c.args.self.now) c.loop-r.r c.loop-r-test.true _ c.row.ensures _ _ c.loop-r.invariant.0 c.loop-r.invariant.1 _ c.is_turn_row.ensures c.if-not-is_turn_row.false c.loop-r.invariant.2)

pub returns : goal.returns
returns c = dither_all (pixels_of c.args.self.now) c.loop-r.r c.loop-r.invariant.2 c.loop-r-test.false
