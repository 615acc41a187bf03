use Rattle.choice.specs.Asked.{pixels_of}
use Rattle.choice.proofs.Rows.{colours_next, colours_fail, colours_all}
use Rattle.choice.proofs.Square.has_two_colours.Goals as goal

pub returns-then-not-is_colours_row : goal.returns-then-not-is_colours_row
returns-then-not-is_colours_row c = colours_fail (pixels_of c.args.self.now) c.loop-r.r c.loop-r-test.true _ c.row.ensures _ _ c.pixel-z.ensures c.other_colour-o.ensures _ c.is_colours_row.ensures c.if-not-is_colours_row.true

pub loop-r-preserved : goal.loop-r-preserved
loop-r-preserved c = colours_next (pixels_of c.args.self.now) c.loop-r.r c.loop-r-test.true _ c.row.ensures _ _ c.pixel-z.ensures c.other_colour-o.ensures _ c.is_colours_row.ensures c.if-not-is_colours_row.false c.loop-r.invariant

pub returns : goal.returns
returns c = colours_all (pixels_of c.args.self.now) c.loop-r.r c.loop-r.invariant c.loop-r-test.false
