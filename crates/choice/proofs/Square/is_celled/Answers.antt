use Rattle.choice.specs.Asked.{pixels_of}
use Rattle.choice.proofs.Rows.{cells_next, cells_fail, cells_all}
use Rattle.choice.proofs.Square.is_celled.Goals as goal

pub returns-then-not-is_cells_row : goal.returns-then-not-is_cells_row
returns-then-not-is_cells_row c = cells_fail (pixels_of c.args.self.now) c.loop-r.r c.loop-r-test.true _ c.row.ensures _ _ c.requires.0 _ c.row-in-loop-r.ensures _ c.is_cells_row.ensures c.if-not-is_cells_row.true

pub loop-r-preserved : goal.loop-r-preserved
loop-r-preserved c = cells_next (pixels_of c.args.self.now) c.loop-r.r c.loop-r-test.true _ c.row.ensures _ _ c.requires.0 _ c.row-in-loop-r.ensures _ c.is_cells_row.ensures c.if-not-is_cells_row.false c.loop-r.invariant

pub returns : goal.returns
returns c = cells_all (pixels_of c.args.self.now) c.args.side c.loop-r.r c.loop-r.invariant c.loop-r-test.false
