use Rattle.room.proofs.Written.{writing_start}
use Rattle.choice.specs.Asked.{pixels_of}
use Rattle.encode.proofs.Parts.{cells_more, cells_all}
use Rattle.encode.proofs.put_cells.Goals as goal

pub loop-j-init : goal.loop-j-init
loop-j-init c = writing_start _

pub loop-j-preserved : goal.loop-j-preserved
loop-j-preserved c = cells_more (pixels_of c.args.s.now) c.args.side _ _ _ c.args.n c.loop-j.j _ _ c.requires.2 c.loop-j.invariant c.loop-j-test.true c.requires.3 c.cell_first.ensures.0 c.pixel.ensures c.put.ensures

pub returns : goal.returns
returns c = cells_all (pixels_of c.args.s.now) c.args.side _ _ c.args.n c.loop-j.j c.requires.2 c.loop-j.invariant c.loop-j-test.false
