use Rattle.whole.proofs.Whole.{none_painted, all_drawable, all_painted, as_many}
use Rattle.whole.proofs.paint_pixels.Goals as goal

pub returns-then-code-eq1 : goal.returns-then-code-eq1
returns-then-code-eq1 g c = as_many _ _ c.requires.plan (none_painted _ _ c.if-code-eq1.true _ _)

pub paint_all-requires-clause-asked : goal.paint_all-requires-clause-asked
paint_all-requires-clause-asked g c = (c.requires.asked.0, all_drawable _ _ _ _ _ _ c.requires.asked.1 c.if-code-eq1.false, c.requires.asked.2)

pub returns : goal.returns
returns g c = as_many _ _ c.requires.plan (all_painted _ _ c.requires.asked.1.known c.if-code-eq1.false _ _ _ c.paint_all.ensures)
