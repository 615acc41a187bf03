use Rattle.listed.proofs.Order.{due_inside}
use Rattle.palette.proofs.put.Goals as goal

pub bounds-palette-index : goal.bounds-palette-index
bounds-palette-index g c = due_inside _ _ _ _ _ c.requires.1
