use Rattle.rows.proofs.Colours.{cell_there}
use Rattle.rows.proofs.cell_colour.Goals as goal

pub colour-requires : goal.colour-requires
colour-requires g c = cell_there _ _ _ _ _ _ g.met.T.Pixel.wide c.requires.0 c.requires.2 c.requires.1 c.cell_source.ensures
