use Rattle.paint.proofs.Painting.{square_below}
use Rattle.choice.proofs.Square.pixel.Goals as goal

pub bounds-self-raster_index : goal.bounds-self-raster_index
bounds-self-raster_index c = square_below _ _ _ _ _ c.requires.0 c.requires.1 _ c.raster_index.ensures
