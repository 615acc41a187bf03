use Rattle.choice.specs.Asked.{pixels_of}
use Rattle.encode.proofs.Parts.{coarse_put, fine_put}
use Rattle.encode.proofs.put_part.Goals as goal

pub returns-in-Coarse : goal.returns-in-Coarse
returns-in-Coarse c = coarse_put (pixels_of c.args.s.now) _ _ c.pair_of-low.ensures.0 c.pair_of-low.ensures.1 c.args.way _ _ c.in-Coarse.is c.put_pair.ensures

pub returns-in-Fine : goal.returns-in-Fine
returns-in-Fine c = fine_put (pixels_of c.args.s.now) _ _ c.pair_of-low-in-Fine.ensures.0 c.pair_of-low-in-Fine.ensures.1 c.args.way _ _ c.in-Fine.is c.put_pair-in-Fine.ensures
