use Rattle.room.proofs.Written.{writing_start}
use Rattle.choice.specs.Asked.{pixels_of}
use Rattle.encode.proofs.Parts.{pair_more, pair_all}
use Rattle.encode.proofs.put_pair.Goals as goal

pub loop-j-init : goal.loop-j-init
loop-j-init c = writing_start _

pub loop-j-preserved : goal.loop-j-preserved
loop-j-preserved c = pair_more (pixels_of c.args.s.now) c.args.side c.args.first c.args.second c.args.n _ _ _ c.loop-j.j _ c.loop-j.invariant c.loop-j-test.true c.requires.3 c.pair_byte.ensures c.put.ensures

pub returns : goal.returns
returns c = pair_all (pixels_of c.args.s.now) c.args.side c.args.first c.args.second c.args.n _ _ c.loop-j.j c.loop-j.invariant c.loop-j-test.false
