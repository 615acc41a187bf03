use Rattle.paint.specs.Value.{flat}
use Rattle.packet.specs.Packet.{packet}
use Rattle.draw.proofs.Going.{Going}
use Rattle.draw.proofs.draw_blocks.Given as goal

abbrev pub invariant-loop-k : goal.invariant-loop-k
invariant-loop-k l = Going (packet l.columns l.rows l.map l.data) (flat l.front) l.initial.back l.initial.place l.allowed l.back l.place l.k l.at 0 l.left l.x l.y
