use mathlib.Core.Path.{refl}
use Rattle.paint.proofs.Painting.{painting_start}
use Rattle.rows.proofs.Beside.{beside_next, beside_more}
use Rattle.video1.proofs.one_row.Goals as goal

pub loop-j-init : goal.loop-j-init
loop-j-init g c = painting_start _ _ _ _

pub put-requires : goal.put-requires
put-requires g c = beside_next c.requires.1 _ c.loop-j-test.true _ c.loop-j.invariant _ _ _ refl refl refl

pub loop-j-preserved : goal.loop-j-preserved
loop-j-preserved g c = beside_more c.requires.1 _ c.loop-j-test.true _ c.loop-j.invariant _ _ _ refl refl c.put.ensures
