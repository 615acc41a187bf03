use mathlib.Core.Path.{refl}
use native.Mathlib.Omega.{arith}
use Rattle.paint.proofs.Painting.{painting_start}
use Rattle.rows.proofs.Beside.{beside_next, beside_more}
use Rattle.video1.proofs.Blocks.{pair_value, pair_inside}
use Rattle.video1.proofs.pairs_row.Goals as goal

pub loop-j-init : goal.loop-j-init
loop-j-init g c = painting_start _ _ _ _

pub overflow_add-v : goal.overflow_add-v
overflow_add-v g c = omega (arith, pair_inside _ _ _ _ _ _ c.requires.1 c.requires.2 (omega (arith, c.loop-j-test.true, c.requires.0)) c.pair_source.ensures)

pub bounds-s-at-in-loop-j : goal.bounds-s-at-in-loop-j
bounds-s-at-in-loop-j g c = pair_inside _ _ _ _ _ _ c.requires.1 c.requires.2 (omega (arith, c.loop-j-test.true, c.requires.0)) c.pair_source.ensures

pub put-requires : goal.put-requires
put-requires g c = beside_next c.requires.3 _ c.loop-j-test.true _ c.loop-j.invariant _ _ _ refl refl (pair_value c.args.s.now c.args.at c.args.step c.args.p c.loop-j.j c.wide-f.result c.pair_source.result c.wide-f.ensures.0 c.pair_source.ensures)

pub loop-j-preserved : goal.loop-j-preserved
loop-j-preserved g c = beside_more c.requires.3 _ c.loop-j-test.true _ c.loop-j.invariant _ _ _ refl (pair_value c.args.s.now c.args.at c.args.step c.args.p c.loop-j.j c.wide-f.result c.pair_source.result c.wide-f.ensures.0 c.pair_source.ensures) c.put.ensures
