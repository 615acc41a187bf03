use mathlib.Core.Path.{refl, ap}
use Prim.Native.Nat.{ℕ}
use native.Mathlib.Omega.{arith}
use lib.ListN.{get_or}
use Rattle.pattern.proofs.Bounds.{row}
use Rattle.paint.proofs.Painting.{painting_start, pattern_inside}
use Rattle.rows.proofs.Rows.{in_row}
use Rattle.rows.proofs.Beside.{beside_next, beside_more}
use Rattle.rows.proofs.pattern_row.Goals as goal

pub loop-j-init : goal.loop-j-init
loop-j-init g c = (row c.requires.0, painting_start _ _ _ _)

pub bounds-s-source : goal.bounds-s-source
bounds-s-source g c = pattern_inside _ _ _ _ _ c.requires.0 (in_row _ _ (omega (arith, c.requires.2.listed, g.P.Drawing.few 0)) (omega (arith, c.loop-j-test.true, c.loop-j.invariant.0))) c.requires.1 c.source.ensures

pub put-requires : goal.put-requires
put-requires g c = beside_next c.requires.2 _ (omega (arith, c.loop-j-test.true, c.loop-j.invariant.0)) _ c.loop-j.invariant.1 _ _ _ refl refl (ap (λ (n : ℕ). get_or c.args.s.now n 0) c.source.ensures)

pub loop-j-preserved : goal.loop-j-preserved
loop-j-preserved g c = (c.loop-j.invariant.0, beside_more c.requires.2 _ (omega (arith, c.loop-j-test.true, c.loop-j.invariant.0)) _ c.loop-j.invariant.1 _ _ _ refl (ap (λ (n : ℕ). get_or c.args.s.now n 0) c.source.ensures) c.put.ensures)
