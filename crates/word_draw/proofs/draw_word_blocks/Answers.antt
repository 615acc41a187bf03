use Prim.Native.Nat.{◌*◌}
use native.Mathlib.Omega.{arith}
use Rattle.draw.proofs.Going.{going_start, going_end}
use Rattle.word_draw.proofs.Words.{word_canvas, word_right, word_below, word_drawable, word_stop, word_block}
use Rattle.word_draw.proofs.draw_word_blocks.Goals as goal
use Rattle.word_draw.proofs.draw_word_blocks.Goals.{then-x-w, else-x-w}

pub loop-k-init : goal.loop-k-init
loop-k-init c = going_start _ _ _ _ _ _ _ _ _ c.requires.accepted c.data_positions-start.ensures

pub paint_word_part-requires : goal.paint_word_part-requires
paint_word_part-requires c = (word_drawable _ _ _ _ _ _ _ _ _ _ _ _ _ _ _ _ _ _ c.loop-k.invariant c.requires c.loop-k-test.true _ c.code_at-code.ensures.0 _ c.if-left-le64.true, word_canvas _ _ _ _ _ _ _ _ _ _ _ _ _ _ _ _ _ _ c.loop-k.invariant c.requires c.loop-k-test.true)

pub returns-then-left-le64 : goal.returns-then-left-le64
returns-then-left-le64 c = word_stop _ _ _ _ _ _ _ _ _ _ _ _ _ _ _ _ _ _ c.loop-k.invariant c.requires c.loop-k-test.true _ c.code_at-code.ensures.0 _ c.if-left-le64.true c.paint_word_part.ensures

pub paint_word_and_pass-requires-clause-asked : goal.paint_word_and_pass-requires-clause-asked
paint_word_and_pass-requires-clause-asked c = (8 * c.args.rows, word_drawable _ _ _ _ _ _ _ _ _ _ _ _ _ _ _ _ _ _ c.loop-k.invariant c.requires c.loop-k-test.true _ c.code_at-code.ensures.0 _ (omega arith), word_canvas _ _ _ _ _ _ _ _ _ _ _ _ _ _ _ _ _ _ c.loop-k.invariant c.requires c.loop-k-test.true)

pub loop-k-preserved : goal.loop-k-preserved
loop-k-preserved c =
    word_block _ _ _ _ _ _ _ _ _ _ _ _ _ _ _ _ _ _ c.loop-k.invariant c.requires c.loop-k-test.true _ c.code_at-code.ensures.0 _ _ _ _ (c.data_length-at.ensures _) (c.offset_length-aside.ensures _ _) c.if-left-le64.false c.paint_word_and_pass.ensures.pixels c.paint_word_and_pass.ensures.place _ _
    (elim c.if-x-w.branch [
      | then-x-w w ↦ rw (w.x-is, w.y-is) (word_below _ _ _ _ _ _ _ _ _ _ _ _ _ _ _ _ _ _ c.loop-k.invariant c.requires c.loop-k-test.true w.if-x-w.true)
      | else-x-w w ↦ rw (w.x-is, w.y-is) (word_right _ _ _ _ _ _ _ _ _ _ _ _ _ _ _ _ _ _ c.loop-k.invariant c.requires c.loop-k-test.true w.if-x-w.false)
    ])

pub returns : goal.returns
returns c = going_end _ _ _ _ _ _ _ _ _ _ _ _ _ c.loop-k.invariant c.loop-k-test.false
