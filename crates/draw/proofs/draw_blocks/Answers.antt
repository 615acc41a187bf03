use mathlib.Core.Path.{refl}
use mathlib.Core.List.{[]}
use Prim.Native.Nat.{◌*◌}
use native.Mathlib.Omega.{arith}
use Rattle.block.proofs.Codes.{offset_flat}
use Rattle.packet.proofs.Walk.{found_flat}
use Rattle.draw.proofs.Going.{going_start, going_end, canvas, drawable, right, below, going_stop, going_block}
use Rattle.draw.proofs.draw_blocks.Goals as goal
use Rattle.draw.proofs.draw_blocks.Goals.{then-x-w, else-x-w}

pub loop-k-init : goal.loop-k-init
loop-k-init c = going_start _ _ _ _ _ 0 _ _ _ c.requires (found_flat _ _ _ _ c.data_position-at.ensures)

pub paint_part-requires : goal.paint_part-requires
paint_part-requires c = (drawable _ _ _ _ _ _ _ _ _ _ _ _ _ c.loop-k.invariant c.requires c.loop-k-test.true _ _ [] c.code_at-code.ensures.0 c.data_from-s.ensures refl _ (omega arith), canvas _ _ _ _ _ _ _ _ _ _ _ _ _ c.loop-k.invariant c.requires c.loop-k-test.true _ _ [] c.code_at-code.ensures.0 c.data_from-s.ensures refl)

pub returns-then-left-due : goal.returns-then-left-due
returns-then-left-due c = going_stop _ _ _ _ _ _ _ _ _ _ _ _ _ c.loop-k.invariant c.requires c.loop-k-test.true _ _ [] c.code_at-code.ensures.0 c.data_from-s.ensures refl _ _ c.pixel_count-due.ensures c.if-left-due.true c.paint_part.ensures

pub paint_and_pass-requires-clause-asked : goal.paint_and_pass-requires-clause-asked
paint_and_pass-requires-clause-asked c = (8 * c.args.rows, drawable _ _ _ _ _ _ _ _ _ _ _ _ _ c.loop-k.invariant c.requires c.loop-k-test.true _ _ [] c.code_at-code.ensures.0 c.data_from-s.ensures refl _ (omega arith), canvas _ _ _ _ _ _ _ _ _ _ _ _ _ c.loop-k.invariant c.requires c.loop-k-test.true _ _ [] c.code_at-code.ensures.0 c.data_from-s.ensures refl)

pub loop-k-preserved : goal.loop-k-preserved
loop-k-preserved c =
    going_block _ _ _ _ _ _ _ _ _ _ _ _ _ c.loop-k.invariant c.requires c.loop-k-test.true _ _ [] c.code_at-code.ensures.0 c.data_from-s.ensures refl _ _ 0 _ _ c.pixel_count-due.ensures (c.data_length-at.ensures []) (offset_flat _ [] _ c.code_at-code.ensures.1) c.if-left-due.false c.paint_and_pass.ensures.pixels c.paint_and_pass.ensures.place _ _
    (elim c.if-x-w.branch [
      | then-x-w w ↦ rw (w.x-is, w.y-is) (below _ _ _ _ _ _ _ _ _ _ _ _ _ c.loop-k.invariant c.requires c.loop-k-test.true _ _ [] c.code_at-code.ensures.0 c.data_from-s.ensures refl w.if-x-w.true)
      | else-x-w w ↦ rw (w.x-is, w.y-is) (right _ _ _ _ _ _ _ _ _ _ _ _ _ c.loop-k.invariant c.requires c.loop-k-test.true _ _ [] c.code_at-code.ensures.0 c.data_from-s.ensures refl w.if-x-w.false)
    ])

pub returns : goal.returns
returns c = going_end _ _ _ _ _ _ _ _ _ _ _ _ _ c.loop-k.invariant c.loop-k-test.false
