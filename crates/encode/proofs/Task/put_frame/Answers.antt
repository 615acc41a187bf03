use Prim.Native.Nat.{◌+◌, ◌*◌}
use native.Mathlib.Omega.{arith}
use Rattle.room.proofs.Written.{writing_start}
use Rattle.encode.specs.Asked.{task_of, blocks}
use Rattle.encode.proofs.Blocks.{writing_none, writing_two, block_start, block_fits, block_written, written_blocks, nibble_of, map_more, map_all}
use Rattle.encode.proofs.Task.put_frame.Goals as goal

pub loop-i-init : goal.loop-i-init
loop-i-init c = (writing_start _, writing_none (task_of c.args.self.now) (blocks c.args.self.now) _)

pub put_block-low-requires : goal.put_block-low-requires
put_block-low-requires c = (c.requires.0, block_fits (task_of c.args.self.now) (blocks c.args.self.now) (2 * c.loop-i.i) _ _ _ c.loop-i.invariant.1 c.requires.2)

pub slice_bounds-put_block-count-in-loop-i : goal.slice_bounds-put_block-count-in-loop-i
slice_bounds-put_block-count-in-loop-i c = block_start (task_of c.args.self.now) (blocks c.args.self.now) (2 * c.loop-i.i + 1) _ _ _ (block_written (task_of c.args.self.now) (blocks c.args.self.now) (2 * c.loop-i.i) _ _ _ c.loop-i.invariant.1 c.requires.2 _ _ _ c.put_block-low.ensures.0 c.length-at.ensures c.put_block-low.ensures.1) c.requires.2

pub slice_bounds-put_block-start-in-loop-i : goal.slice_bounds-put_block-start-in-loop-i
slice_bounds-put_block-start-in-loop-i c = omega (arith, block_start (task_of c.args.self.now) (blocks c.args.self.now) (2 * c.loop-i.i + 1) _ _ _ (block_written (task_of c.args.self.now) (blocks c.args.self.now) (2 * c.loop-i.i) _ _ _ c.loop-i.invariant.1 c.requires.2 _ _ _ c.put_block-low.ensures.0 c.length-at.ensures c.put_block-low.ensures.1) c.requires.2)

pub put_block-high-requires : goal.put_block-high-requires
put_block-high-requires c = (c.requires.0, block_fits (task_of c.args.self.now) (blocks c.args.self.now) (2 * c.loop-i.i + 1) _ _ _ (block_written (task_of c.args.self.now) (blocks c.args.self.now) (2 * c.loop-i.i) _ _ _ c.loop-i.invariant.1 c.requires.2 _ _ _ c.put_block-low.ensures.0 c.length-at.ensures c.put_block-low.ensures.1) c.requires.2)

pub loop-i-preserved : goal.loop-i-preserved
loop-i-preserved c = (map_more (task_of c.args.self.now) (blocks c.args.self.now) c.loop-i.i _ _ _ _ _ c.loop-i.invariant.0 c.loop-i-test.true c.requires.1 (nibble_of (task_of c.args.self.now) (blocks c.args.self.now) (2 * c.loop-i.i) _ _ c.put_block-low.ensures.0 c.code.ensures).0 (nibble_of (task_of c.args.self.now) (blocks c.args.self.now) (2 * c.loop-i.i + 1) _ _ c.put_block-high.ensures.0 c.code-in-loop-i.ensures).0 c.put.ensures, writing_two (task_of c.args.self.now) (blocks c.args.self.now) c.loop-i.i _ _ _ (block_written (task_of c.args.self.now) (blocks c.args.self.now) (2 * c.loop-i.i + 1) _ _ _ (block_written (task_of c.args.self.now) (blocks c.args.self.now) (2 * c.loop-i.i) _ _ _ c.loop-i.invariant.1 c.requires.2 _ _ _ c.put_block-low.ensures.0 c.length-at.ensures c.put_block-low.ensures.1) c.requires.2 _ _ _ c.put_block-high.ensures.0 c.length-at-in-loop-i.ensures c.put_block-high.ensures.1))

pub returns : goal.returns
returns c = (map_all (task_of c.args.self.now) (blocks c.args.self.now) c.loop-i.i _ _ c.loop-i.invariant.0 c.loop-i-test.false, written_blocks (task_of c.args.self.now) (blocks c.args.self.now) (2 * c.loop-i.i) _ _ _ c.loop-i.invariant.1 (omega (arith, c.loop-i-test.false)))
