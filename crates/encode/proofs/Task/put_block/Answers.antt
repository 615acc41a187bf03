use mathlib.Core.Path.{ap, ◌∙◌}
use native.Mathlib.Omega.{arith}
use Rattle.room.specs.Room.{written}
use Rattle.choice.specs.Choice.{length_by, data_by}
use Rattle.encode.specs.Encode.{block_in}
use Rattle.encode.specs.Asked.{task_of, blocks}
use Rattle.encode.proofs.Blocks.{block_way_lem, block_none, none_written}
use Rattle.encode.proofs.Task.put_block.Goals as goal

pub returns-then-self-k : goal.returns-then-self-k
returns-then-self-k c = (block_none (task_of c.args.self.now) (blocks c.args.self.now) c.args.k c.if-self-k.true, none_written (block_in c.args.self.now.wanted.now c.args.self.now.columns c.args.k) _)

pub put_part-requires : goal.put_part-requires
put_part-requires c = (c.square-s.ensures.wanted, omega (arith, ap length_by (block_way_lem (task_of c.args.self.now) (blocks c.args.self.now) c.args.k _ c.if-self-k.false (c.way-way.ensures ∙ c.square-s.ensures.way)), c.requires.1))

pub returns : goal.returns
returns c = ((block_way_lem (task_of c.args.self.now) (blocks c.args.self.now) c.args.k _ c.if-self-k.false (c.way-way.ensures ∙ c.square-s.ensures.way)), c.put_part.ensures ∙ ap (λ f. written (data_by c.way-way.result f) c.args.room.now) c.square-s.ensures.is)
