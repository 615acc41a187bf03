use Rattle.strip.proofs.Keeping.{puts_head}
use Rattle.strip.proofs.put_head.Goals as goal

pub returns : goal.returns
returns c = puts_head _ c.args.room.now c.put_run.new.room c.put_run-2.new.room _ c.args.to c.args.e c.args.n c.requires.1 c.requires.2 c.put_run.ensures c.put_run-2.ensures c.copy_part.ensures
