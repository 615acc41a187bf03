use mathlib.Core.Path.{◌∙◌}
use Rattle.encode.specs.Asked.{task_of}
use Rattle.encode.proofs.Blocks.{measured_none, measured_more}
use Rattle.encode.proofs.Task.measure.Goals as goal

pub loop-k-init : goal.loop-k-init
loop-k-init c = measured_none (task_of c.args.self.now)

pub loop-k-preserved : goal.loop-k-preserved
loop-k-preserved c = (measured_more (task_of c.args.self.now) c.loop-k.k _ _ _ c.loop-k.invariant (c.way.ensures ∙ c.square.ensures.way) c.length-at.ensures).0
