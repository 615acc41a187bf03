use Rattle.encode.specs.Asked.{task_of}
use Rattle.encode.proofs.Blocks.{Measured}
use Rattle.encode.proofs.Task.measure.Given as goal

abbrev pub invariant-loop-k : goal.invariant-loop-k
invariant-loop-k l = Measured (task_of l.self) l.k l.at
