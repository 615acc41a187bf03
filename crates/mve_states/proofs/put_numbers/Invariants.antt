use Rattle.std.proofs.Common.{◌≡◌}
use lib.Seq.{paste}
use Rattle.mve_states.proofs.put_numbers.Given as goal

abbrev pub invariant-loop-i : goal.invariant-loop-i
invariant-loop-i l = l.out ≡ paste l.initial.out 8 l.from l.i
