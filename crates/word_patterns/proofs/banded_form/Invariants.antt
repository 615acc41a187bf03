use Rattle.word_patterns.proofs.Bands.{Forming}
use Prim.Native.Nat.{◌-◌}
use Rattle.word_patterns.proofs.banded_form.Given as goal

abbrev pub invariant-loop-p : goal.invariant-loop-p
invariant-loop-p g l = Forming l.fn.form l.l g.P.Drawing.plan l.w l.x l.y l.initial.new l.new l.to l.part l.part l.p

abbrev pub decreases-loop-p : goal.decreases-loop-p
decreases-loop-p g l = 64 - l.p
