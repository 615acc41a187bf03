use Rattle.word_patterns.proofs.Bands.{Banding}
use Prim.Native.Nat.{◌+◌, ◌-◌, ◌*◌}
use Rattle.word_patterns.proofs.band.Given as goal

abbrev pub invariant-loop-i : goal.invariant-loop-i
invariant-loop-i g l = Banding g.P.Drawing.plan l.w l.p l.l l.initial.new l.new l.to l.at l.bit l.i

abbrev pub decreases-loop-i : goal.decreases-loop-i
decreases-loop-i g l = l.p + 8 * l.l.rows - l.i
