use Prim.Native.Nat.{suc, ◌+◌, ◌-◌}
use mathlib.Core.Bool.{cond}
use lib.ListN.{length}
use Rattle.begin.proofs.Until.{Passes}
use Rattle.begin.proofs.begin_from.Given as goal

abbrev pub invariant-loop-st : goal.invariant-loop-st
invariant-loop-st l = Passes l.film l.first l.initial.palette l.initial.place l.st l.palette l.place l.storing

abbrev pub decreases-loop-st : goal.decreases-loop-st
decreases-loop-st l = cond l.storing 0 (suc (length l.film)) + (length l.film - l.st.cursor.position)
