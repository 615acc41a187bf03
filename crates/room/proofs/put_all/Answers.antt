use mathlib.Core.Path.{refl}
use Rattle.listed.proofs.Making.{making_start}
use Rattle.room.proofs.Written.{next_byte, byte_put, all_put}
use Rattle.room.proofs.put_all.Goals as goal

pub loop-i-init : goal.loop-i-init
loop-i-init c = making_start _ _ _

pub put_byte-requires : goal.put_byte-requires
put_byte-requires c = record { i_in_bounds = c.loop-i-test.true; next_byte = next_byte _ _ c.requires _ refl _ _ c.loop-i.invariant c.loop-i-test.true _ refl }

pub loop-i-preserved : goal.loop-i-preserved
loop-i-preserved c = byte_put _ _ c.requires _ refl _ _ c.loop-i.invariant c.loop-i-test.true _ _ refl c.put_byte.ensures

pub returns : goal.returns
returns c = all_put _ _ c.requires _ refl _ _ c.loop-i.invariant c.loop-i-test.false
