use native.Mathlib.Omega.{arith}
use Rattle.listed.proofs.Making.{making_start}
use Rattle.room.proofs.Written.{next_byte, byte_put, all_put, same_count, same_value}
use Rattle.room.proofs.put_same.Goals as goal

pub loop-i-init : goal.loop-i-init
loop-i-init c = making_start _ _ _

pub put_value-requires : goal.put_value-requires
put_value-requires c = next_byte _ _ (omega (arith, same_count c.args.n c.args.value, c.requires)) _ (same_count _ _) _ _ c.loop-i.invariant c.loop-i-test.true _ (same_value _ _ _ c.loop-i-test.true)

pub loop-i-preserved : goal.loop-i-preserved
loop-i-preserved c = byte_put _ _ (omega (arith, same_count c.args.n c.args.value, c.requires)) _ (same_count _ _) _ _ c.loop-i.invariant c.loop-i-test.true _ _ (same_value _ _ _ c.loop-i-test.true) c.put_value.ensures

pub returns : goal.returns
returns c = all_put _ _ (omega (arith, same_count c.args.n c.args.value, c.requires)) _ (same_count _ _) _ _ c.loop-i.invariant c.loop-i-test.false
