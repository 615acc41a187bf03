use Rattle.std.proofs.lemmas.Result.{err_from_is_err_and}
use Rattle.strip.proofs.Writing.{wrote_refused, wrote_short, header_asks, roomy, wrote}
use native.Mathlib.Omega.{arith}
use Rattle.strip.proofs.write_left.Goals as goal

pub returns-then-room-bytes : goal.returns-then-room-bytes
returns-then-room-bytes c = wrote_short _ _ c.args.room.now c.requires _ _ c.walk.ensures _ c.in_ok-bytes.was c.if-room-bytes.true

pub copy_part-requires : goal.copy_part-requires
copy_part-requires c = (omega arith, omega (arith, c.requires), header_asks _ _ c.args.room.now c.requires _ _ c.walk.ensures _ c.in_ok-bytes.was c.if-room-bytes.false)

pub walk-requires-2 : goal.walk-requires-2
walk-requires-2 c = roomy _ _ c.args.room.now c.requires _ _ c.walk.ensures _ c.in_ok-bytes.was c.if-room-bytes.false _ c.copy_part.ensures

pub returns-in_err-bytes : goal.returns-in_err-bytes
returns-in_err-bytes c = let p = err_from_is_err_and c.from_residual.result c.from_residual.ensures.1 in rw (p.1, p.2) (wrote_refused _ _ c.args.room.now c.requires _ _ c.walk.ensures _ c.in_err-bytes.was)

pub returns : goal.returns
returns c = wrote _ _ c.args.room.now c.requires _ _ c.walk.ensures _ c.in_ok-bytes.was c.if-room-bytes.false _ c.copy_part.ensures _ _ c.walk-2.ensures
