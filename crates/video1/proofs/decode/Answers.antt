use native.Mathlib.Omega.{arith}
use Rattle.std.proofs.lemmas.Result.{err_from_is_err_and}
use Rattle.video1.proofs.Frames.{legals, decoded_6, decoded_8, decoded_refused, decoded_taken, decoded_asks}
use Rattle.video1.proofs.decode.Goals as goal

pub returns-then-not-is_legal_size : goal.returns-then-not-is_legal_size
returns-then-not-is_legal_size c = decoded_6 _ _ _ _ _ c.is_legal_size.ensures c.if-not-is_legal_size.true

pub overflow_mul-rows : goal.overflow_mul-rows
overflow_mul-rows c = omega (arith, legals _ _ _ c.is_legal_size.ensures c.if-not-is_legal_size.false)

pub overflow_mul-columns : goal.overflow_mul-columns
overflow_mul-columns c = omega (arith, legals _ _ _ c.is_legal_size.ensures c.if-not-is_legal_size.false)

pub returns-then-pic-rows : goal.returns-then-pic-rows
returns-then-pic-rows c = decoded_8 _ _ _ _ _ c.is_legal_size.ensures c.if-not-is_legal_size.false c.if-pic-rows.true

pub returns-in_err-judge : goal.returns-in_err-judge
returns-in_err-judge c =
    let p = err_from_is_err_and c.from_residual.result c.from_residual.ensures.1 in
    rw (p.1, p.2) (decoded_refused _ _ _ _ _ c.is_legal_size.ensures c.if-not-is_legal_size.false c.if-pic-rows.false _ c.judge.ensures _ c.in_err-judge.was)

pub returns : goal.returns
returns c = decoded_taken _ _ _ _ _ c.is_legal_size.ensures c.if-not-is_legal_size.false c.if-pic-rows.false _ c.judge.ensures _ _ c.in_ok-judge.was _ c.paint_frame.ensures

pub overflow_mul-rows-2 : goal.overflow_mul-rows-2
overflow_mul-rows-2 c = omega (arith, legals _ _ _ c.is_legal_size.ensures c.if-not-is_legal_size.false)

pub overflow_mul-columns-2 : goal.overflow_mul-columns-2
overflow_mul-columns-2 c = omega (arith, legals _ _ _ c.is_legal_size.ensures c.if-not-is_legal_size.false)

pub overflow_mul-rows-3 : goal.overflow_mul-rows-3
overflow_mul-rows-3 c = omega (arith, legals _ _ _ c.is_legal_size.ensures c.if-not-is_legal_size.false)

pub paint_frame-requires : goal.paint_frame-requires
paint_frame-requires c = decoded_asks _ _ _ c.args.pic.now _ c.is_legal_size.ensures c.if-not-is_legal_size.false c.if-pic-rows.false _ c.judge.ensures _ c.in_ok-judge.was
