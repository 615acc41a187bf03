use Rattle.std.proofs.lemmas.Result.{err_from_is_err_and}
use Rattle.salvage.proofs.Writing.{header_there, refused_1, all_told}
use Rattle.salvage.proofs.salvage.Goals as goal

pub save-requires : goal.save-requires
save-requires c = header_there _ _ c.«open».ensures _ c.in_ok-open.was

pub returns-in_err-open : goal.returns-in_err-open
returns-in_err-open c =
    let t = refused_1 _ c.args.room.now c.args.list.now _ c.«open».ensures _ c.in_err-open.was in
    let p = err_from_is_err_and c.from_residual.result c.from_residual.ensures.1 in
    record { result_value = rw (p.1, p.2) t.0; room_after = t.1; list_after = t.2 }

pub returns : goal.returns
returns c = let t = all_told _ c.args.room.now c.args.list.now _ c.«open».ensures _ c.in_ok-open.was _ _ _ c.save.ensures in record { result_value = t.0; room_after = t.1; list_after = t.2 }
