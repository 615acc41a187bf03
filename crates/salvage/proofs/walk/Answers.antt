use mathlib.Core.Path.{◌∙◌}
use native.Mathlib.Omega.{arith}
use Rattle.salvage.proofs.Passing.{saving_start, pass_end, pass_past, chunk_ends, lost_room, saving_lost, kept_room, pass_closed, saving_kept}
use Rattle.salvage.proofs.walk.Goals as goal

pub loop-end-init : goal.loop-end-init
loop-end-init c = saving_start _ _ _ _ c.requires

pub returns-in-FilmEnd : goal.returns-in-FilmEnd
returns-in-FilmEnd c = rw c.stopped.ensures (pass_end _ _ _ _ c.requires _ _ _ _ _ _ c.loop-end.invariant c.in-FilmEnd.ensures)

pub returns-in-PastEnd : goal.returns-in-PastEnd
returns-in-PastEnd c = rw c.stopped-in-PastEnd.ensures (pass_past _ _ _ _ c.requires _ _ _ _ _ _ c.loop-end.invariant c.in-PastEnd.ensures)

pub overflow_sub-end : goal.overflow_sub-end
overflow_sub-end c = omega (arith, chunk_ends _ _ _ _ c.requires _ _ _ _ _ _ c.loop-end.invariant _ _ c.in-ChunkTo-default-Err.ensures)

pub leave_out-requires : goal.leave_out-requires
leave_out-requires c = lost_room _ _ _ _ c.requires _ _ _ _ _ _ c.loop-end.invariant _ _ c.in-ChunkTo-default-Err.ensures c.in-ChunkTo-default-Err.r c.in-ChunkTo-default-Err.field-1-is _ (c.wide-number.ensures.0 ∙ c.number.ensures)

pub overflow_sub-w : goal.overflow_sub-w
overflow_sub-w c = omega (arith, chunk_ends _ _ _ _ c.requires _ _ _ _ _ _ c.loop-end.invariant _ _ c.in-ChunkTo-default-Err.ensures)

pub loop-end-smaller-in-ChunkTo-default-Err : goal.loop-end-smaller-in-ChunkTo-default-Err
loop-end-smaller-in-ChunkTo-default-Err c = omega (arith, chunk_ends _ _ _ _ c.requires _ _ _ _ _ _ c.loop-end.invariant _ _ c.in-ChunkTo-default-Err.ensures)

pub loop-end-preserved-in-ChunkTo-default-Err : goal.loop-end-preserved-in-ChunkTo-default-Err
loop-end-preserved-in-ChunkTo-default-Err c = saving_lost _ _ _ _ c.requires _ _ _ _ _ _ c.loop-end.invariant _ _ c.in-ChunkTo-default-Err.ensures c.in-ChunkTo-default-Err.r c.in-ChunkTo-default-Err.field-1-is _ (c.wide-number.ensures.0 ∙ c.number.ensures) _ c.leave_out.ensures

pub keep_part-requires : goal.keep_part-requires
keep_part-requires c = (omega (arith, chunk_ends _ _ _ _ c.requires _ _ _ _ _ _ c.loop-end.invariant _ _ c.in-ChunkTo-default-Ok.ensures), (chunk_ends _ _ _ _ c.requires _ _ _ _ _ _ c.loop-end.invariant _ _ c.in-ChunkTo-default-Ok.ensures).1, kept_room _ _ _ _ c.requires _ _ _ _ _ _ c.loop-end.invariant _ _ c.in-ChunkTo-default-Ok.ensures c.in-ChunkTo-default-Ok.closed c.in-ChunkTo-default-Ok.field-1-is)

pub overflow_sub-w-in-ChunkTo-default-Ok : goal.overflow_sub-w-in-ChunkTo-default-Ok
overflow_sub-w-in-ChunkTo-default-Ok c = omega (arith, chunk_ends _ _ _ _ c.requires _ _ _ _ _ _ c.loop-end.invariant _ _ c.in-ChunkTo-default-Ok.ensures)

pub overflow_sub-film-then-closed : goal.overflow_sub-film-then-closed
overflow_sub-film-then-closed c = omega (arith, chunk_ends _ _ _ _ c.requires _ _ _ _ _ _ c.loop-end.invariant _ _ c.in-ChunkTo-default-Ok.ensures)

pub returns-then-closed : goal.returns-then-closed
returns-then-closed c = rw c.stopped-then-closed.ensures (pass_closed _ _ _ _ c.requires _ _ _ _ _ _ c.loop-end.invariant _ _ c.in-ChunkTo-default-Ok.ensures c.in-ChunkTo-default-Ok.closed c.in-ChunkTo-default-Ok.field-1-is c.if-closed.true _ c.keep_part.ensures)

pub loop-end-smaller : goal.loop-end-smaller
loop-end-smaller c = omega (arith, chunk_ends _ _ _ _ c.requires _ _ _ _ _ _ c.loop-end.invariant _ _ c.in-ChunkTo-default-Ok.ensures)

pub loop-end-preserved : goal.loop-end-preserved
loop-end-preserved c = saving_kept _ _ _ _ c.requires _ _ _ _ _ _ c.loop-end.invariant _ _ c.in-ChunkTo-default-Ok.ensures c.in-ChunkTo-default-Ok.closed c.in-ChunkTo-default-Ok.field-1-is c.if-closed.false _ c.keep_part.ensures
