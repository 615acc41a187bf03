use native.Mathlib.Omega.{arith}
use Rattle.std.proofs.lemmas.Result.{err_from_is_err_and}
use Rattle.strip.proofs.Walking.{going_start, pass_end, pass_past, pass_scratched, chunk_ends, chunk_asks, pass_closed, going_on}
use Rattle.strip.proofs.walk.Goals as goal

pub loop-end-init : goal.loop-end-init
loop-end-init c = going_start _ _ _ _ c.requires

pub returns-in-FilmEnd : goal.returns-in-FilmEnd
returns-in-FilmEnd c = pass_end _ _ _ _ c.requires _ _ _ c.loop-end.invariant c.in-FilmEnd.ensures

pub returns-in-PastEnd : goal.returns-in-PastEnd
returns-in-PastEnd c = pass_past _ _ _ _ c.requires _ _ _ c.loop-end.invariant c.in-PastEnd.ensures

pub returns-in_err-closed-in-ChunkTo : goal.returns-in_err-closed-in-ChunkTo
returns-in_err-closed-in-ChunkTo c = let p = err_from_is_err_and c.from_residual.result c.from_residual.ensures.1 in rw (p.1, p.2) (pass_scratched _ _ _ _ c.requires _ _ _ c.loop-end.invariant _ _ c.in-ChunkTo.ensures _ c.in_err-closed-in-ChunkTo.was)

pub strip_chunk-to-requires : goal.strip_chunk-to-requires
strip_chunk-to-requires c = chunk_asks _ _ _ _ c.requires _ _ _ c.loop-end.invariant _ _ c.in-ChunkTo.ensures _ c.in_ok-closed-in-ChunkTo.was

pub overflow_add-to : goal.overflow_add-to
overflow_add-to c = omega (arith, c.loop-end.invariant.few, chunk_ends _ _ _ _ c.requires _ _ _ c.loop-end.invariant _ _ c.in-ChunkTo.ensures, c.strip_chunk-to.ensures.upper_bound)

pub returns-then-closed : goal.returns-then-closed
returns-then-closed c = pass_closed _ _ _ _ c.requires _ _ _ c.loop-end.invariant _ _ c.in-ChunkTo.ensures _ c.in_ok-closed-in-ChunkTo.was _ _ c.strip_chunk-to.ensures.stored c.if-closed.true

pub loop-end-smaller : goal.loop-end-smaller
loop-end-smaller c = omega (arith, chunk_ends _ _ _ _ c.requires _ _ _ c.loop-end.invariant _ _ c.in-ChunkTo.ensures)

pub loop-end-preserved : goal.loop-end-preserved
loop-end-preserved c = going_on _ _ _ _ c.requires _ _ _ c.loop-end.invariant _ _ c.in-ChunkTo.ensures _ c.in_ok-closed-in-ChunkTo.was _ _ c.strip_chunk-to.ensures.stored c.strip_chunk-to.ensures.upper_bound c.if-closed.false
