use native.Mathlib.Omega.{arith}
use Rattle.origin.specs.Trace.{block_at, pixel_at}
use Rattle.origin.proofs.Inside.{readable, source_is, byte_there}
use Rattle.origin.proofs.Answers.{found_byte, found_pixel}
use Rattle.origin.proofs.trace_inside.Goals as goal

pub source_of-from-requires : goal.source_of-from-requires
unfolding block_at pixel_at
source_of-from-requires c = readable _ _ _ c.requires _ _ _ _ c.code_at-code.ensures.0 c.data_position-at.ensures c.part_from-s.ensures

pub overflow_add-origin : goal.overflow_add-origin
unfolding block_at pixel_at
overflow_add-origin c = omega (arith, byte_there _ _ _ c.requires _ _ _ _ c.code_at-code.ensures.0 c.data_position-at.ensures c.part_from-s.ensures _ c.source_of-from.ensures _ c.in-Data.is, c.well_formed.1.1.1.0)

pub returns-in-Data : goal.returns-in-Data
unfolding block_at pixel_at
returns-in-Data c = found_byte _ _ _ _ _ _ _ c.code_at-code.ensures.0 c.data_position-at.ensures (source_is _ _ _ c.requires _ _ _ _ c.code_at-code.ensures.0 c.data_position-at.ensures c.part_from-s.ensures _ c.source_of-from.ensures) c.in-Data.is

pub returns-in-Copied : goal.returns-in-Copied
unfolding block_at pixel_at
returns-in-Copied c = found_pixel _ _ _ _ _ _ _ c.code_at-code.ensures.0 c.data_position-at.ensures (source_is _ _ _ c.requires _ _ _ _ c.code_at-code.ensures.0 c.data_position-at.ensures c.part_from-s.ensures _ c.source_of-from.ensures) _ _ c.in-Copied.is c.picture_origin-origin.ensures
