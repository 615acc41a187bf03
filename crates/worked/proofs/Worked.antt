-- Every marked case holds: one theorem over one list.
-- Assumes nothing.
use mathlib.Core.Path.{◌≡◌, refl}
use mathlib.Core.List.{map}
use Rattle.pattern.specs.Form.{falling, form7, form8}
use Rattle.pattern.specs.Pattern.{colours, cells, part_length, pattern_length, part_start, field_number, field_at, pattern_source}
use Rattle.motion.specs.Motion.{ahead_vector, near_vector, points_inside, raster_index, copied_index}
use Rattle.block.specs.Block.{code_at, kinds, kind_of, data_length, offset_length, is_refused, copy_inside, cell_source, source, fetched}
use Rattle.packet.specs.Packet.{advanced, start_of}
use Rattle.packet.specs.Verdict.{and_then, block_verdict, end_verdict, verdict_from, blocks_verdict, map_fits, legal, legal_size}
use Rattle.stores.specs.Stores.{pixels as pixelStores, stores, following, apply, run, after, count}
use Rattle.stores.specs.Calls.{answered, leave, outcome}
use Rattle.paint.specs.Value.{pixel_count, pixel_value}
use Rattle.draw.specs.Drawing.{size_at, target_at, value_at}
use Rattle.draw.specs.Call.{call_verdict_in, comes}
use Rattle.listed.specs.Store.{applied, each, byte}
use Rattle.palette.specs.Update.{legal as legalStores, verdict as paletteVerdict, verdict_for, on_accept, palette_after}
use Rattle.palette.specs.Gradient.{fits, level, component}
use Rattle.worked.specs.Cases.{Case, values_from, pixels, offset, palette, example, answer, two_halves, cases}

pub worked : map (λ (c : Case). c.given) cases ≡ map (λ (c : Case). c.said) cases
unfolding falling form7 form8 colours cells part_length pattern_length part_start field_number field_at pattern_source ahead_vector near_vector points_inside raster_index copied_index code_at kinds kind_of data_length offset_length is_refused copy_inside cell_source source fetched advanced start_of and_then block_verdict end_verdict verdict_from blocks_verdict map_fits legal legal_size pixelStores stores following apply run after count answered leave outcome pixel_count pixel_value size_at target_at value_at call_verdict_in comes applied each byte legalStores paletteVerdict verdict_for on_accept palette_after fits level component values_from pixels offset palette example answer two_halves cases
worked = refl
