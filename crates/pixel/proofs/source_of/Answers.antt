use mathlib.Core.Path.{refl}
use native.Mathlib.Omega.{arith}
use Rattle.block.specs.declared.Picture.TheVariants.{Last, New, Oldest}
use Rattle.block.specs.Block.{one, two, four, eight}
use Rattle.block.proofs.Codes.{kind_0, kind_2, kind_3, kind_7, kind_8, kind_9, kind_A, kind_B, kind_C, kind_D, kind_E}
use Rattle.pixel.proofs.Sources.{copied_asked, copied_code, form_asked, cell_few, same_source, oldest_source, copied_source, last_source, form_source_is, cell_source_is}
use Rattle.pixel.proofs.source_of.Goals as goal

pub copied_index-requires : goal.copied_index-requires
copied_index-requires c = copied_asked _ _ _ _ _ _ _ _ _ _ c.requires (omega (arith, c.in-2.is)) (copied_code c.args.deep _ (omega (arith, c.in-2.is))) c.copied_vector-v.ensures.0 c.copied_vector-v.ensures.1

pub copied_index-requires-in-3 : goal.copied_index-requires-in-3
copied_index-requires-in-3 c = copied_asked _ _ _ _ _ _ _ _ _ _ c.requires (omega (arith, c.in-3.is)) (copied_code c.args.deep _ (omega (arith, c.in-3.is))) c.copied_vector-v-in-3.ensures.0 c.copied_vector-v-in-3.ensures.1

pub copied_index-requires-in-4 : goal.copied_index-requires-in-4
copied_index-requires-in-4 c = copied_asked _ _ _ _ _ _ _ _ _ _ c.requires (omega arith) (copied_code c.args.deep _ (omega arith)) c.copied_vector-v-in-4.ensures.0 c.copied_vector-v-in-4.ensures.1

pub form_source-requires : goal.form_source-requires
form_source-requires c = form_asked _ _ _ _ _ _ _ _ _ _ c.requires (kind_7 _ _ _ _ _ c.in-7.is c.form_of_7.ensures)

pub form_source-requires-in-8 : goal.form_source-requires-in-8
form_source-requires-in-8 c = form_asked _ _ _ _ _ _ _ _ _ _ c.requires (kind_8 _ _ _ _ _ c.in-8.is c.form_of_8.ensures)

pub form_source-requires-in-9 : goal.form_source-requires-in-9
form_source-requires-in-9 c = form_asked _ _ _ _ _ _ _ _ _ _ c.requires (kind_9 _ _ _ _ _ c.in-9.is c.form_of_9.ensures)

pub form_source-requires-in-10 : goal.form_source-requires-in-10
form_source-requires-in-10 c = form_asked _ _ _ _ _ _ _ _ _ _ c.requires (kind_A _ _ _ _ _ c.in-10.is c.form_of_a.ensures)

pub colour_start-requires : goal.colour_start-requires
colour_start-requires c = cell_few _ _ _ (one, refl) (omega (arith, c.requires.at.pixel)) c.cell_source.ensures

pub colour_start-requires-in-12 : goal.colour_start-requires-in-12
colour_start-requires-in-12 c = cell_few _ _ _ (two, refl) (omega (arith, c.requires.at.pixel)) c.cell_source-in-12.ensures

pub colour_start-requires-in-13 : goal.colour_start-requires-in-13
colour_start-requires-in-13 c = cell_few _ _ _ (four, refl) (omega (arith, c.requires.at.pixel)) c.cell_source-in-13.ensures

pub colour_start-requires-in-14 : goal.colour_start-requires-in-14
colour_start-requires-in-14 c = cell_few _ _ _ (eight, refl) (omega (arith, c.requires.at.pixel)) c.cell_source-in-14.ensures

pub returns-in-0 : goal.returns-in-0
returns-in-0 c = same_source _ _ _ _ _ _ _ Last _ (kind_0 _ _ _ _ c.in-0.is) c.raster_index.ensures

pub returns-in-1 : goal.returns-in-1
returns-in-1 c = oldest_source _ _ _ _ _ _ _ _ _ c.in-1.is c.raster_index-in-1.ensures

pub returns-in-2 : goal.returns-in-2
returns-in-2 c = copied_source _ _ _ _ _ _ _ Oldest _ _ _ _ _ (kind_2 _ _ _ _ c.in-2.is) c.copied_vector-v.ensures.0 c.copied_index.ensures

pub returns-in-3 : goal.returns-in-3
returns-in-3 c = copied_source _ _ _ _ _ _ _ New _ _ _ _ _ (kind_3 _ _ _ _ c.in-3.is) c.copied_vector-v-in-3.ensures.0 c.copied_index-in-3.ensures

pub returns-in-4 : goal.returns-in-4
returns-in-4 c = last_source _ _ _ _ _ _ _ _ _ _ (omega arith) (omega arith) c.copied_vector-v-in-4.ensures.0 c.copied_index-in-4.ensures

pub returns-in-7 : goal.returns-in-7
returns-in-7 c = form_source_is _ _ _ _ _ _ _ _ _ (kind_7 _ _ _ _ _ c.in-7.is c.form_of_7.ensures) c.form_source.ensures

pub returns-in-8 : goal.returns-in-8
returns-in-8 c = form_source_is _ _ _ _ _ _ _ _ _ (kind_8 _ _ _ _ _ c.in-8.is c.form_of_8.ensures) c.form_source-in-8.ensures

pub returns-in-9 : goal.returns-in-9
returns-in-9 c = form_source_is _ _ _ _ _ _ _ _ _ (kind_9 _ _ _ _ _ c.in-9.is c.form_of_9.ensures) c.form_source-in-9.ensures

pub returns-in-10 : goal.returns-in-10
returns-in-10 c = form_source_is _ _ _ _ _ _ _ _ _ (kind_A _ _ _ _ _ c.in-10.is c.form_of_a.ensures) c.form_source-in-10.ensures

pub returns-in-11 : goal.returns-in-11
returns-in-11 c = cell_source_is _ _ _ _ _ _ _ _ _ one (kind_B _ _ _ _ c.in-11.is) c.cell_source.ensures c.colour_start.ensures

pub returns-in-12 : goal.returns-in-12
returns-in-12 c = cell_source_is _ _ _ _ _ _ _ _ _ two (kind_C _ _ _ _ c.in-12.is) c.cell_source-in-12.ensures c.colour_start-in-12.ensures

pub returns-in-13 : goal.returns-in-13
returns-in-13 c = cell_source_is _ _ _ _ _ _ _ _ _ four (kind_D _ _ _ _ c.in-13.is) c.cell_source-in-13.ensures c.colour_start-in-13.ensures

pub returns-in-14 : goal.returns-in-14
returns-in-14 c = cell_source_is _ _ _ _ _ _ _ _ _ eight (kind_E _ _ _ _ c.in-14.is) c.cell_source-in-14.ensures c.colour_start-in-14.ensures
