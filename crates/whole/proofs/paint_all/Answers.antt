use Rattle.block.specs.declared.Picture.TheVariants.{Last}
use mathlib.Core.Path.{refl}
use native.Mathlib.Omega.{arith}
use Rattle.block.specs.Block.{one, two, four, eight, celled, dithered, data_length}
use Rattle.block.proofs.Codes.{kind_7, kind_8, kind_9, kind_A, kind_B, kind_C, kind_D, kind_E, kind_F}
use Rattle.paint.specs.Value.{flat}
use Rattle.whole.proofs.Families.{there, same_kind, same_block, form_block, cell_block, raw_block, dither_block}
use Rattle.whole.proofs.paint_all.Goals as goal

pub whole_copied-requires-clause-block : goal.whole_copied-requires-clause-block
whole_copied-requires-clause-block g c = same_block c.requires.asked.1 (flat c.args.front.now) c.requires.plan Last (same_kind c.requires.asked.1 c.if-code-lt2.true (omega arith))

pub whole_form-requires-clause-block : goal.whole_form-requires-clause-block
whole_form-requires-clause-block g c = form_block c.requires.asked.1 (flat c.args.front.now) c.requires.plan _ (kind_7 _ _ _ _ _ c.in-7.is c.form_of_7.ensures)

pub whole_form-requires-clause-there : goal.whole_form-requires-clause-there
unfolding data_length
whole_form-requires-clause-there g c = there c.requires.asked.1 _ (kind_7 _ _ _ _ _ c.in-7.is c.form_of_7.ensures)

pub whole_form-requires-in-8-clause-block : goal.whole_form-requires-in-8-clause-block
whole_form-requires-in-8-clause-block g c = form_block c.requires.asked.1 (flat c.args.front.now) c.requires.plan _ (kind_8 _ _ _ _ _ c.in-8.is c.form_of_8.ensures)

pub whole_form-requires-in-8-clause-there : goal.whole_form-requires-in-8-clause-there
unfolding data_length
whole_form-requires-in-8-clause-there g c = there c.requires.asked.1 _ (kind_8 _ _ _ _ _ c.in-8.is c.form_of_8.ensures)

pub whole_form-requires-in-9-clause-block : goal.whole_form-requires-in-9-clause-block
whole_form-requires-in-9-clause-block g c = form_block c.requires.asked.1 (flat c.args.front.now) c.requires.plan _ (kind_9 _ _ _ _ _ c.in-9.is c.form_of_9.ensures)

pub whole_form-requires-in-9-clause-there : goal.whole_form-requires-in-9-clause-there
unfolding data_length
whole_form-requires-in-9-clause-there g c = there c.requires.asked.1 _ (kind_9 _ _ _ _ _ c.in-9.is c.form_of_9.ensures)

pub whole_form-requires-in-10-clause-block : goal.whole_form-requires-in-10-clause-block
whole_form-requires-in-10-clause-block g c = form_block c.requires.asked.1 (flat c.args.front.now) c.requires.plan _ (kind_A _ _ _ _ _ c.in-10.is c.form_of_a.ensures)

pub whole_form-requires-in-10-clause-there : goal.whole_form-requires-in-10-clause-there
unfolding data_length
whole_form-requires-in-10-clause-there g c = there c.requires.asked.1 _ (kind_A _ _ _ _ _ c.in-10.is c.form_of_a.ensures)

pub whole_raw-requires-clause-block : goal.whole_raw-requires-clause-block
whole_raw-requires-clause-block g c = raw_block c.requires.asked.1 (flat c.args.front.now) c.requires.plan (kind_B _ _ _ _ c.in-11.is)

pub whole_raw-requires-clause-there : goal.whole_raw-requires-clause-there
unfolding data_length
whole_raw-requires-clause-there g c = there c.requires.asked.1 (celled one) (kind_B _ _ _ _ c.in-11.is)

pub whole_cells-requires-clause-block : goal.whole_cells-requires-clause-block
whole_cells-requires-clause-block g c = cell_block c.requires.asked.1 (flat c.args.front.now) c.requires.plan two (kind_C _ _ _ _ c.in-12.is)

pub whole_cells-requires-clause-there : goal.whole_cells-requires-clause-there
unfolding data_length
whole_cells-requires-clause-there g c = there c.requires.asked.1 (celled two) (kind_C _ _ _ _ c.in-12.is)

pub whole_cells-requires-in-13-clause-block : goal.whole_cells-requires-in-13-clause-block
whole_cells-requires-in-13-clause-block g c = cell_block c.requires.asked.1 (flat c.args.front.now) c.requires.plan four (kind_D _ _ _ _ c.in-13.is)

pub whole_cells-requires-in-13-clause-there : goal.whole_cells-requires-in-13-clause-there
unfolding data_length
whole_cells-requires-in-13-clause-there g c = there c.requires.asked.1 (celled four) (kind_D _ _ _ _ c.in-13.is)

pub whole_cells-requires-in-14-clause-block : goal.whole_cells-requires-in-14-clause-block
whole_cells-requires-in-14-clause-block g c = cell_block c.requires.asked.1 (flat c.args.front.now) c.requires.plan eight (kind_E _ _ _ _ c.in-14.is)

pub whole_cells-requires-in-14-clause-there : goal.whole_cells-requires-in-14-clause-there
unfolding data_length
whole_cells-requires-in-14-clause-there g c = there c.requires.asked.1 (celled eight) (kind_E _ _ _ _ c.in-14.is)

pub whole_dither-requires-clause-block : goal.whole_dither-requires-clause-block
whole_dither-requires-clause-block g c = dither_block c.requires.asked.1 _ c.requires.plan (kind_F _ _ _ _ c.in-15.is)

pub whole_dither-requires-clause-there : goal.whole_dither-requires-clause-there
unfolding data_length
whole_dither-requires-clause-there g c = there c.requires.asked.1 dithered (kind_F _ _ _ _ c.in-15.is)

pub returns-in_default : goal.returns-in_default
returns-in_default g c = absurd (omega (arith, c.requires.asked.1.known, c.requires.asked.1.taken refl))
