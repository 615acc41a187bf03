use mathlib.Core.Path.{refl, sym, ◌∙◌}
use native.Mathlib.Omega.{arith}
use Rattle.block.specs.Block.{one, two, four, eight, celled, data_length}
use Rattle.block.proofs.Codes.{kind_7, kind_8, kind_9, kind_A, kind_B, kind_C, kind_D, kind_E}
use Rattle.paint.specs.Value.{older}
use Rattle.whole.proofs.Families.{back_square, there, form_block, cell_block, raw_block}
use Rattle.word_whole.proofs.Words.{last_canvas, older_block, older_reached, new_asked}
use Rattle.word_whole.proofs.paint_pixels.Goals as goal

pub copied_by-requires : goal.copied_by-requires
copied_by-requires g c =
    let f = sym c.is_older.ensures ∙ c.if-is_older.true in
    record {
      block = older_block c.requires.asked.1 _ _ c.requires.plan _ _ c.requires.asked.2 f c.older_of.ensures c.older_vector.ensures.0;
      reached = older_reached c.requires.asked.1 _ _ c.requires.plan _ _ c.requires.asked.2 f c.older_of.ensures c.older_vector.ensures;
    }

pub word_form-requires : goal.word_form-requires
unfolding data_length
word_form-requires g c = let e = kind_7 _ _ _ _ _ c.in-7.is c.form_of_7.ensures in record { block = record { block = form_block c.requires.asked.1 (older _ _) c.requires.plan _ e; there = there c.requires.asked.1 _ e }; room = back_square _ _ _ _ _ _ (last_canvas c.requires.asked.2) }

pub word_form-requires-in-8 : goal.word_form-requires-in-8
unfolding data_length
word_form-requires-in-8 g c = let e = kind_8 _ _ _ _ _ c.in-8.is c.form_of_8.ensures in record { block = record { block = form_block c.requires.asked.1 (older _ _) c.requires.plan _ e; there = there c.requires.asked.1 _ e }; room = back_square _ _ _ _ _ _ (last_canvas c.requires.asked.2) }

pub word_form-requires-in-9 : goal.word_form-requires-in-9
unfolding data_length
word_form-requires-in-9 g c = let e = kind_9 _ _ _ _ _ c.in-9.is c.form_of_9.ensures in record { block = record { block = form_block c.requires.asked.1 (older _ _) c.requires.plan _ e; there = there c.requires.asked.1 _ e }; room = back_square _ _ _ _ _ _ (last_canvas c.requires.asked.2) }

pub word_form-requires-in-10 : goal.word_form-requires-in-10
unfolding data_length
word_form-requires-in-10 g c = let e = kind_A _ _ _ _ _ c.in-10.is c.form_of_a.ensures in record { block = record { block = form_block c.requires.asked.1 (older _ _) c.requires.plan _ e; there = there c.requires.asked.1 _ e }; room = back_square _ _ _ _ _ _ (last_canvas c.requires.asked.2) }

pub whole_raw-requires : goal.whole_raw-requires
unfolding data_length
whole_raw-requires g c = let e = kind_B _ _ _ _ c.in-11.is in record { block = raw_block c.requires.asked.1 (older _ _) c.requires.plan e; there = there c.requires.asked.1 (celled one) e; room = back_square _ _ _ _ _ _ (last_canvas c.requires.asked.2) }

pub whole_cells-requires : goal.whole_cells-requires
unfolding data_length
whole_cells-requires g c = let e = kind_C _ _ _ _ c.in-12.is in record { block = cell_block c.requires.asked.1 (older _ _) c.requires.plan two e; sided = (two, refl); wide = omega arith; there = there c.requires.asked.1 (celled two) e; room = back_square _ _ _ _ _ _ (last_canvas c.requires.asked.2) }

pub whole_cells-requires-in-13 : goal.whole_cells-requires-in-13
unfolding data_length
whole_cells-requires-in-13 g c = let e = kind_D _ _ _ _ c.in-13.is in record { block = cell_block c.requires.asked.1 (older _ _) c.requires.plan four e; sided = (four, refl); wide = omega arith; there = there c.requires.asked.1 (celled four) e; room = back_square _ _ _ _ _ _ (last_canvas c.requires.asked.2) }

pub whole_cells-requires-in-14 : goal.whole_cells-requires-in-14
unfolding data_length
whole_cells-requires-in-14 g c = let e = kind_E _ _ _ _ c.in-14.is in record { block = cell_block c.requires.asked.1 (older _ _) c.requires.plan eight e; sided = (eight, refl); wide = omega arith; there = there c.requires.asked.1 (celled eight) e; room = back_square _ _ _ _ _ _ (last_canvas c.requires.asked.2) }

pub new_by-requires : goal.new_by-requires
new_by-requires g c =
    let a = new_asked c.requires.asked.1 _ _ c.requires.plan c.requires.asked.2 (sym c.is_older.ensures ∙ c.if-is_older.false) (omega arith) c.copied_vector.ensures in
    record { block = a.0; reached = a.1; apart = a.2 }
