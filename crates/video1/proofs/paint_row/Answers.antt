use mathlib.Core.Path.{refl, sym, ◌∙◌}
use Rattle.video1.proofs.Blocks.{row_low, row_there, row_not_skip, one_beside, pairs_there, pairs_beside, pairs_two, pairs_eight}
use Rattle.video1.proofs.paint_row.Goals as goal

pub pairs_row-requires : goal.pairs_row-requires
pairs_row-requires g c = let r = c.requires.1 in
    let t = pairs_two _ _ (sym c.requires.0 ∙ c.in-Two.is) in
    (row_low r, t, pairs_there r 0 t, pairs_beside r 0 t)

pub pairs_row-requires-in-Eight : goal.pairs_row-requires-in-Eight
pairs_row-requires-in-Eight g c = let r = c.requires.1 in
    let t = pairs_eight _ _ (sym c.requires.0 ∙ c.in-Eight.is) in
    (row_low r, t, pairs_there r 2 t, pairs_beside r 2 t)

pub bounds-s-at : goal.bounds-s-at
bounds-s-at g c = row_there c.requires.1

pub one_row-requires : goal.one_row-requires
one_row-requires g c = (row_low c.requires.1, one_beside c.requires.1 (sym c.requires.0 ∙ c.in-One.is) _ refl)

pub returns-in-Skip : goal.returns-in-Skip
returns-in-Skip g c = absurd (row_not_skip c.requires.1 _ (sym c.requires.0 ∙ c.in-Skip.is))
