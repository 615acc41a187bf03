use Rattle.word_patterns.proofs.Rows.{one_wide, rowed_wide}
use Rattle.word_patterns.proofs.cells.Goals as goal

pub wide_rows-requires : goal.wide_rows-requires
wide_rows-requires g c = rowed_wide c.if-wide-eq2.true _ _ _ _ _ c.requires.rows

pub narrow_rows-requires : goal.narrow_rows-requires
narrow_rows-requires g c = rowed_wide (one_wide c.requires.width c.if-wide-eq2.false) _ _ _ _ _ c.requires.rows
