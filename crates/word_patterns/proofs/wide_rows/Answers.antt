use Rattle.word_patterns.proofs.Rows.{wide_row, rowed_read}
use Rattle.word_patterns.proofs.wide_rows.Goals as goal

pub put_rows-requires : goal.put_rows-requires
put_rows-requires g c =
    rowed_read _ (wide_row _ _ _ _ _ c.chosen-a.ensures (rw c.BITS.ensures at c.chosen-b.ensures) c.chosen-c.ensures (rw c.BITS-2.ensures at c.chosen-d.ensures)) c.requires
