use Rattle.word_patterns.proofs.Rows.{narrow_row, rowed_read}
use Rattle.word_patterns.proofs.narrow_rows.Goals as goal

pub put_rows-requires : goal.put_rows-requires
put_rows-requires g c =
    rowed_read _
    (narrow_row _ _ _ _ _ c.chosen-a.ensures (rw c.BITS.ensures at c.chosen-b.ensures) (rw c.BITS-2.ensures at c.chosen-c.ensures) (rw c.BITS-3.ensures at c.chosen-d.ensures)
    c.chosen-e.ensures (rw c.BITS-4.ensures at c.chosen-f.ensures) (rw c.BITS-5.ensures at c.chosen-g.ensures) (rw c.BITS-6.ensures at c.chosen-h.ensures))
    c.requires
