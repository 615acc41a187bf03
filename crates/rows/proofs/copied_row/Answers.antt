use Prim.Native.Nat.{ℕ, ◌+◌}
use mathlib.Core.Path.{◌∙◌}
use lib.ListN.{get_or}
use Rattle.block.specs.Block.{stored}
use Rattle.rows.proofs.Beside.{eight_read, read_first}
use Rattle.rows.proofs.copied_row.Goals as goal

pub put_eight-requires : goal.put_eight-requires
put_eight-requires g c = let f = λ (n : ℕ). stored g.T.Pixel.DEEP (get_or (g.T.Pixel.numbers c.args.t.now) n 0) in eight_read (λ (i : ℕ). f (c.args.from + i)) (record { first = c.stored_at-a.ensures ∙ read_first f _; second = c.stored_at-b.ensures; third = c.stored_at-c.ensures; fourth = c.stored_at-d.ensures; fifth = c.stored_at-e.ensures; sixth = c.stored_at-f.ensures; seventh = c.stored_at-g.ensures; eighth = c.stored_at-h.ensures }) c.requires.1
