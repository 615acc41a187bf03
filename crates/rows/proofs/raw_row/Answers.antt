use mathlib.Core.Path.{◌∙◌}
use Prim.Native.Nat.{ℕ, ◌+◌}
use Rattle.rows.specs.Row.{colour}
use Rattle.rows.proofs.Beside.{eight_read, read_first}
use Rattle.rows.proofs.raw_row.Goals as goal

pub put_eight-requires : goal.put_eight-requires
put_eight-requires g c = let f = colour g.T.Pixel.DEEP c.args.s.now in eight_read (λ (i : ℕ). f (c.args.p + i)) (record { first = c.colour-a.ensures ∙ read_first f _; second = c.colour-b.ensures; third = c.colour-c.ensures; fourth = c.colour-d.ensures; fifth = c.colour-e.ensures; sixth = c.colour-f.ensures; seventh = c.colour-g.ensures; eighth = c.colour-h.ensures }) c.requires.1
