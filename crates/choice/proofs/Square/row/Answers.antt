use mathlib.Core.Path.{refl}
use native.Mathlib.Omega.{arith}
use Rattle.choice.proofs.Rows.{row_inside, row_is}
use Rattle.choice.proofs.Square.row.Goals as goal

pub returns : goal.returns
returns c = row_is c.args.self.now.picture.now c.args.self.now.w c.args.self.now.x c.args.self.now.y c.args.r _ _ refl (omega arith) (row_inside _ _ _ _ c.requires.0 _ c.requires.1)
