use mathlib.Core.Path.{refl}
use Rattle.rows.specs.Row.{colours}
use Rattle.rows.proofs.Beside.{right_four, eight_made}
use Rattle.rows.proofs.put_eight.Goals as goal

pub put_four-requires-2 : goal.put_four-requires-2
put_four-requires-2 g c = right_four (colours _ _ _ _) (colours _ _ _ _) refl c.requires c.put_four.ensures

pub returns : goal.returns
returns g c = eight_made (colours _ _ _ _) (colours _ _ _ _) refl c.requires c.put_four.ensures c.put_four-2.ensures
