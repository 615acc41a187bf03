use mathlib.Core.Path.{refl}
use Rattle.encode.specs.Encode.{way_at}
use Rattle.encode.specs.Asked.{task_of}
use Rattle.encode.proofs.Blocks.{square_in}
use Rattle.encode.proofs.Task.square.Goals as goal

pub returns : goal.returns
unfolding way_at
returns c =
    let l = c.requires.0 in
    let at = square_in (task_of c.args.self.now) c.args.self.now.rows c.args.k l c.requires.1 in
    record { wanted = at _ l.wanted_long; front = at _ l.front_long; back = at _ l.back_long; is = refl; way = refl }
