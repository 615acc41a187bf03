use Rattle.film.specs.Film.{words, lent}
use Rattle.film.proofs.Steps.{takes_sound}
use Rattle.film.proofs.take_on.Goals as goal

pub returns-then-is_heard : goal.returns-then-is_heard
returns-then-is_heard c = takes_sound _ _ _ _ _ _ _ c.is_chosen.ensures c.is_heard.ensures _ c.if-is_heard.true (c.hear_sound.ensures (lent c.args.palette.now c.args.a.now c.args.b.now c.args.place.now c.args.room.now (words c.args.c.now c.args.d.now c.args.e.now)))
