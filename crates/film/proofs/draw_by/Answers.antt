use native.Mathlib.Omega.{arith}
use Rattle.film.specs.Film.{words, lent}
use Rattle.film.proofs.Steps.{map_ends, draws}
use Rattle.film.proofs.draw_by.Goals as goal

pub overflow_add-map : goal.overflow_add-map
overflow_add-map c = omega (arith, map_ends _ _ _ c.requires.film_value c.in-Some.is, c.well_formed.0)

pub slice_bounds-map-end : goal.slice_bounds-map-end
slice_bounds-map-end c = map_ends _ _ _ c.requires.film_value c.in-Some.is

pub returns-then-st : goal.returns-then-st
returns-then-st c = λ palette room. draws _ _ _ _ _ _ _ _ c.is_body_short.ensures c.if-is_body_short.false _ _ c.in-Some.is c.if-st-eq0.false (c.draw_words_on.ensures (lent palette c.args.a.now c.args.b.now c.args.place.now room (words c.args.c.now c.args.d.now c.args.e.now)))

pub returns-else-st : goal.returns-else-st
returns-else-st c = λ palette room. draws _ _ _ _ _ _ _ _ c.is_body_short.ensures c.if-is_body_short.false _ _ c.in-Some.is c.if-st-eq0.false (c.draw_on.ensures (lent palette c.args.a.now c.args.b.now c.args.place.now room (words c.args.c.now c.args.d.now c.args.e.now)))
