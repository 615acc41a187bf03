use Rattle.film.specs.Film.{lent}
use Rattle.begin.specs.Begin.{allowance}
use Rattle.begin.proofs.Before.{ample, leaves_gradient, leaves_entries, leaves_groups, leaves_map, leaves_others}
use Rattle.begin.proofs.store_opcode.Goals as goal

pub returns-in-11 : goal.returns-in-11
returns-in-11 c = record { by_index = λ a b room w. (leaves_gradient _ _ _ _ _ _ _ allowance ample (lent c.args.palette.now a b c.args.place.now room w) _ c.in-11.is c.create_gradient.ensures.palette_after).0; by_index_2 = λ a b room w. (leaves_gradient _ _ _ _ _ _ _ allowance ample (lent c.args.palette.now a b c.args.place.now room w) _ c.in-11.is c.create_gradient.ensures.palette_after).1 }

pub returns-in-12 : goal.returns-in-12
returns-in-12 c = record { by_index = λ a b room w. (leaves_entries _ _ _ _ _ _ _ allowance ample (lent c.args.palette.now a b c.args.place.now room w) _ c.in-12.is c.set_palette.ensures.palette_after).0; by_index_2 = λ a b room w. (leaves_entries _ _ _ _ _ _ _ allowance ample (lent c.args.palette.now a b c.args.place.now room w) _ c.in-12.is c.set_palette.ensures.palette_after).1 }

pub returns-in-13 : goal.returns-in-13
returns-in-13 c = record { by_index = λ a b room w. (leaves_groups _ _ _ _ _ _ _ allowance ample (lent c.args.palette.now a b c.args.place.now room w) _ c.in-13.is c.set_palette_compressed.ensures.palette_after).0; by_index_2 = λ a b room w. (leaves_groups _ _ _ _ _ _ _ allowance ample (lent c.args.palette.now a b c.args.place.now room w) _ c.in-13.is c.set_palette_compressed.ensures.palette_after).1 }

pub returns-in-15 : goal.returns-in-15
returns-in-15 c = record { by_index = λ a b room w. (leaves_map _ _ _ _ _ _ _ allowance ample (lent c.args.palette.now a b c.args.place.now room w) _ c.in-15.is c.set_place.ensures).0; by_index_2 = λ a b room w. (leaves_map _ _ _ _ _ _ _ allowance ample (lent c.args.palette.now a b c.args.place.now room w) _ c.in-15.is c.set_place.ensures).1 }

pub returns-in_default : goal.returns-in_default
returns-in_default c = record { by_index = λ a b room w. (leaves_others _ _ _ _ _ _ _ allowance ample (lent c.args.palette.now a b c.args.place.now room w) c.requires.columns_value c.in_default.in_default-own.rest.0.0.0.1 c.in_default.in_default-own.rest.0.0.1 c.in_default.in_default-own.rest.0.1 c.in_default.in_default-own.rest.1).0; by_index_2 = λ a b room w. (leaves_others _ _ _ _ _ _ _ allowance ample (lent c.args.palette.now a b c.args.place.now room w) c.requires.columns_value c.in_default.in_default-own.rest.0.0.0.1 c.in_default.in_default-own.rest.0.0.1 c.in_default.in_default-own.rest.0.1 c.in_default.in_default-own.rest.1).1 }
