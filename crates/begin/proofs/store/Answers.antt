use mathlib.Core.Path.{ap, ◌∙◌}
use Rattle.std.specs.Prelude.{Ok}
use Rattle.film.specs.Film.{lent}
use Rattle.next.proofs.Standing.{possible}
use Rattle.begin.specs.Begin.{allowance}
use Rattle.begin.proofs.Before.{early_ready, keeps_sound, keeps_refused, keeps_ended, keeps_chunk, leaves_opcode}
use Rattle.begin.proofs.store.Goals as goal

pub standing_at-requires : goal.standing_at-requires
standing_at-requires c = let q = possible c.args.st _ c.requires.0.possible in (q.ordered, q.inside)

pub store_opcode-requires-clause-ready : goal.store_opcode-requires-clause-ready
store_opcode-requires-clause-ready c = early_ready _ c.args.st _ c.standing_at.result _ c.requires.0 c.is_chosen-hears.ensures c.standing_at.ensures (cc)

pub returns-then-not-is_heard : goal.returns-then-not-is_heard
returns-then-not-is_heard c = record { by_index = λ a b room w. (leaves_opcode _ _ c.requires.0 _ c.is_chosen-hears.ensures c.standing_at.result c.standing_at.ensures (lent c.args.palette.now a b c.args.place.now room w) allowance c.requires.1 c.in-Ok-Opcode.o (cc) _ c.is_heard.ensures c.if-not-is_heard.true _ _ (c.store_opcode.ensures.by_index a b room w) (c.store_opcode.ensures.by_index_2 a b room w)).0; by_index_2 = λ a b room w. (leaves_opcode _ _ c.requires.0 _ c.is_chosen-hears.ensures c.standing_at.result c.standing_at.ensures (lent c.args.palette.now a b c.args.place.now room w) allowance c.requires.1 c.in-Ok-Opcode.o (cc) _ c.is_heard.ensures c.if-not-is_heard.true _ _ (c.store_opcode.ensures.by_index a b room w) (c.store_opcode.ensures.by_index_2 a b room w)).1 }

pub returns-else-not-is_heard : goal.returns-else-not-is_heard
returns-else-not-is_heard c = record { by_index = λ a b room w. (keeps_sound _ _ c.requires.0 _ c.is_chosen-hears.ensures c.standing_at.result c.standing_at.ensures (lent c.args.palette.now a b c.args.place.now room w) allowance c.requires.1 c.in-Ok-Opcode.o (cc) _ c.is_heard.ensures c.if-not-is_heard.false).0; by_index_2 = λ a b room w. (keeps_sound _ _ c.requires.0 _ c.is_chosen-hears.ensures c.standing_at.result c.standing_at.ensures (lent c.args.palette.now a b c.args.place.now room w) allowance c.requires.1 c.in-Ok-Opcode.o (cc) _ c.is_heard.ensures c.if-not-is_heard.false).1 }

pub returns-in-Err : goal.returns-in-Err
returns-in-Err c = record { by_index = λ a b room w. (keeps_refused _ _ c.requires.0 _ c.is_chosen-hears.ensures c.standing_at.result c.standing_at.ensures (lent c.args.palette.now a b c.args.place.now room w) allowance c.requires.1 _ c.in-Err.is).0; by_index_2 = λ a b room w. (keeps_refused _ _ c.requires.0 _ c.is_chosen-hears.ensures c.standing_at.result c.standing_at.ensures (lent c.args.palette.now a b c.args.place.now room w) allowance c.requires.1 _ c.in-Err.is).1 }

pub returns-in-Ok-Ended : goal.returns-in-Ok-Ended
returns-in-Ok-Ended c = record { by_index = λ a b room w. (keeps_ended _ _ c.requires.0 _ c.is_chosen-hears.ensures c.standing_at.result c.standing_at.ensures (lent c.args.palette.now a b c.args.place.now room w) allowance c.requires.1 (cc)).0; by_index_2 = λ a b room w. (keeps_ended _ _ c.requires.0 _ c.is_chosen-hears.ensures c.standing_at.result c.standing_at.ensures (lent c.args.palette.now a b c.args.place.now room w) allowance c.requires.1 (cc)).1 }

pub returns-in-Ok-Chunk : goal.returns-in-Ok-Chunk
returns-in-Ok-Chunk c = record { by_index = λ a b room w. (keeps_chunk _ _ c.requires.0 _ c.is_chosen-hears.ensures c.standing_at.result c.standing_at.ensures (lent c.args.palette.now a b c.args.place.now room w) allowance c.requires.1 _ (c.in-Ok-Chunk.is ∙ ap Ok c.in-Ok-Chunk.field-0-is)).0; by_index_2 = λ a b room w. (keeps_chunk _ _ c.requires.0 _ c.is_chosen-hears.ensures c.standing_at.result c.standing_at.ensures (lent c.args.palette.now a b c.args.place.now room w) allowance c.requires.1 _ (c.in-Ok-Chunk.is ∙ ap Ok c.in-Ok-Chunk.field-0-is)).1 }
