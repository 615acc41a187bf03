use mathlib.Core.Path.{refl}
use Rattle.std.proofs.lemmas.Result.{err_from_is_err_and}
use Rattle.next.proofs.Standing.{possible}
use Rattle.begin.specs.Begin.{allowance}
use Rattle.begin.proofs.Before.{early_ready, sees_refusal, sees_end, sees_chunk, sees_opcode, nothing_lent}
use Rattle.begin.proofs.foresee.Goals as goal

pub standing_at-requires : goal.standing_at-requires
standing_at-requires c = let q = possible c.args.st _ c.requires.possible in (q.ordered, q.inside)

pub take-requires : goal.take-requires
take-requires c = record { ready = early_ready _ c.args.st _ c.standing_at.result _ c.requires c.is_chosen.ensures c.standing_at.ensures (cc); early = c.requires; empty_len = refl }

pub returns-in_err-standing_at-clause-result_value : goal.returns-in_err-standing_at-clause-result_value
returns-in_err-standing_at-clause-result_value c = let p = err_from_is_err_and c.from_residual.result c.from_residual.ensures.1 in λ l g big. rw (p.1, p.2) (sees_refusal _ _ c.requires _ c.is_chosen.ensures _ c.standing_at.ensures l allowance g _ c.in_err-standing_at.was)

pub returns-in-Ended-clause-result_value : goal.returns-in-Ended-clause-result_value
returns-in-Ended-clause-result_value c = λ l g big. sees_end _ _ c.requires _ c.is_chosen.ensures _ c.standing_at.ensures l allowance g (cc)

pub returns-in-Chunk-clause-result_value : goal.returns-in-Chunk-clause-result_value
returns-in-Chunk-clause-result_value c = λ l g big. sees_chunk _ _ c.requires _ c.is_chosen.ensures _ c.standing_at.ensures l allowance g c.in-Chunk.chunk _ (cc) c.into_chunk.ensures

pub returns-in-Opcode : goal.returns-in-Opcode
returns-in-Opcode c = record { result_value = λ l g big. sees_opcode _ _ c.requires _ c.is_chosen.ensures _ c.standing_at.ensures l allowance g c.in-Opcode.o _ _ (cc) c.turn_of.ensures (c.take.ensures l g big); palette_unchanged = nothing_lent c.take.new.empty _ c.take.auto.empty }
