use mathlib.Core.Path.{refl}
use native.Mathlib.Omega.{arith}
use Rattle.strip.specs.Strip.{kept_at}
use Rattle.strip.proofs.Keeping.{keeping_start, keeping_end, keeping_stops, keeping_ends, keeping_room, keeping_on}
use Rattle.strip.proofs.keep_opcodes.Goals as goal

pub loop-at-init : goal.loop-at-init
loop-at-init c = keeping_start _ _ _ _ _ _ _ c.requires

pub returns-in-Err-clause-stored : goal.returns-in-Err-clause-stored
unfolding kept_at
returns-in-Err-clause-stored c = keeping_stops _ _ _ _ _ _ _ c.requires _ _ _ c.loop-at.invariant c.loop-at-test.true _ c.in-Err.ensures (λ f. refl)

pub returns-in-Ok-Ended-clause-stored : goal.returns-in-Ok-Ended-clause-stored
unfolding kept_at
returns-in-Ok-Ended-clause-stored c = keeping_stops _ _ _ _ _ _ _ c.requires _ _ _ c.loop-at.invariant c.loop-at-test.true _ (rw c.in-Ok-Ended.field-0-is at c.in-Ok-Ended.ensures) (λ f. refl)

pub returns-in-Ok-Chunk-clause-stored : goal.returns-in-Ok-Chunk-clause-stored
unfolding kept_at
returns-in-Ok-Chunk-clause-stored c = keeping_stops _ _ _ _ _ _ _ c.requires _ _ _ c.loop-at.invariant c.loop-at-test.true _ (rw c.in-Ok-Chunk.field-0-is at c.in-Ok-Chunk.ensures) (λ f. refl)

pub keep_opcode-kept-requires : goal.keep_opcode-kept-requires
keep_opcode-kept-requires c =
    let e = keeping_ends _ _ _ _ _ _ _ c.requires _ _ _ c.loop-at.invariant c.loop-at-test.true _ (rw c.in-Ok-Opcode.field-0-is at c.in-Ok-Opcode.ensures) in
    (omega arith, omega (arith, c.requires.inside), keeping_room _ _ _ _ _ _ _ c.requires _ _ _ c.loop-at.invariant c.loop-at-test.true _ (rw c.in-Ok-Opcode.field-0-is at c.in-Ok-Opcode.ensures))

pub overflow_add-kept : goal.overflow_add-kept
overflow_add-kept c = let k = keeping_on _ _ _ _ _ _ _ c.requires _ _ _ c.loop-at.invariant c.loop-at-test.true _ (rw c.in-Ok-Opcode.field-0-is at c.in-Ok-Opcode.ensures) _ _ c.keep_opcode-kept.ensures in omega (arith, k.few, k.within, c.requires.inside)

pub overflow_add-at : goal.overflow_add-at
overflow_add-at c = omega (arith, keeping_ends _ _ _ _ _ _ _ c.requires _ _ _ c.loop-at.invariant c.loop-at-test.true _ (rw c.in-Ok-Opcode.field-0-is at c.in-Ok-Opcode.ensures), c.requires.inside)

pub loop-at-smaller : goal.loop-at-smaller
loop-at-smaller c = omega (arith, keeping_ends _ _ _ _ _ _ _ c.requires _ _ _ c.loop-at.invariant c.loop-at-test.true _ (rw c.in-Ok-Opcode.field-0-is at c.in-Ok-Opcode.ensures))

pub loop-at-preserved : goal.loop-at-preserved
loop-at-preserved c = keeping_on _ _ _ _ _ _ _ c.requires _ _ _ c.loop-at.invariant c.loop-at-test.true _ (rw c.in-Ok-Opcode.field-0-is at c.in-Ok-Opcode.ensures) _ _ c.keep_opcode-kept.ensures

pub returns-clause-stored : goal.returns-clause-stored
returns-clause-stored c = keeping_end _ _ _ _ _ _ _ c.requires _ _ _ c.loop-at.invariant c.loop-at-test.false
