use mathlib.Core.Logic.{inl, inr}
use native.Mathlib.Omega.{arith}
use borrow.Author.Tests.{eq-eqb}
use Rattle.std.proofs.lemmas.Result.{err_from_is_err_and}
use Rattle.chunks.specs.Chunks.{behind_opcode}
use Rattle.chunks.proofs.Testing.{testing_start, testing_end, testing_next, testing_ends, testing_on}
use Rattle.chunks.proofs.test_chunk.Goals as goal

pub loop-at-init : goal.loop-at-init
loop-at-init c = testing_start _ _ _ c.requires.0 c.requires.1

pub returns-in_err-test_opcode : goal.returns-in_err-test_opcode
unfolding behind_opcode
returns-in_err-test_opcode c =
    let p = err_from_is_err_and c.from_residual.result c.from_residual.ensures.1 in
    rw (p.1, p.2, testing_next _ _ _ _ c.loop-at.invariant c.loop-at-test.true _ c.in_err-test_opcode.ensures)

pub returns-in-Ended : goal.returns-in-Ended
unfolding behind_opcode
returns-in-Ended c =
    let e = testing_next _ _ _ _ c.loop-at.invariant c.loop-at-test.true _ c.in_ok-test_opcode.ensures in
    elim c.in-Ended.is [ inl q ↦ rw (e, q) | inr q ↦ rw (e, q.1) ]

pub returns-then-o-eq0 : goal.returns-then-o-eq0
unfolding behind_opcode
returns-then-o-eq0 c = rw (testing_next _ _ _ _ c.loop-at.invariant c.loop-at-test.true _ c.in_ok-test_opcode.ensures, c.in-Opcode.is, eq-eqb _ _ c.if-o-eq0.true)

pub overflow_add-at : goal.overflow_add-at
overflow_add-at c = omega (arith, testing_ends _ _ _ _ c.loop-at.invariant c.loop-at-test.true _ (rw c.in-Opcode.is at c.in_ok-test_opcode.ensures), c.requires.1)

pub loop-at-smaller : goal.loop-at-smaller
loop-at-smaller c = omega (arith, testing_ends _ _ _ _ c.loop-at.invariant c.loop-at-test.true _ (rw c.in-Opcode.is at c.in_ok-test_opcode.ensures))

pub loop-at-preserved : goal.loop-at-preserved
loop-at-preserved c = testing_on _ _ _ _ c.loop-at.invariant c.loop-at-test.true _ (rw c.in-Opcode.is at c.in_ok-test_opcode.ensures) c.if-o-eq0.false

pub returns : goal.returns
returns c = testing_end _ _ _ _ c.loop-at.invariant c.loop-at-test.false
