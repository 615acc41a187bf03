use mathlib.Core.Path.{sym, ◌∙◌}
use native.Mathlib.Omega.{arith}
use Rattle.palette.proofs.Judging.{judging_start, judging_more, judging_not, judging_end}
use Rattle.palette.proofs.Groups.{walked_start, walked_small, walked_more, walked_there, end_is, group_legal}
use Rattle.palette.proofs.are_group_components.Goals as goal

pub loop-k-init : goal.loop-k-init
loop-k-init c = (walked_start _, judging_start _ _)

pub group_end-end-requires : goal.group_end-end-requires
group_end-end-requires c = omega (arith, walked_small _ _ _ c.loop-k.invariant.0)

pub overflow_add-at : goal.overflow_add-at
overflow_add-at c = omega (arith, walked_small _ _ _ c.loop-k.invariant.0)

pub overflow_add-at-in-loop-k : goal.overflow_add-at-in-loop-k
overflow_add-at-in-loop-k c = omega (arith, walked_small _ _ _ c.loop-k.invariant.0)

pub overflow_sub-end : goal.overflow_sub-end
overflow_sub-end c = omega (arith, end_is c.args.body.now c.loop-k.at, c.group_end-end.ensures)

pub are_components-requires : goal.are_components-requires
are_components-requires c = omega (arith, end_is c.args.body.now c.loop-k.at, c.group_end-end.ensures, walked_there _ _ _ c.loop-k.invariant.0 c.requires c.loop-k-test.true)

pub loop-k-preserved : goal.loop-k-preserved
loop-k-preserved c =
    (walked_more _ _ _ c.loop-k.invariant.0 c.loop-k-test.true _ c.group_end-end.ensures, judging_more _ _ _ c.loop-k.invariant.1 c.loop-k-test.true (sym (c.are_components.ensures ∙ group_legal _ _ _ _ c.loop-k.invariant.0 c.group_end-end.ensures) ∙ c.if-not-are_components.false))

pub returns-then-not-are_components : goal.returns-then-not-are_components
returns-then-not-are_components c =
    judging_not _ _ _ c.loop-k.invariant.1 c.loop-k-test.true (sym (c.are_components.ensures ∙ group_legal _ _ _ _ c.loop-k.invariant.0 c.group_end-end.ensures) ∙ c.if-not-are_components.true)

pub returns : goal.returns
returns c = judging_end _ _ _ c.loop-k.invariant.1 c.loop-k-test.false
