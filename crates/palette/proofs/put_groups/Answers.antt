use mathlib.Core.Path.{◌∙◌}
use native.Mathlib.Omega.{arith}
use Rattle.palette.proofs.Allowing.{allowing_start, allowing_more, allowing_length}
use Rattle.palette.proofs.Groups.{used_up, walked_start, walked_small, walked_more, walked_group, group_next, group_left, group_count, groups_count, groups_stored}
use Rattle.palette.proofs.Order.{count_none}
use Rattle.palette.proofs.put_groups.Goals as goal

pub loop-k-init : goal.loop-k-init
loop-k-init g c = (walked_start _, allowing_start _ _ _ _, count_none _ _)

pub overflow_add-at : goal.overflow_add-at
overflow_add-at g c = omega (arith, walked_small _ _ _ c.loop-k.invariant.0)

pub put_group-before-requires : goal.put_group-before-requires
put_group-before-requires g c =
    let q = used_up _ _ c.requires.taken in
    let w = c.loop-k.invariant.0 in
    record {
      next = rw c.requires.listed (group_next _ _ _ _ _ _ w c.loop-k.invariant.2 c.number_at.ensures.0 _ q.1 _ c.loop-k.invariant.1 c.loop-k-test.true);
      group = walked_group _ _ _ w q.0 c.loop-k-test.true _ c.number_at.ensures.0 c.number_at.ensures.1 _ (allowing_length _ _ _ _ _ _ c.loop-k.invariant.1 ∙ q.1);
    }

pub group_end-at-requires : goal.group_end-at-requires
group_end-at-requires g c = omega (arith, walked_small _ _ _ c.loop-k.invariant.0)

pub loop-k-preserved : goal.loop-k-preserved
loop-k-preserved g c = (walked_more _ _ _ c.loop-k.invariant.0 c.loop-k-test.true _ c.group_end-at.ensures, allowing_more _ _ _ _ _ _ c.loop-k.invariant.1 c.loop-k-test.true _ (group_left _ c.args.allowed _ _ _ _ c.loop-k.invariant.0 c.loop-k.invariant.2 c.number_at.ensures.0 _ _ c.put_group-before.ensures.palette_after), group_count _ c.args.allowed _ _ _ _ c.loop-k.invariant.0 c.loop-k.invariant.2 c.number_at.ensures.0 _ c.put_group-before.ensures.value)

pub returns : goal.returns
returns g c = record { value = groups_count _ _ _ _ _ _ c.loop-k.invariant.1 c.loop-k-test.false c.loop-k.invariant.2; palette_after = groups_stored _ _ _ _ _ c.loop-k.invariant.1 c.loop-k-test.false }
