use mathlib.Core.Path.{refl, ap, ◌∙◌}
use mathlib.Core.List.{List}
use Rattle.listed.specs.Store.{Store, applied}
use Rattle.listed.proofs.Lists.{applied_byte}
use Rattle.listed.proofs.Making.{making_start, making_more, making_end}
use Rattle.palette.proofs.Gradients.{count_at}
use Rattle.palette.proofs.Allowing.{take_bytes}
use Rattle.palette.proofs.Order.{next_byte}
use Rattle.palette.proofs.put_gradient.Goals as goal

pub loop-i-init : goal.loop-i-init
loop-i-init g c = making_start _ _ _

pub put-requires : goal.put-requires
put-requires g c = next_byte _ _ _ _ _ _ _ c.requires.next _ (rw c.entries-n.ensures.0 at c.allowed_of-m.ensures) _ _ c.loop-i.invariant c.loop-i-test.true _ _ refl c.component.ensures

pub loop-i-preserved : goal.loop-i-preserved
loop-i-preserved g c = making_more _ _ _ _ _ c.loop-i.invariant c.loop-i-test.true _ (applied_byte _ _ _ _ _ _ _ refl c.component.ensures c.put.ensures)

pub returns-clause-value : goal.returns-clause-value
returns-clause-value g c = rw c.entries-n.ensures.0 (count_at c.args.g c.args.before)

pub returns-clause-palette_after : goal.returns-clause-palette_after
returns-clause-palette_after g c =
    making_end _ _ _ _ _ c.loop-i.invariant c.loop-i-test.false
    ∙ ap (λ (l : List Store). applied l c.args.palette.now) (take_bytes _ _ _ _ _ (rw c.entries-n.ensures.0 at c.allowed_of-m.ensures))
