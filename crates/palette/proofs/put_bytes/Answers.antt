use mathlib.Core.Path.{refl, ap, ◌∙◌}
use mathlib.Core.List.{List}
use native.Mathlib.Omega.{arith}
use Rattle.listed.specs.Store.{Store, applied}
use Rattle.listed.proofs.Lists.{applied_byte, from_is}
use Rattle.listed.proofs.Making.{making_start, making_more, making_end}
use Rattle.palette.proofs.Allowing.{take_bytes}
use Rattle.palette.proofs.Order.{bytes_inside, next_byte}
use Rattle.palette.proofs.put_bytes.Goals as goal

pub loop-i-init : goal.loop-i-init
loop-i-init g c = making_start _ _ _

pub overflow_add-first : goal.overflow_add-first
overflow_add-first g c = omega (arith, bytes_inside _ _ _ _ _ _ _ c.requires.next _ c.allowed_of-m.ensures _ c.loop-i-test.true)

pub put-requires : goal.put-requires
put-requires g c = next_byte _ _ _ _ _ _ _ c.requires.next _ c.allowed_of-m.ensures _ _ c.loop-i.invariant c.loop-i-test.true _ _ refl (from_is _ _ _)

pub loop-i-preserved : goal.loop-i-preserved
loop-i-preserved g c = making_more _ _ _ _ _ c.loop-i.invariant c.loop-i-test.true _ (applied_byte _ _ _ _ _ _ _ refl (from_is _ _ _) c.put.ensures)

pub returns-clause-palette_after : goal.returns-clause-palette_after
returns-clause-palette_after g c =
    making_end _ _ _ _ _ c.loop-i.invariant c.loop-i-test.false ∙ ap (λ (l : List Store). applied l c.args.palette.now) (take_bytes _ _ _ _ _ c.allowed_of-m.ensures)
