use mathlib.Core.Path.{◌∙◌}
use native.Mathlib.Omega.{arith}
use Rattle.whole.proofs.Families.{copy_pointed, copy_clear, back_canvas, vector_flat, copied_apart, reached, back_block, front_block}
use Rattle.whole.proofs.copy_by.Goals as goal

pub new_by-requires : goal.new_by-requires
new_by-requires g c = let d = c.requires.asked.1 in let k = back_canvas _ _ _ _ _ _ c.requires.asked.2 in let p = copy_pointed d _ c.requires.copied.0 (omega (arith, c.requires.copied.1)) (c.copied_vector-v.ensures.0 ∙ vector_flat _ _ _) c.copied_vector-v.ensures.1 in record { block = back_block d _ c.requires.plan _ c.requires.copied.0 c.if-code-lt4.true (c.copied_vector-v.ensures.0 ∙ vector_flat _ _ _); reached = reached k p; apart = copied_apart k p (copy_clear _ _ _ _ _ c.requires.copied.0 c.if-code-lt4.true c.copied_vector-v.ensures.0) }

pub copied_by-requires : goal.copied_by-requires
copied_by-requires g c = let d = c.requires.asked.1 in record { block = front_block d _ c.requires.plan _ c.if-code-lt4.false c.requires.copied.1 (c.copied_vector-v.ensures.0 ∙ vector_flat _ _ _); reached = reached c.requires.asked.2 (copy_pointed d _ c.requires.copied.0 (omega (arith, c.requires.copied.1)) (c.copied_vector-v.ensures.0 ∙ vector_flat _ _ _) c.copied_vector-v.ensures.1) }
