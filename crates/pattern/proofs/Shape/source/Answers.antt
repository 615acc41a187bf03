use native.Mathlib.Omega.{arith}
use Rattle.pattern.proofs.Bounds.{small, placed, bits, field_below, field_lies, source_met, scaled}
use Rattle.pattern.proofs.Shape.source.Goals as goal

pub overflow_add-fields : goal.overflow_add-fields
overflow_add-fields c = omega (arith, placed _ c.requires.0 c.requires.2, small c.requires.0, c.part_start-part.ensures)

pub field_at-requires : goal.field_at-requires
field_at-requires c = field_lies _ c.requires.0 c.requires.2 c.requires.1 c.part_start-part.ensures c.field_number-n.ensures

pub overflow_mul-result : goal.overflow_mul-result
overflow_mul-result c = let k = small c.requires.0 in let f = field_below _ _ _ _ c.field_at.ensures (bits c.requires.0) in omega (arith, k, scaled _ _ _ k f)

pub overflow_add-result : goal.overflow_add-result
overflow_add-result c = let k = small c.requires.0 in let f = field_below _ _ _ _ c.field_at.ensures (bits c.requires.0) in omega (arith, placed _ c.requires.0 c.requires.2, k, scaled _ _ _ k f, c.part_start-part.ensures)

pub returns : goal.returns
returns c = source_met _ _ c.requires.0 c.part_start-part.ensures c.field_number-n.ensures c.field_at.ensures
