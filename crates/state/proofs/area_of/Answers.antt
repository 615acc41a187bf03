use mathlib.Core.Path.{sym, ◌∙◌}
use native.Mathlib.Omega.{arith}
use Rattle.packet.proofs.Sizes.{size_is, pixels_few}
use Rattle.state.proofs.area_of.Goals as goal

pub overflow_mul-result : goal.overflow_mul-result
overflow_mul-result c = omega (arith, size_is _ _ (sym c.is_legal_size.ensures ∙ c.if-is_legal_size.true))

pub overflow_mul-result-then-is_legal_size : goal.overflow_mul-result-then-is_legal_size
overflow_mul-result-then-is_legal_size c = omega (arith, size_is _ _ (sym c.is_legal_size.ensures ∙ c.if-is_legal_size.true))

pub overflow_mul-result-then-is_legal_size-2 : goal.overflow_mul-result-then-is_legal_size-2
overflow_mul-result-then-is_legal_size-2 c = omega (arith, pixels_few _ _ (sym c.is_legal_size.ensures ∙ c.if-is_legal_size.true))
