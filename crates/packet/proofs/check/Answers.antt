use mathlib.Core.Path.{refl, sym, ◌∙◌}
use native.Mathlib.Omega.{arith}
use Rattle.packet.proofs.Sizes.{few, is_sized, judges_parts, refuses_10, refuses_6}
use Rattle.packet.proofs.Strip.{finds_refused, finds_by}
use Rattle.packet.proofs.check.Goals as goal

pub returns-then-not-is_legal_size : goal.returns-then-not-is_legal_size
returns-then-not-is_legal_size c = finds_refused _ _ _ _ (refuses_6 _ _ _ _ _ _ (sym c.is_legal_size.ensures ∙ c.if-not-is_legal_size.true))

pub overflow_mul-columns : goal.overflow_mul-columns
overflow_mul-columns c = omega (arith, few _ _ (sym c.is_legal_size.ensures ∙ c.if-not-is_legal_size.false))

pub overflow_add-columns : goal.overflow_add-columns
overflow_add-columns c = omega (arith, few _ _ (sym c.is_legal_size.ensures ∙ c.if-not-is_legal_size.false))

pub returns-then-map-columns : goal.returns-then-map-columns
returns-then-map-columns c = finds_refused _ _ _ _ (refuses_10 _ _ _ _ _ _ (sym c.is_legal_size.ensures ∙ c.if-not-is_legal_size.false) c.if-map-columns.true)

pub check_blocks-requires : goal.check_blocks-requires
check_blocks-requires c = is_sized _ (sym c.is_legal_size.ensures ∙ c.if-not-is_legal_size.false) c.if-map-columns.false

pub returns : goal.returns
returns c = finds_by _ _ _ _ (judges_parts _ _ _ _ _ _ (sym c.is_legal_size.ensures ∙ c.if-not-is_legal_size.false) c.if-map-columns.false _ refl) c.check_blocks.ensures
