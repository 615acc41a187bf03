use mathlib.Core.Path.{refl, sym, ◌∙◌}
use native.Mathlib.Omega.{arith}
use borrow.Author.Tests.{lt-ltb, le-ltb}
use Rattle.packet.proofs.Strip.{finds_refused, finds_by}
use Rattle.packet.proofs.Sizes.{few, pixels_few, size_is, is_sized}
use Rattle.draw.proofs.Judged.{judged_6, judged_8, judged_8_oldest, judged_8_back, judged_10, judged_11, judged_parts}
use Rattle.word_calls.proofs.judge_words.Goals as goal

pub returns-then-not-is_legal_size : goal.returns-then-not-is_legal_size
returns-then-not-is_legal_size c = finds_refused _ _ _ _ (judged_6 _ _ _ _ _ _ _ _ _ _ (sym c.is_legal_size.ensures ∙ c.if-not-is_legal_size.true))

pub overflow_mul-pixels : goal.overflow_mul-pixels
overflow_mul-pixels c = omega (arith, size_is _ _ (sym c.is_legal_size.ensures ∙ c.if-not-is_legal_size.false))

pub overflow_mul-pixels-2 : goal.overflow_mul-pixels-2
overflow_mul-pixels-2 c = omega (arith, size_is _ _ (sym c.is_legal_size.ensures ∙ c.if-not-is_legal_size.false))

pub overflow_mul-pixels-3 : goal.overflow_mul-pixels-3
overflow_mul-pixels-3 c = omega (arith, pixels_few _ _ (sym c.is_legal_size.ensures ∙ c.if-not-is_legal_size.false))

pub returns-then-last-pixels : goal.returns-then-last-pixels
returns-then-last-pixels c = finds_refused _ _ _ _ (judged_8 _ _ _ _ _ _ _ _ _ _ (sym c.is_legal_size.ensures ∙ c.if-not-is_legal_size.false) c.if-last-pixels.true)

pub returns-then-oldest-pixels : goal.returns-then-oldest-pixels
returns-then-oldest-pixels c = finds_refused _ _ _ _ (judged_8_oldest _ _ _ _ _ _ _ _ _ _ (sym c.is_legal_size.ensures ∙ c.if-not-is_legal_size.false) c.if-last-pixels.false (lt-ltb _ _ c.if-oldest-pixels.true))

pub returns-then-new-pixels : goal.returns-then-new-pixels
returns-then-new-pixels c = finds_refused _ _ _ _ (judged_8_back _ _ _ _ _ _ _ _ _ _ (sym c.is_legal_size.ensures ∙ c.if-not-is_legal_size.false) c.if-last-pixels.false (le-ltb _ _ c.if-oldest-pixels.false) c.if-new-pixels.true)

pub overflow_mul-columns : goal.overflow_mul-columns
overflow_mul-columns c = omega (arith, few _ _ (sym c.is_legal_size.ensures ∙ c.if-not-is_legal_size.false))

pub overflow_add-columns : goal.overflow_add-columns
overflow_add-columns c = omega (arith, few _ _ (sym c.is_legal_size.ensures ∙ c.if-not-is_legal_size.false))

pub returns-then-map-columns : goal.returns-then-map-columns
returns-then-map-columns c = finds_refused _ _ _ _ (judged_10 _ _ _ _ _ _ _ _ _ _ (sym c.is_legal_size.ensures ∙ c.if-not-is_legal_size.false) c.if-last-pixels.false (le-ltb _ _ c.if-oldest-pixels.false) c.if-new-pixels.false c.if-map-columns.true)

pub returns-then-columns-rows : goal.returns-then-columns-rows
returns-then-columns-rows c = finds_refused _ _ _ _ (judged_11 _ _ _ _ _ _ _ _ _ _ (sym c.is_legal_size.ensures ∙ c.if-not-is_legal_size.false) c.if-last-pixels.false (le-ltb _ _ c.if-oldest-pixels.false) c.if-new-pixels.false c.if-map-columns.false c.if-columns-rows.true)

pub check_parts-requires : goal.check_parts-requires
check_parts-requires c = is_sized _ (sym c.is_legal_size.ensures ∙ c.if-not-is_legal_size.false) c.if-map-columns.false

pub returns : goal.returns
returns c = finds_by _ _ _ _ (judged_parts _ _ _ _ _ _ _ _ _ _ (sym c.is_legal_size.ensures ∙ c.if-not-is_legal_size.false) c.if-last-pixels.false (le-ltb _ _ c.if-oldest-pixels.false) c.if-new-pixels.false c.if-map-columns.false c.if-columns-rows.false _ refl) c.check_parts.ensures
