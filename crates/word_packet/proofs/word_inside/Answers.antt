use mathlib.Core.Path.{sym, ◌∙◌}
use native.Mathlib.Omega.{arith}
use borrow.Author.Tests.{ltb-true}
use Rattle.word_packet.proofs.Amid.{amid_inside}
use Rattle.word_packet.proofs.word_inside.Goals as goal
use Rattle.word_packet.proofs.word_inside.Goals.{then-offset_length-gt0, else-offset_length-gt0}

pub returns-then-is_amid : goal.returns-then-is_amid
returns-then-is_amid c =
    elim c.if-offset_length-gt0.branch [
      | then-offset_length-gt0 w ↦ c.if-is_amid.true ∙ amid_inside _ _ _ _ (sym w.is_amid.ensures ∙ sym w.value-is ∙ c.if-is_amid.true) _ _ (omega (arith, c.type_inv.o 0)) _ w.if-offset_length-gt0.true _ c.requires.0 (c.offset_length.ensures _ _)
      | else-offset_length-gt0 w ↦ absurd (let h = ltb-true 0 c.offset_length.result (sym w.value-is ∙ c.if-is_amid.true) in omega arith)
    ]
