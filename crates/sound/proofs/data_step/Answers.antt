use mathlib.Core.Path.{sym, ◌∙◌}
use Rattle.sound.proofs.Outcome.{data_writable, data_heard, data_room}
use Rattle.sound.proofs.data_step.Goals as goal

pub write_data-sound-requires : goal.write_data-sound-requires
write_data-sound-requires c = data_writable c.args.sound _ _ _ _ _ _ (sym c.is_even.ensures ∙ c.if-not-is_even.false) (sym c.is_exact.ensures ∙ c.if-not-is_exact.false) _ c.in_ok-bytes.ensures _ c.requires.long_or_none

pub returns-clause-result_value : goal.returns-clause-result_value
returns-clause-result_value c = data_heard _ _ _ _ _ _ _ (sym c.is_even.ensures ∙ c.if-not-is_even.false) (sym c.is_exact.ensures ∙ c.if-not-is_exact.false) _ c.in_ok-bytes.ensures _ c.write_data-sound.ensures.value

pub returns-clause-room_after : goal.returns-clause-room_after
returns-clause-room_after c = data_room _ _ _ _ _ _ _ (sym c.is_even.ensures ∙ c.if-not-is_even.false) (sym c.is_exact.ensures ∙ c.if-not-is_exact.false) _ c.in_ok-bytes.ensures _ _ c.write_data-sound.ensures.room_after
