use Rattle.std.proofs.Common.{rules}
use Rattle.sound.proofs.Outcome.{copied_none}
use Rattle.sound.proofs.write_data.Goals as goal

pub returns-else-not-is_empty-clause-room_after : goal.returns-else-not-is_empty-clause-room_after
returns-else-not-is_empty-clause-room_after c = λ w. copied_none c.args.sound _ _ _ c.args.room.now c.if-format.false (search rules) w
