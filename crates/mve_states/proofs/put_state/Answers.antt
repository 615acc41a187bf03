use Rattle.std.proofs.Common.{rules}
use Rattle.mve_states.proofs.States.{put_state}
use Rattle.mve_states.proofs.put_state.Goals as goal

pub returns : goal.returns
returns c = put_state _ _ _ _ _ _ c.args.st c.from.result c.from-2.result (search rules) (search rules) c.put_place.ensures c.put_pending.ensures c.put_unsent.ensures c.put_sound.ensures c.put_deep.ensures
