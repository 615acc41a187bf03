use mathlib.Core.Path.{sym, ◌∙◌}
use Rattle.sound.proofs.Outcome.{silence_heard}
use Rattle.sound.proofs.silence_step.Goals as goal

pub returns : goal.returns
returns c = silence_heard _ _ _ _ _ _ (sym c.is_even.ensures ∙ c.if-not-is_even.false) _ c.in_ok-bytes.ensures
