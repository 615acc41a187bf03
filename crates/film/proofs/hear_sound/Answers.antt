use Rattle.film.proofs.Steps.{hears_format}
use Rattle.film.proofs.hear_sound.Goals as goal

pub returns-in-3 : goal.returns-in-3
returns-in-3 c = λ l. hears_format _ _ _ _ _ _ _ c.initialize_audio.result c.heard_step.ensures c.in-3.is c.initialize_audio.ensures
