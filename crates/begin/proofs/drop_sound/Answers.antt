use Rattle.begin.proofs.Before.{drops_format, drops_data, drops_silence}
use Rattle.begin.proofs.drop_sound.Goals as goal

pub returns-in-3 : goal.returns-in-3
returns-in-3 c = λ l big. drops_format _ _ _ _ _ _ c.initialize_audio.result c.heard_step.ensures l c.in-3.is c.initialize_audio.ensures

pub returns-in-8 : goal.returns-in-8
returns-in-8 c = λ l big. drops_data _ _ _ _ _ _ c.drop_audio_data.result c.heard_step-in-8.ensures l c.in-8.is (c.drop_audio_data.ensures _ big)

pub returns-in_default : goal.returns-in_default
returns-in_default c = λ l big. drops_silence _ _ _ _ _ _ c.drop_audio_silence.result c.heard_step-in_default.ensures l c.in_default.in_default-own.rest.0.1 c.in_default.in_default-own.rest.1 (c.drop_audio_silence.ensures _ big)
