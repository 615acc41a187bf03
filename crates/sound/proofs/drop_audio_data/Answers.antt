use Rattle.std.proofs.Common.{◌<◌, arith, ap, ◌∙◌}
use Rattle.words.specs.Word.{word_at}
use Rattle.sound.specs.Step.{enough}
use Rattle.sound.specs.Sound.{answer}
use Rattle.sound.proofs.Dropped.{same_data}
use Rattle.sound.proofs.drop_audio_data.Goals as goal

pub returns : goal.returns
unfolding word_at
returns c =
    λ room big.
    let few : word_at c.args.body.now 4 < 65536 = omega (arith, c.type_inv.body 4, c.type_inv.body 5) in
    c.take_data.ensures.result_value ∙ ap answer (same_data c.args.sound c.args.body.now few enough room (omega arith) big)
