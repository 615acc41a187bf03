use Rattle.std.proofs.Common.{◌≡◌, true, Some, arith}
use Rattle.words.specs.Word.{word_at}
use Rattle.sound.specs.Format.{masked}
use Rattle.sound.specs.Step.{enough}
use Rattle.sound.proofs.Outcome.{silence_masked}
use Rattle.sound.proofs.Dropped.{same_silence}
use Rattle.sound.proofs.drop_audio_silence.Goals as goal

pub returns : goal.returns
returns c =
    λ room big.
    let m : masked c.args.sound.stream (word_at c.args.body.now 2) ≡ true = cc (c.word_at.ensures.0, c.is_masked.ensures, c.if-not-is_masked.false) in
    let k : c.args.sound.format ≡ Some c.in_ok-format.format = grind (arith, c.in_ok-format.was, c.ok_or.ensures.value) in
    let e = silence_masked c.args.sound c.args.body.now enough c.in_ok-format.format m k in
    let d = same_silence c.args.sound c.args.body.now (rw c.word_at-2.ensures.0 at c.word_at-2.ensures.1) enough room (omega arith) big in
    cc (e, d, c.word_at-2.ensures.0, c.silence_step.ensures)
