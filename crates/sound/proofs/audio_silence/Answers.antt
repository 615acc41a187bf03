use Rattle.std.proofs.Common.{◌≡◌, true, Some, length, arith}
use Rattle.words.specs.Word.{word_at}
use Rattle.sound.specs.Format.{masked}
use Rattle.sound.proofs.Outcome.{silence_fits, silence_room, silence_masked}
use Rattle.sound.proofs.audio_silence.Goals as goal

pub put_same-requires : goal.put_same-requires
put_same-requires c = silence_fits _ _ _ _ _ _ _ _ c.in_ok-heard.ensures

pub returns-clause-room_after : goal.returns-clause-room_after
returns-clause-room_after c =
    let m : masked c.args.sound.stream (word_at c.args.body.now 2) ≡ true = cc (c.word_at.ensures.0, c.is_masked.ensures, c.if-not-is_masked.false) in
    let k : c.args.sound.format ≡ Some c.in_ok-format.format = grind (arith, c.in_ok-format.was, c.ok_or.ensures.value) in
    let e = silence_masked c.args.sound c.args.body.now (length c.args.room.now) c.in_ok-format.format m k in
    let r = silence_room _ _ _ _ _ _ _ _ c.in_ok-heard.ensures _ c.silent_byte.ensures _ c.put_same.ensures in
    cc (e, r, c.word_at-2.ensures.0)
