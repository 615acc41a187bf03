-- What an opcode answers and leaves of the room, by its tests.
-- Assumes nothing.
use mathlib.Core.Path.{◌≡◌, refl, sym, ap, ◌∙◌}
use mathlib.Core.Bool.{Bool, true, false, cond}
use mathlib.Core.List.{List, []}
use Prim.Native.Nat.{ℕ, ◌*◌, ◌≤◌}
use native.Mathlib.Omega.{arith}
use borrow.Author.Tests.{le-ltb}
use lib.Dec.{eqb}
use lib.ListN.{length, replicate}
use Rattle.std.specs.Prelude.{Some}
use Rattle.words.specs.Word.{word_at}
use Rattle.room.specs.Room.{written}
use Rattle.room.proofs.Written.{written_none}
use Rattle.dpcm.proofs.Decoding.{none_left}
use Rattle.sound.specs.Format.{masked}
use Rattle.sound.specs.Step.{Step, taken, refused, room_after, even, sample_bytes, exact, output, sound_after, within, data_step, silence, silence_step, Writable, WritableOrNone, LongOrNone}
use Rattle.sound.specs.Sound.{heard, answer, of_format, of_mask, audio_silence}
use Rattle.sound.specs.declared.Format.{Format}
use Rattle.sound.specs.declared.Sound.{Sound}
use Rattle.sound.proofs.Packets.{Exact, exact_data, writable, output_length, silence_bytes, silence_length}
use Rattle.sound.proofs.Row.{takes}
use Rattle.sound.proofs.Kept.{silenced}

-- ---- 08 of a known format

-- the tests hold: so many bytes are written
module _ (s : Sound) (stereo wide compressed : Bool) (count : ℕ) (bytes : List ℕ) (long : ℕ) (e : even stereo count ≡ true) (x : exact stereo wide compressed s.begun count (length bytes) ≡ true)
    (n : ℕ) (k : (n ≡ count * sample_bytes wide compressed) × (n ≤ long)) where
  right : Exact stereo wide count (length bytes) compressed s.begun
  right = exact_data stereo wide compressed s.begun count (length bytes) x

  fits : count * sample_bytes wide compressed ≤ long
  fits = omega (arith, k.0, k.1)

  data_taken : data_step s stereo wide compressed count bytes long ≡ taken (sound_after s stereo compressed bytes) (output s stereo compressed bytes)
  data_taken = takes s stereo wide compressed count bytes long e right fits

  pub data_writable : (room : ℕ) → LongOrNone long room → WritableOrNone stereo compressed s.begun (length bytes) room
  data_writable room h g = writable stereo wide compressed s.begun count (length bytes) room right (omega (arith, h g, fits))

  pub data_heard : (r : Sound) → r ≡ sound_after s stereo compressed bytes → heard r n ≡ answer (data_step s stereo wide compressed count bytes long)
  unfolding answer
  data_heard r er = rw (data_taken, er, k.0) (ap (heard (sound_after s stereo compressed bytes)) (sym (output_length s stereo wide compressed count bytes right)))

  pub data_room : (room room' : List ℕ) → (Writable stereo compressed s.begun (length bytes) (length room) → room' ≡ written (output s stereo compressed bytes) room)
      → length room ≡ long → room' ≡ room_after (data_step s stereo wide compressed count bytes long) room
  unfolding room_after
  data_room room room' w l = rw data_taken (w (writable stereo wide compressed s.begun count (length bytes) (length room) right (omega (arith, l, fits))))

-- uncompressed data that fits an empty room is none
pub copied_none : (s : Sound) (stereo compressed : Bool) (bytes room : List ℕ) → compressed ≡ false → length room ≤ 0 → Writable stereo compressed s.begun (length bytes) (length room)
    → room ≡ written (output s stereo compressed bytes) room
unfolding output
copied_none s stereo compressed bytes room c z w =
    let b : bytes ≡ [] = none_left bytes (omega (arith, w.copied c)) in
    rw (c, b) (written_none room)

-- ---- 09 of a known format

pub silence_heard : (s : Sound) (stereo wide compressed : Bool) (count long : ℕ) → even stereo count ≡ true → (n : ℕ) → (n ≡ count * sample_bytes wide compressed) × (n ≤ long)
    → heard s n ≡ answer (silence_step s stereo wide compressed count long)
unfolding silence_step within answer
silence_heard s stereo wide compressed count long e n k =
    let fits : count * sample_bytes wide compressed ≤ long = omega (arith, k.0, k.1) in
    rw (e, le-ltb long (count * sample_bytes wide compressed) fits, k.0) (ap (heard s) (sym (silence_length wide compressed count)))

record Taken (step : Step) (n : ℕ) : Type 0 where
  sound : Sound
  bytes : List ℕ
  is : step ≡ taken sound bytes
  count : n ≡ length bytes

heard_taken : (step : Step) (x : Sound) (n : ℕ) → heard x n ≡ answer step → Taken step n
unfolding answer
heard_taken (taken t out) x n e = record { sound = t; bytes = out; is = refl; count = cc }
heard_taken (refused m k) x n e = absurd (let z : ◌≡◌ {A = ℕ} 0 1 = cc in omega arith)

-- the bytes by the answer: they fit the room, and zero samples are written there
module _ (s : Sound) (stereo wide compressed : Bool) (count : ℕ) (room : List ℕ) (x : Sound) (n : ℕ) (e : heard x n ≡ answer (silence_step s stereo wide compressed count (length room))) where
  step : Taken (silence_step s stereo wide compressed count (length room)) n
  step = heard_taken (silence_step s stereo wide compressed count (length room)) x n e

  written_bytes : silence (sample_bytes wide compressed) count ≡ step.bytes
  written_bytes = (silenced s stereo wide compressed count (length room) step.sound step.bytes step.is).written

  bytes_count : n ≡ count * sample_bytes wide compressed
  bytes_count = step.count ∙ ap length (sym written_bytes) ∙ silence_length wide compressed count

  pub silence_fits : n ≤ length room
  silence_fits = omega (arith, bytes_count, (silenced s stereo wide compressed count (length room) step.sound step.bytes step.is).fits)

  pub silence_room : (v : ℕ) → v ≡ cond (eqb (sample_bytes wide compressed) 2) 0 128 → (room' : List ℕ) → room' ≡ written (replicate n v) room
      → room' ≡ room_after (silence_step s stereo wide compressed count (length room)) room
  unfolding room_after
  silence_room v ev room' er =
      rw (step.is, ← written_bytes, silence_bytes wide compressed count (sample_bytes wide compressed) refl, ← ev, ← bytes_count) er

-- for the chosen stream
pub silence_masked : (s : Sound) (body : List ℕ) (long : ℕ) (f : Format) → masked s.stream (word_at body 2) ≡ true → s.format ≡ Some f
    → audio_silence s body long ≡ silence_step s f.stereo f.wide f.compressed (word_at body 4) long
unfolding audio_silence of_mask of_format
silence_masked s body long f m e = rw (m, e)
