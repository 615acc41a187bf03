-- How many bytes an opcode writes, and what it leaves of the room: the rest stays, and a refusal writes nothing.
-- Assumes nothing.
use mathlib.Core.Path.{◌≡◌, refl, sym, ap, ◌∙◌}
use mathlib.Core.Bool.{Bool, true, false, cond}
use mathlib.Core.List.{List, []}
use Prim.Native.Nat.{ℕ, ◌*◌, ◌≤◌}
use native.Mathlib.Omega.{arith}
use borrow.Author.Tests.{ltb-false}
use lib.ListN.{length, drop}
use Rattle.std.specs.Prelude.{Option, Some, None}
use Rattle.words.specs.Word.{word_at}
use Rattle.words.proofs.Tests.{first, not_first}
use Rattle.room.proofs.Written.{written_front, written_rest}
use Rattle.sound.specs.Format.{masked}
use Rattle.sound.specs.Step.{Step, taken, room_after, even, sample_bytes, within, data_step, silence, silence_step}
use Rattle.sound.specs.Sound.{of_format, of_mask, audio_data, audio_silence}
use Rattle.sound.specs.Kept.{Counted, Kept}
use Rattle.sound.specs.declared.Format.{Format}
use Rattle.sound.specs.declared.Sound.{Sound}
use Rattle.sound.proofs.Packets.{output_length, silence_length}
use Rattle.sound.proofs.Row.{refused_taken, same_taken, took}

-- ---- the bytes written are count times the bytes of a sample, and the room holds them

pub data_counted : (s : Sound) (stereo wide compressed : Bool) (count : ℕ) (bytes : List ℕ) (room : ℕ)
    → Counted (data_step s stereo wide compressed count bytes room) (count * sample_bytes wide compressed) room
data_counted s stereo wide compressed count bytes room =
    record {
      count =
          λ t out e.
          let a = took s stereo wide compressed count bytes room t out e in
          ap length (sym a.written) ∙ output_length s stereo wide compressed count bytes a.right;
      fits = λ t out e. (took s stereo wide compressed count bytes room t out e).fits;
    }

-- silence leaves the sound as it was
pub record Silent (s : Sound) (wide compressed : Bool) (count room : ℕ) (t : Sound) (out : List ℕ) : Type 0 where
  pub kept : s ≡ t
  pub written : silence (sample_bytes wide compressed) count ≡ out
  pub fits : count * sample_bytes wide compressed ≤ room

pub silenced : (s : Sound) (stereo wide compressed : Bool) (count room : ℕ) (t : Sound) (out : List ℕ)
    → silence_step s stereo wide compressed count room ≡ taken t out → Silent s wide compressed count room t out
unfolding silence_step within
silenced s stereo wide compressed count room t out e =
    let a = first (even stereo count) _ _ _ (refused_taken 18 0 t out) e in
    let b = not_first _ _ _ _ (refused_taken 19 0 t out) a.1 in
    let d = same_taken s t (silence (sample_bytes wide compressed) count) out b.1 in
    record { kept = d.0; written = d.1; fits = ltb-false room _ b.0 }

pub silence_counted : (s : Sound) (stereo wide compressed : Bool) (count room : ℕ) → Counted (silence_step s stereo wide compressed count room) (count * sample_bytes wide compressed) room
silence_counted s stereo wide compressed count room =
    record {
      count =
          λ t out e.
          let a = silenced s stereo wide compressed count room t out e in
          ap length (sym a.written) ∙ silence_length wide compressed count;
      fits = λ t out e. (silenced s stereo wide compressed count room t out e).fits;
    }

-- ---- the room

kept_if : (step : Step) (room : List ℕ) → ((s : Sound) (bytes : List ℕ) → step ≡ taken s bytes → length bytes ≤ length room) → Kept step room
unfolding room_after
kept_if step room h =
    record {
      front = λ s bytes e. rw e (written_front bytes room);
      rest = λ s bytes e. rw e (written_rest bytes room);
      fits = h;
      refusal = λ n k e. rw e refl;
    }

-- a packet that is masked out writes nothing, and one without a format is refused; else it is as the step of its format
module _ (step : Bool → Bool → Bool → Step) (room : ℕ) (t : Sound) (bytes : List ℕ)
    (h : (stereo wide compressed : Bool) → step stereo wide compressed ≡ taken t bytes → length bytes ≤ room) where
  format_fits : (f : Option Format) → of_format f step ≡ taken t bytes → length bytes ≤ room
  unfolding of_format
  format_fits None e = absurd (refused_taken 17 0 t bytes e)
  format_fits (Some f) e = h f.stereo f.wide f.compressed e

  choice_fits : (s : Sound) (b : Bool) → cond b (of_format s.format step) (taken s []) ≡ taken t bytes → length bytes ≤ room
  choice_fits s true e = format_fits s.format e
  choice_fits s false e = omega (arith, ap length (same_taken s t [] bytes e).1)

  mask_fits : (s : Sound) (mask : ℕ) → of_mask s mask step ≡ taken t bytes → length bytes ≤ room
  unfolding of_mask
  mask_fits s mask e = choice_fits s (masked s.stream mask) e

pub data_kept : (s : Sound) (body room : List ℕ) → Kept (audio_data s body (length room)) room
unfolding audio_data
data_kept s body room =
    kept_if _ room
    (λ t bytes.
    mask_fits _ (length room) t bytes
    (λ stereo wide compressed e.
    let w = data_counted s stereo wide compressed (word_at body 4) (drop 6 body) (length room) in
    omega (arith, w.count t bytes e, w.fits t bytes e))
    s (word_at body 2))

pub silence_kept : (s : Sound) (body room : List ℕ) → Kept (audio_silence s body (length room)) room
unfolding audio_silence
silence_kept s body room =
    kept_if _ room
    (λ t bytes.
    mask_fits _ (length room) t bytes
    (λ stereo wide compressed e.
    let w = silence_counted s stereo wide compressed (word_at body 4) (length room) in
    omega (arith, w.count t bytes e, w.fits t bytes e))
    s (word_at body 2))

-- ---- of the opcodes: the count word of the body and the format that is kept

of_format_lem : (f : Option Format) (g : Format) (step : Bool → Bool → Bool → Step) (n room : ℕ) → f ≡ Some g → Counted (step g.stereo g.wide g.compressed) n room
    → Counted (of_format f step) n room
unfolding of_format
of_format_lem f g step n room e k = rw e k

module _ (s : Sound) (body : List ℕ) (room : ℕ) (g : Format) (m : masked s.stream (word_at body 2) ≡ true) (f : s.format ≡ Some g) where
  pub audio_counted : Counted (audio_data s body room) (word_at body 4 * sample_bytes g.wide g.compressed) room
  unfolding audio_data of_mask
  audio_counted =
      rw m
      (of_format_lem s.format g _ _ room f (data_counted s g.stereo g.wide g.compressed (word_at body 4) (drop 6 body) room))

  pub silent_counted : Counted (audio_silence s body room) (word_at body 4 * sample_bytes g.wide g.compressed) room
  unfolding audio_silence of_mask
  silent_counted =
      rw m
      (of_format_lem s.format g _ _ room f (silence_counted s g.stereo g.wide g.compressed (word_at body 4) room))
