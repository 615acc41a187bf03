-- `idle`: an opcode that is not kept does nothing but move the cursor. `shapes`: one that is taken where a stream is chosen is taken where none is.
-- Assumes nothing.
use mathlib.Core.Path.{◌≡◌, refl, sym, ap, ◌∙◌}
use mathlib.Core.Bool.{Bool, true, false, cond, not}
use mathlib.Core.List.{List}
use Prim.Native.Nat.{ℕ}
use native.Mathlib.Decide.{ℕ_discrete}
use native.Mathlib.Omega.{arith}
use borrow.Author.Tests.{eqb-true, eq-eqb, ne_eqb}
use lib.Dec.{eqb}
use Rattle.words.specs.Word.{word_at}
use Rattle.refusal.specs.Number.{accept}
use Rattle.room.specs.Room.{written}
use Rattle.parts.specs.Parts.{part}
use Rattle.draw.specs.declared.Allowed.{Allowed}
use Rattle.sound.specs.Format.{chosen, masked}
use Rattle.sound.specs.Step.{room_after}
use Rattle.sound.specs.Sound.{answer, of_mask, audio_data, audio_silence}
use Rattle.state.specs.declared.State.{State}
use Rattle.state.specs.Moves.{at, behind, heard}
use Rattle.heads.specs.declared.Opcode.{Opcode}
use Rattle.heads.specs.Heads.{passed_over, is_sound, hears, sound_verdict, shape_verdict, taken_verdict}
use Rattle.opcodes.specs.Opcodes.{taken, quiet, quiet_answer, heard_step}
use Rattle.film.specs.Film.{Lent, after, act, heard_by, hear, take_on}
use Rattle.chunks.specs.Chunks.{end_of}
use Rattle.strip.specs.Strip.{is_kept}
use Rattle.stripped.specs.Leaves.{kept_in}

apart : true ≡ false → ⊥
apart e = let z : ◌≡◌ {A = ℕ} 0 1 = cc in omega arith

-- a type that is passed over is none of these
module _ (kind : ℕ) (h : passed_over kind ≡ true) where
  other : (n : ℕ) → passed_over n ≡ false → eqb kind n ≡ false
  other n q = by (ℕ_discrete kind n)
    where
      by : Dec (kind ≡ n) → eqb kind n ≡ false
      by (yes e) = absurd (apart (sym h ∙ ap passed_over e ∙ q))
      by (no e) = ne_eqb kind n e

  passes : (film : List ℕ) (st : State) (version s : ℕ) (body : List ℕ) (p : ℕ) (allowed : Allowed) (l : Lent) → act film st kind version s body p allowed l ≡ after (quiet (taken (behind st p))) l
  unfolding act quiet_answer passed_over
  passes film st version s body p allowed l = rw (other 15 refl, other 17 refl, other 11 refl, other 12 refl, other 13 refl, other 0 refl, other 5 refl, other 7 refl)

data Tone (kind : ℕ) : Type 0 where
  format : kind ≡ 3 → Tone kind
  data_of : kind ≡ 8 → Tone kind
  silent : kind ≡ 9 → Tone kind

tone : (kind : ℕ) → is_sound kind ≡ true → Tone kind
unfolding is_sound
tone kind e = by (ℕ_discrete kind 3) (ℕ_discrete kind 8)
  where
    by : Dec (kind ≡ 3) → Dec (kind ≡ 8) → Tone kind
    by (yes q) d = format q
    by (no n) (yes q) = data_of q
    by (no n) (no m) = silent (eqb-true kind 9 (rw (ne_eqb kind 3 n, ne_eqb kind 8 m) at e))

-- 03, 08 and 09 are among them
sound_passed : (kind : ℕ) → Tone kind → passed_over kind ≡ true
unfolding passed_over
sound_passed kind (format e) = rw e
sound_passed kind (data_of e) = rw e
sound_passed kind (silent e) = rw e

sound_shaped : (kind v n : ℕ) → Tone kind → shape_verdict kind v n ≡ accept
unfolding shape_verdict passed_over
sound_shaped kind v n (format e) = rw e
sound_shaped kind v n (data_of e) = rw e
sound_shaped kind v n (silent e) = rw e

pub shapes : (b : Bool) (k v n : ℕ) → taken_verdict true k v n ≡ accept → taken_verdict b k v n ≡ accept
unfolding taken_verdict hears
shapes true k v n e = e
shapes false k v n e = by (is_sound k) refl e
  where
    by : (t : Bool) → is_sound k ≡ t → cond t (sound_verdict k v n) (shape_verdict k v n) ≡ accept → shape_verdict k v n ≡ accept
    by true q e = sound_shaped k v n (tone k q)
    by false q e = e

-- sound for another stream
other_stream : (st : State) (kind version : ℕ) (body : List ℕ) (p : ℕ) (l : Lent) → Tone kind → eqb kind 3 ≡ false → masked st.sound.stream (word_at body 2) ≡ false
    → hear st kind version body p l ≡ after (quiet (taken (behind st p))) l
unfolding hear heard_by audio_data audio_silence of_mask answer heard_step room_after written heard at
other_stream st kind version body p l (format e) n m = absurd (apart (sym (eq-eqb kind 3 e) ∙ n))
other_stream st kind version body p l (data_of e) n m = rw (e, m)
other_stream st kind version body p l (silent e) n m = rw (e, m)

pub idle : (film : List ℕ) (st : State) (allowed : Allowed) (l : Lent) (o : Opcode) → kept_in film st.sound.stream o ≡ false → take_on film st o allowed l ≡ after (quiet (taken (behind st (end_of o)))) l
unfolding take_on hears is_kept
idle film st allowed l o e = by (is_sound o.kind) (chosen st.sound.stream) (eqb o.kind 3) (passed_over o.kind) refl refl refl e
  where
    body : List ℕ
    body = part film o.start (end_of o)

    silence : passed_over o.kind ≡ true → act film st o.kind o.version o.start body (end_of o) allowed l ≡ after (quiet (taken (behind st (end_of o)))) l
    silence q = passes o.kind q film st o.version o.start body (end_of o) allowed l

    by : (t c k q : Bool) → is_sound o.kind ≡ t → eqb o.kind 3 ≡ k → passed_over o.kind ≡ q
        → cond t (cond k c (masked st.sound.stream (word_at body 2))) (not q) ≡ false
        → cond (cond c t false) (hear st o.kind o.version body (end_of o) l) (act film st o.kind o.version o.start body (end_of o) allowed l)
        ≡ after (quiet (taken (behind st (end_of o)))) l
    by true true true q et ek eq m = absurd (apart m)
    by true true false q et ek eq m = other_stream st o.kind o.version body (end_of o) l (tone o.kind et) ek m
    by true false k q et ek eq m = silence (sound_passed o.kind (tone o.kind et))
    by false c k false et ek eq m = absurd (apart m)
    by false true k true et ek eq m = silence eq
    by false false k true et ek eq m = silence eq

-- 00 is kept
pub last_kept : (film : List ℕ) (stream : ℕ) (o : Opcode) → o.kind ≡ 0 → kept_in film stream o ≡ true
unfolding is_kept is_sound passed_over
last_kept film stream o k = rw k
