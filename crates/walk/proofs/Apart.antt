-- `step_apart`: of every step.
-- Assumes nothing.
use mathlib.Core.Path.{◌≡◌, refl}
use mathlib.Core.Bool.{Bool, true, false, cond}
use mathlib.Core.List.{List, []}
use Prim.Native.Nat.{ℕ, ◌+◌, ◌≤◌}
use native.Mathlib.Omega.{arith}
use lib.Dec.{eqb}
use lib.ListN.{length, drop}
use lib.Seq.{drop_at}
use Rattle.std.specs.Prelude.{Option}
use Rattle.room.specs.Room.{written}
use Rattle.packet.specs.declared.Rows.{Rows}
use Rattle.stores.specs.Calls.{step}
use Rattle.stores.specs.Calls as drawing
use Rattle.draw.specs.declared.Allowed.{Allowed}
use Rattle.draw.specs.Call.{Reason, calling, report}
use Rattle.words.specs.Word.{word_at}
use Rattle.palette.specs.Update.{Change}
use Rattle.palette.specs.Update as palette
use Rattle.sound.specs.declared.Sound.{Sound}
use Rattle.sound.specs.Format.{chosen, format_of, possible_format, afresh}
use Rattle.sound.specs.Step as sound
use Rattle.sound.specs.Sound.{answer, initialize_audio, audio_data, audio_silence}
use Rattle.sound.proofs.Kept.{data_kept, silence_kept}
use Rattle.state.specs.declared.State.{State}
use Rattle.heads.specs.declared.Opcode.{Opcode}
use Rattle.heads.specs.Heads.{hears}
use Rattle.opcodes.specs.Opcodes.{heard_step, drawn_as}
use Rattle.film.specs.Film.{Lent, with_room, drawn_at, Outcome, after, request_of, draw_on, part, palette_step, map_to, heard_by, hear, take_on, standing, step_of}
use Rattle.film.proofs.Pictures.{drawn_room}
use Rattle.walk.specs.Draws.{packet_of}
use Rattle.walk.specs.View.{end_of, View, refuses, ends, enters, sounds, maps, colours, too_short, undrawn, draws, others}
use Rattle.walk.specs.Apart.{RoomKept, OthersKept, AtSound, Apart}
use Rattle.walk.proofs.View.{view_of}

silent_by : (l : Lent) (b : Bool) {x y : Outcome} → RoomKept l x → RoomKept l y → RoomKept l (cond b x y)
silent_by l true p q = p
silent_by l false p q = q

-- a step that is no sound, whatever else it does
silent : (l : Lent) {o : Outcome} → o.lent.room ≡ l.room → o.step.bytes ≡ 0 → RoomKept l o
silent l e f = record { room = e; bytes = f }

-- ---- drawing

drawn_silent : (st : State) (p : ℕ) (x : drawing.Answer Reason) (n : ℕ) (t : Option Rows) → (drawn_as st p x n t).bytes ≡ 0
unfolding drawn_as
drawn_silent st p drawing.whole n t = refl
drawn_silent st p drawing.unfinished n t = refl
drawn_silent st p (drawing.refusal r) n t = refl

-- ---- palettes

change_silent : (st : State) (p : ℕ) (x : Change) → (palette_step st p x).bytes ≡ 0
unfolding palette_step
change_silent st p (palette.whole n) = refl
change_silent st p (palette.unfinished n) = refl
change_silent st p (palette.refused n k) = refl

module _ (film : List ℕ) (st : State) (allowed : Allowed) (l : Lent) where
  on_silent : (p : ℕ) (map packet : List ℕ) → RoomKept l (draw_on st p map packet allowed l)
  unfolding draw_on
  on_silent p map packet =
      let r = report (drawn_at st l) (request_of st map packet allowed l) in
      silent l (drawn_room st l (step calling (drawn_at st l) (request_of st map packet allowed l))) (drawn_silent st p r.answer r.count r.rows)

  -- ---- sound

  heard_apart : (p : ℕ) (x : sound.Step) → ((s : Sound) (bytes : List ℕ) → x ≡ sound.taken s bytes → length bytes ≤ length l.room)
      → OthersKept l (after (heard_step st p (answer x)) (with_room l (sound.room_after x l.room)))
  unfolding heard_step answer sound.room_after written
  heard_apart p (sound.taken s bytes) f =
      record { others = refl; stores = refl; fits = f s bytes refl; rest = drop_at bytes (drop (length bytes) l.room) (length bytes) refl }
  heard_apart p (sound.refused n k) f = record { others = refl; stores = refl; fits = omega arith; rest = refl }

  -- 03 writes nothing
  format_fits : (s : Sound) (version : ℕ) (body : List ℕ) (t : Sound) (bytes : List ℕ) → initialize_audio s version body ≡ sound.taken t bytes → length bytes ≤ length l.room
  unfolding initialize_audio
  format_fits s version body t bytes = by (possible_format (format_of version (word_at body 2)))
    where
      by : (b : Bool) → cond b (sound.taken (afresh s (format_of version (word_at body 2))) []) (sound.refused 17 0) ≡ sound.taken t bytes → length bytes ≤ length l.room
      by true e = let q : [] ≡ bytes = cc in rw (← q) (omega arith)
      by false e = absurd (let z : ◌≡◌ {A = ℕ} 0 1 = cc in let y : ⊥ = omega arith in y)

  sound_fits : (s : Sound) (kind version : ℕ) (body : List ℕ) (t : Sound) (bytes : List ℕ)
      → heard_by s kind version body (length l.room) ≡ sound.taken t bytes → length bytes ≤ length l.room
  unfolding heard_by
  sound_fits s kind version body t bytes = by (eqb kind 3) (eqb kind 8)
    where
      by : (a b : Bool)
          → cond a (initialize_audio s version body) (cond b (audio_data s body (length l.room)) (audio_silence s body (length l.room))) ≡ sound.taken t bytes
          → length bytes ≤ length l.room
      by true b e = format_fits s version body t bytes e
      by false true e = (data_kept s body l.room).fits t bytes e
      by false false e = (silence_kept s body l.room).fits t bytes e

  taken_sound : (o : Opcode) → hears (chosen st.sound.stream) o.kind ≡ true → OthersKept l (take_on film st o allowed l)
  unfolding take_on hear
  taken_sound o e =
      let body = part film o.start (o.start + o.long) in
      rw e
      (heard_apart (o.start + o.long) (heard_by st.sound o.kind o.version body (length l.room))
      (sound_fits st.sound o.kind o.version body))

  silent_view : {o : Outcome} → View film st allowed l o → (AtSound film st l → ⊥) → RoomKept l o
  unfolding map_to
  silent_view (refuses n k e) f = silent l refl refl
  silent_view (ends e v) f = silent l refl refl
  silent_view (enters c e v) f = silent l refl refl
  silent_view (sounds o a h) f = absurd (f (record { found = o; stands = a.stands; acted = h }))
  silent_view (maps o a u e) f = silent_by l (eqb allowed.stores 0) (silent l refl refl) (silent l refl refl)
  silent_view (colours o x a u c) f = silent l refl (change_silent st (end_of o) _)
  silent_view (too_short o a u e d n) f = silent l refl refl
  silent_view (undrawn o a u e m) f = silent l refl refl
  silent_view (draws o start long a u e m c) f = on_silent (end_of o) (part film start (start + long)) (packet_of film o)
  silent_view (others o a u x) f = silent l refl refl

  pub step_apart : Apart film st allowed l
  unfolding step_of standing
  step_apart = record { sound = λ a. rw a.stands (taken_sound a.found a.acted); other = silent_view (view_of film st allowed l) }
