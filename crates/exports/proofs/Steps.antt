-- Every state that a call gives has `Crosses`: `first_crosses`, `step_crosses`, `begin_crosses`. And a refused step answers nothing but its refusal: `step_lawful`.
-- Assumes nothing.
use mathlib.Core.Path.{◌≡◌, refl, sym, ◌∙◌, subst}
use mathlib.Core.Bool.{Bool, true, false, cond}
use mathlib.Core.List.{List, [], ◌∷◌}
use Prim.Native.Nat.{ℕ, zero, suc, ◌+◌, ◌-◌, ◌*◌, ◌≤◌}
use native.Mathlib.Omega.{arith}
use lib.Dec.{eqb, ltb}
use lib.ListN.{length, drop}
use lib.Seq.{get_or-drop}
use Rattle.words.specs.Word.{word_at}
use Rattle.packet.specs.declared.Rows.{Rows}
use Rattle.packet.specs.Verdict.{legal_size}
use Rattle.stores.specs.Calls as drawing
use Rattle.draw.specs.declared.Allowed.{Allowed}
use Rattle.draw.specs.Call.{Reason, report}
use Rattle.palette.specs.Update.{Change}
use Rattle.palette.specs.Update as palette
use Rattle.palette.specs.Gradient.{create_gradient}
use Rattle.palette.specs.Entries.{set_palette}
use Rattle.palette.specs.Mask.{set_palette_compressed}
use Rattle.sound.specs.declared.Format.{Format}
use Rattle.sound.specs.declared.Sound.{Sound}
use Rattle.dpcm.specs.declared.Last.{Last}
use Rattle.dpcm.specs.Samples.{sample_after, turned, last_of}
use Rattle.dpcm.specs.Packet.{start_length, start_words, packet_first, packet_last}
use Rattle.sound.specs.Format.{chosen, carried, format_of, possible_format, afresh, going_on, masked}
use Rattle.sound.specs.Step as sound
use Rattle.sound.specs.Sound.{answer, initialize_audio, of_format, of_mask, audio_data, audio_silence}
use Rattle.state.specs.declared.Part.{Part}
use Rattle.std.specs.Prelude.{Option, Some, None}
use Rattle.state.specs.State.{some_part}
use Rattle.state.specs.declared.State.{State}
use Rattle.state.specs.Moves.{at, behind, at_end, sized, sent, mapped, heard, finished}
use Rattle.heads.specs.declared.Opcode.{Opcode}
use Rattle.heads.specs.Heads.{hears}
use Rattle.next.specs.Next.{Standing}
use Rattle.next.specs.Next as found
use Rattle.opcodes.specs.Opcodes.{Answer, Step, taken, whole, unfinished, ended, refused, stored, quiet, is_deep, size_answer, colour_of, quiet_answer, heard_step, drawn_as}
use Rattle.film.specs.Film.{words, Lent, lent, with_pictures, drawn_at, Outcome, after, request_of, draw_on, part, draw_mapped, is_body_short, draw_by, palette_step, update, map_to, act, act_on, heard_by, hear, take_on, standing, stands_at, step_of}
use Rattle.opening.specs.Opening.{Opening, started, refuses, begins, first_state, opening_of}
use Rattle.begin.specs.Begin.{zeros, allowance, step_before, course_of, Beginning, Came, came, follow, until, to_size, kept_by, nowhere, begin_at, begin_of}
use Rattle.begin.specs.Begin as begin
use Rattle.separate.specs.Separate.{Bytes}
use Rattle.separate.proofs.Same.{byte_part}
use Rattle.exports.specs.Boundary.{Narrow, CrossesSound, Crosses, OfAnswer, OfBeginning}
use Rattle.exports.proofs.Boundary.{known, known_unknown}

-- what holds of a step, by its answer
unfoldable pub Lawful : List ℕ → Answer → Step → Type 0
Lawful film (taken s) x = Crosses film s
Lawful film (whole s) x = Crosses film s
Lawful film (unfinished s) x = Crosses film s
Lawful film (ended s) x = Crosses film s
Lawful film (refused n k) x = x ≡ quiet (refused n k)

abbrev pub Good : List ℕ → Step → Type 0
Good film x = Lawful film x.answer x

quietly : (film : List ℕ) (x : Answer) → OfAnswer film x → Good film (quiet x)
unfolding Lawful OfAnswer
quietly film (taken s) g = g
quietly film (whole s) g = g
quietly film (unfinished s) g = g
quietly film (ended s) g = g
quietly film (refused n k) g = refl

-- ---- sound: a format that is known stays known, and a sample keeps its 16 bits

-- the last samples of a packet of bytes
turned_narrow : (stereo : Bool) (l : Last) (v : ℕ) → l.next ≤ 65535 → l.other ≤ 65535 → v ≤ 65535 → ((turned stereo l v).next ≤ 65535) × ((turned stereo l v).other ≤ 65535)
unfolding turned
turned_narrow true l v h i j = (i, j)
turned_narrow false l v h i j = (j, i)

sample_narrow : (last b : ℕ) → sample_after last b ≤ 65535
unfolding sample_after
sample_narrow last b = omega arith

last_narrow : (stereo : Bool) (l : Last) (bytes : List ℕ) → l.next ≤ 65535 → l.other ≤ 65535 → ((last_of stereo l bytes).next ≤ 65535) × ((last_of stereo l bytes).other ≤ 65535)
unfolding last_of
last_narrow stereo l [] h i = (h, i)
last_narrow stereo l (b ∷ bs) h i =
    let t = turned_narrow stereo l (sample_after l.next b) h i (sample_narrow l.next b) in
    last_narrow stereo (turned stereo l (sample_after l.next b)) bs t.0 t.1

word_narrow : (bytes : List ℕ) → Bytes bytes → (i : ℕ) → word_at bytes i ≤ 65535
unfolding word_at
word_narrow bytes h i = omega (arith, h i, h (i + 1))

first_narrow : (stereo begun : Bool) (l : Last) (bytes : List ℕ) → Bytes bytes → l.next ≤ 65535 → l.other ≤ 65535
    → ((packet_first stereo begun l bytes).next ≤ 65535) × ((packet_first stereo begun l bytes).other ≤ 65535)
unfolding packet_first start_words
first_narrow stereo true l bytes h i j = (i, j)
first_narrow true false l bytes h i j = (word_narrow bytes h 0, word_narrow bytes h 2)
first_narrow false false l bytes h i j = (word_narrow bytes h 0, j)

packet_narrow : (s : Sound) (stereo : Bool) (bytes : List ℕ) → Bytes bytes → Narrow s → Narrow (going_on s (packet_last stereo s.begun (carried s) bytes))
unfolding going_on packet_last
packet_narrow s stereo bytes h n =
    let f = first_narrow stereo s.begun (carried s) bytes h n.0 n.1 in
    last_narrow stereo (packet_first stereo s.begun (carried s) bytes) (drop (start_length stereo s.begun) bytes) f.0 f.1

drop_bytes : (n : ℕ) (bytes : List ℕ) → Bytes bytes → Bytes (drop n bytes)
drop_bytes n bytes h i = rw get_or-drop (h (n + i))

unfoldable Kept : List ℕ → sound.Step → Type 0
Kept film (sound.taken s bytes) = CrossesSound film s
Kept film (sound.refused n k) = Unit

module _ (film : List ℕ) (s : Sound) (p : CrossesSound film s) where
  kept_format : (version : ℕ) (body : List ℕ) → Kept film (initialize_audio s version body)
  unfolding initialize_audio Kept afresh format_of
  kept_format version body = by (possible_format (format_of version (word_at body 2)))
    where
      by : (b : Bool) → Kept film (cond b (sound.taken (afresh s (format_of version (word_at body 2))) []) (sound.refused 17 0))
      by true = record { plain = λ e. absurd (known_unknown _ _ _ e); narrow = λ _. (omega arith, omega arith) }
      by false = tt

  kept_within : (bytes room : ℕ) (x : sound.Step) → Kept film x → Kept film (sound.within bytes room x)
  unfolding sound.within Kept
  kept_within bytes room x k = by (ltb room bytes)
    where
      by : (b : Bool) → Kept film (cond b (sound.refused 19 0) x)
      by true = tt
      by false = k

  module _ (stereo wide compressed : Bool) (q : s.format ≡ known stereo wide compressed) where
    crosses_after : (bytes : List ℕ) → (Bytes film → Bytes bytes) → CrossesSound film (sound.sound_after s stereo compressed bytes)
    unfolding sound.sound_after going_on
    crosses_after bytes h = by compressed
      where
        by : (b : Bool) → CrossesSound film (cond b (going_on s (packet_last stereo s.begun (carried s) bytes)) s)
        by true =
            record {
              plain = λ e. absurd (known_unknown stereo wide compressed (sym q ∙ e));
              narrow = λ f. packet_narrow s stereo bytes (h f) (p.narrow f);
            }
        by false = p

    kept_data : (count : ℕ) (bytes : List ℕ) → (Bytes film → Bytes bytes) → (room : ℕ) → Kept film (sound.data_step s stereo wide compressed count bytes room)
    unfolding sound.data_step Kept
    kept_data count bytes h room = by (sound.even stereo count) (sound.exact stereo wide compressed s.begun count (length bytes))
      where
        x : sound.Step
        x = sound.taken (sound.sound_after s stereo compressed bytes) (sound.output s stereo compressed bytes)

        by : (b c : Bool) → Kept film (cond b (cond c (sound.within (count * sound.sample_bytes wide compressed) room x) (sound.refused 18 0)) (sound.refused 18 0))
        by true true = kept_within (count * sound.sample_bytes wide compressed) room x (crosses_after bytes h)
        by true false = tt
        by false c = tt

    kept_silence : (count room : ℕ) → Kept film (sound.silence_step s stereo wide compressed count room)
    unfolding sound.silence_step Kept
    kept_silence count room = by (sound.even stereo count)
      where
        x : sound.Step
        x = sound.taken s (sound.silence (sound.sample_bytes wide compressed) count)

        by : (b : Bool) → Kept film (cond b (sound.within (count * sound.sample_bytes wide compressed) room x) (sound.refused 18 0))
        by true = kept_within (count * sound.sample_bytes wide compressed) room x p
        by false = tt

  kept_mask : (mask : ℕ) (step : Bool → Bool → Bool → sound.Step) → ((a b c : Bool) → s.format ≡ known a b c → Kept film (step a b c)) → Kept film (of_mask s mask step)
  unfolding of_mask of_format Kept
  kept_mask mask step t = by (masked s.stream mask) s.format refl
    where
      by : (b : Bool) (f : Option Format) → s.format ≡ f → Kept film (cond b (of_format f step) (sound.taken s []))
      by true None e = tt
      by true (Some f) e = t f.stereo f.wide f.compressed e
      by false f e = p

  kept_heard : (kind version : ℕ) (body : List ℕ) → (Bytes film → Bytes body) → (room : ℕ) → Kept film (heard_by s kind version body room)
  unfolding heard_by audio_data audio_silence
  kept_heard kind version body h room = by (eqb kind 3) (eqb kind 8)
    where
      by : (b c : Bool) → Kept film (cond b (initialize_audio s version body) (cond c (audio_data s body room) (audio_silence s body room)))
      by true c = kept_format version body
      by false true =
          kept_mask (word_at body 2) _ (λ stereo wide compressed q. kept_data stereo wide compressed q (word_at body 4) (drop 6 body) (λ f. drop_bytes 6 body (h f)) room)
      by false false = kept_mask (word_at body 2) _ (λ stereo wide compressed q. kept_silence stereo wide compressed q (word_at body 4) room)

-- ---- an opcode whose body ends at p

module _ (film : List ℕ) (st : State) (c : Crosses film st) (p : ℕ) where
  size_given : (columns rows colour : ℕ) → OfAnswer film (size_answer st p columns rows colour)
  unfolding size_answer OfAnswer sized
  size_given columns rows colour = by (eqb st.columns 0) (legal_size columns rows)
    where
      by : (t u : Bool) → OfAnswer film (cond t (cond u (taken (sized st p columns rows (is_deep colour))) (refused 6 0)) (refused 6 0))
      by true true = c
      by true false = tt
      by false u = tt

  quiet_given : (kind version : ℕ) (body : List ℕ) → OfAnswer film (quiet_answer (length film) st kind version body p)
  unfolding quiet_answer OfAnswer at sent
  quiet_given kind version body = by (eqb kind 0) (eqb kind 5) (eqb kind 7)
    where
      by : (t u v : Bool)
          → OfAnswer film (cond t (taken (at_end st (length film)))
          (cond u (size_answer st p (word_at body 0) (word_at body 2) (colour_of body version))
          (cond v (taken (sent st p)) (taken (behind st p)))))
      by true u v = c
      by false true v = size_given (word_at body 0) (word_at body 2) (colour_of body version)
      by false false true = c
      by false false false = c

  change_good : (x : Change) → Good film (palette_step st p x)
  unfolding palette_step Lawful at
  change_good (palette.whole n) = c
  change_good (palette.unfinished n) = c
  change_good (palette.refused n k) = refl

  map_good : (m : Option Part) (n : ℕ) (l : Lent) → Good film (map_to st (mapped st p m) n l).step
  unfolding map_to Lawful mapped
  map_good m n l = by (eqb n 0)
    where
      by : (t : Bool) → Good film (cond t (after (quiet (unfinished st)) l) (after (stored (taken (mapped st p m)) 1) (with_pictures l l.first l.second 0))).step
      by true = c
      by false = c

  drawn_good : (x : drawing.Answer Reason) (n : ℕ) (t : Option Rows) → Good film (drawn_as st p x n t)
  unfolding drawn_as Lawful finished
  drawn_good drawing.whole n t = c
  drawn_good drawing.unfinished n t = c
  drawn_good (drawing.refusal r) n t = refl

  on_good : (map packet : List ℕ) (n : Allowed) (l : Lent) → Good film (draw_on st p map packet n l).step
  unfolding draw_on
  on_good map packet n l = let r = report (drawn_at st l) (request_of st map packet n l) in drawn_good r.answer r.count r.rows

  mapped_good : (m : Option Part) (body : List ℕ) (n : Allowed) (l : Lent) → Good film (draw_mapped m film st body p n l).step
  unfolding draw_mapped Lawful
  mapped_good None body n l = refl
  mapped_good (Some map) body n l = by (eqb st.columns 0)
    where
      by : (t : Bool) → Good film (cond t (after (quiet (refused 9 0)) l) (draw_on st p (part film map.start (map.start + map.long)) (part body 14 (length body)) n l)).step
      by true = refl
      by false = on_good (part film map.start (map.start + map.long)) (part body 14 (length body)) n l

  by_good : (m : Option Part) (body : List ℕ) (n : Allowed) (l : Lent) → Good film (draw_by m film st body p n l).step
  unfolding draw_by Lawful
  by_good m body n l = by (is_body_short st.deep (length body))
    where
      by : (t : Bool) → Good film (cond t (after (quiet (refused 5 0)) l) (draw_mapped m film st body p n l)).step
      by true = refl
      by false = mapped_good m body n l

  act_good : (kind version s : ℕ) (body : List ℕ) (n : Allowed) (l : Lent) → Good film (act film st kind version s body p n l).step
  unfolding act
  act_good kind version s body n l = by (eqb kind 15) (eqb kind 17) (eqb kind 11) (eqb kind 12) (eqb kind 13)
    where
      by : (t15 t17 t11 t12 t13 : Bool)
          → Good film
          (cond t15 (map_to st (mapped st p (some_part s (p - s))) n.stores l)
          (cond t17 (draw_by st.map film st body p n l)
          (cond t11 (update st p (create_gradient body) n.stores l)
          (cond t12 (update st p (set_palette body) n.stores l)
          (cond t13 (update st p (set_palette_compressed body) n.stores l)
          (after (quiet (quiet_answer (length film) st kind version body p)) l)))))
          ).step
      by true t17 t11 t12 t13 = map_good (some_part s (p - s)) n.stores l
      by false true t11 t12 t13 = by_good st.map body n l
      by false false true t12 t13 = change_good _
      by false false false true t13 = change_good _
      by false false false false true = change_good _
      by false false false false false = quietly film _ (quiet_given kind version body)

  heard_good : (x : sound.Step) → Kept film x → Good film (heard_step st p (answer x))
  unfolding heard_step answer Lawful Kept heard
  heard_good (sound.taken s bytes) k = k
  heard_good (sound.refused n i) k = refl

  hear_good : (kind version : ℕ) (body : List ℕ) → (Bytes film → Bytes body) → (l : Lent) → Good film (hear st kind version body p l).step
  unfolding hear
  hear_good kind version body h l = heard_good _ (kept_heard film st.sound c kind version body h (length l.room))

-- ---- a step

module _ (film : List ℕ) (st : State) (c : Crosses film st) (n : Allowed) (l : Lent) where
  take_good : (o : Opcode) (b : Bool)
      → Good film (cond b (hear st o.kind o.version (part film o.start (o.start + o.long)) (o.start + o.long) l) (act_on film st o n l)).step
  take_good o true =
      hear_good film st c (o.start + o.long) o.kind o.version (part film o.start (o.start + o.long)) (λ h i. byte_part film o.start (o.start + o.long - o.start) i h) l
  take_good o false = act_good film st c (o.start + o.long) o.kind o.version o.start (part film o.start (o.start + o.long)) n l

  standing_good : (s : Standing) → Good film (standing s film st n l).step
  unfolding standing take_on Lawful at
  standing_good (found.refused i k) = refl
  standing_good found.ended = c
  standing_good (found.chunk d) = c
  standing_good (found.opcode o) = take_good o (hears (chosen st.sound.stream) o.kind)

  pub step_lawful : Good film (step_of film st n l).step
  unfolding step_of
  step_lawful = standing_good (stands_at film st l)

given_of : (film : List ℕ) (x : Answer) (s : Step) → Lawful film x s → OfAnswer film x
unfolding Lawful OfAnswer
given_of film (taken s) x g = g
given_of film (whole s) x g = g
given_of film (unfinished s) x g = g
given_of film (ended s) x g = g
given_of film (refused n k) x g = tt

pub step_crosses : (film : List ℕ) (st : State) → Crosses film st → (n : Allowed) (l : Lent) → OfAnswer film (step_of film st n l).step.answer
step_crosses film st c n l = given_of film _ _ (step_lawful film st c n l)

-- ---- opening

unstarted : (st : State) → refuses 1 0 ≡ started st → ⊥
unstarted st e = let z : ◌≡◌ {A = ℕ} 0 1 = cc in omega arith

first_plain : (film : List ℕ) (stream : ℕ) → Crosses film (first_state stream)
unfolding first_state
first_plain film stream = record { plain = λ e. refl; narrow = λ _. (omega arith, omega arith) }

pub first_crosses : (film : List ℕ) (stream : ℕ) (st : State) → opening_of film stream ≡ started st → Crosses film st
unfolding opening_of
first_crosses film stream st = by (ltb (length film) 26) (begins film 26)
  where
    by : (b c : Bool) → cond b (refuses 1 0) (cond c (started (first_state stream)) (refuses 1 0)) ≡ started st → Crosses film st
    by true c e = absurd (unstarted st e)
    by false false e = absurd (unstarted st e)
    by false true e = let q : first_state stream ≡ st = cc in subst (Crosses film) q (first_plain film stream)

-- ---- the opening call

follow_crosses : (film : List ℕ) (on : State → List ℕ → ℕ → Came) → ((t : State) (q : List ℕ) (k : ℕ) → Crosses film t → OfBeginning film (on t q k).answer) → (st : State)
    → Crosses film st → (palette : List ℕ) (place : ℕ) (o : Outcome) (a : Answer) → OfAnswer film a → OfBeginning film (follow on st palette place (course_of a) o).answer
unfolding follow course_of OfBeginning OfAnswer
follow_crosses film on rest st c palette place o (taken t) g = rest t o.lent.palette o.lent.place g
follow_crosses film on rest st c palette place o (whole t) g = rest t o.lent.palette o.lent.place g
follow_crosses film on rest st c palette place o (unfinished t) g = rest t o.lent.palette o.lent.place g
follow_crosses film on rest st c palette place o (ended t) g = c
follow_crosses film on rest st c palette place o (refused n k) g = c

size_crosses : (film : List ℕ) (b : Bool) (x : Came) (st : State) → Crosses film st → (palette : List ℕ) (place : ℕ) → OfBeginning film x.answer
    → OfBeginning film (cond b x (came (begin.sized st) palette place)).answer
unfolding OfBeginning
size_crosses film true x st c palette place h = h
size_crosses film false x st c palette place h = c

until_crosses : (film : List ℕ) (n : ℕ) (st : State) (palette : List ℕ) (place : ℕ) → Crosses film st → OfBeginning film (until film n st palette place).answer
unfolding until OfBeginning
until_crosses film zero st palette place c = c
until_crosses film (suc n) st palette place c =
    size_crosses film (eqb st.columns 0) _ st c palette place
    (follow_crosses film (until film n) (λ t q k d. until_crosses film n t q k d) st c palette place (step_before film st palette place) _
    (step_crosses film st c allowance (lent palette [] [] place (zeros sound.enough) (words [] [] []))))

kept_crosses : (film palette : List ℕ) (place : ℕ) (c : Came) (b : Beginning) → OfBeginning film b → OfBeginning film c.answer → OfBeginning film (kept_by b palette place c).answer
unfolding kept_by OfBeginning
kept_crosses film palette place c (begin.sized st) h i = i
kept_crosses film palette place c (begin.stopped n k st) h i = h

nowhere_crosses : (film : List ℕ) → Crosses film nowhere
unfolding nowhere
nowhere_crosses film = record { plain = λ e. refl; narrow = λ _. (omega arith, omega arith) }

at_crosses : (film : List ℕ) (o : Opening) (palette : List ℕ) (place : ℕ) → ((st : State) → o ≡ started st → Crosses film st) → OfBeginning film (begin_at o film palette place).answer
unfolding begin_at OfBeginning
at_crosses film (started st) palette place h =
    let u = until_crosses film (suc (length film)) st palette place (h st refl) in
    kept_crosses film palette place (to_size film st palette place) (to_size film st palette place).answer u u
at_crosses film (refuses n k) palette place h = nowhere_crosses film

pub begin_crosses : (film : List ℕ) (stream : ℕ) (palette : List ℕ) (place : ℕ) → OfBeginning film (begin_of film stream palette place).answer
begin_crosses film stream palette place = at_crosses film (opening_of film stream) palette place (λ st e. first_crosses film stream st e)
