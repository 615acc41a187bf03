-- `step_possible`: the state that a step gives is one that 16 accepts, with the stream that was chosen.
-- Assumes nothing.
use mathlib.Core.Path.{◌≡◌, refl, sym, ap, ◌∙◌}
use mathlib.Core.Bool.{Bool, true, false, cond}
use mathlib.Core.List.{List, []}
use Prim.Native.Nat.{ℕ, ◌+◌, ◌-◌, ◌*◌, ◌≤◌}
use native.Mathlib.Omega.{arith}
use borrow.Author.Tests.{le-ltb, le-leb, ltb-false, eqb-true}
use lib.Dec.{eqb, ltb}
use lib.ListN.{length, drop}
use Rattle.words.specs.Word.{word_at}
use Rattle.words.proofs.Tests.{first, not_first}
use Rattle.refusal.specs.Number.{accept, refuse}
use Rattle.packet.specs.declared.Rows.{Rows}
use Rattle.packet.specs.Verdict.{legal, legal_size}
use Rattle.stores.specs.Calls.{Answer, whole, unfinished, refusal}
use Rattle.draw.specs.declared.Allowed.{Allowed}
use Rattle.draw.specs.Call.{Reason, report}
use Rattle.palette.specs.Update.{Change}
use Rattle.palette.specs.Update as palette
use Rattle.sound.specs.declared.Format.{Format}
use Rattle.sound.specs.declared.Sound.{Sound}
use Rattle.sound.specs.Format.{format_of, possible_format, possible_sound, afresh, going_on, masked}
use Rattle.sound.specs.Step as sound
use Rattle.sound.specs.Sound.{answer, initialize_audio, of_format, of_mask, audio_data, audio_silence}
use Rattle.state.specs.declared.Cursor.{Cursor}
use Rattle.state.specs.declared.Part.{Part}
use Rattle.std.specs.Prelude.{Option, Some, None}
use Rattle.state.specs.State.{some_part}
use Rattle.state.specs.declared.State.{State}
use Rattle.state.specs.Moves.{cursor_behind, cursor_at_end, at, behind, at_end, sized, shown_next, sent, mapped, heard, finished}
use Rattle.state.specs.State.{most_front, possible_size, map_inside, possible, bounds_verdict, state_verdict}
use Rattle.next.proofs.Standing.{found_chunk}
use Rattle.next.proofs.Standing as next
use Rattle.opcodes.specs.Opcodes.{taken, refused, stored, quiet, is_deep, size_answer, colour_of, quiet_answer, heard_step, drawn_as}
use Rattle.opcodes.specs.Opcodes as step
use Rattle.film.specs.Film.{Lent, with_pictures, drawn_at, shortest, Outcome, after, request_of, draw_on, palette_step, map_to, heard_by, hear, step_of}
use Rattle.walk.specs.Possible.{OfState, Follows}
use Rattle.walk.specs.Draws.{body_of}
use Rattle.walk.specs.View.{View, refuses, ends, enters, sounds, maps, colours, too_short, undrawn, draws, others, end_of}
use Rattle.walk.proofs.View.{view_of}

none : (n : ℕ) → refuse n 0 ≡ accept → ⊥
none n e = let z : ◌≡◌ {A = ℕ} 0 1 = cc in omega arith

false_true : false ≡ true → ⊥
false_true e = let z : ◌≡◌ {A = ℕ} 0 1 = cc in omega arith

-- what 16 asks of a state beside its cursor
pub record Kept (film : ℕ) (st : State) : Type 0 where
  pub map : map_inside st.map film ≡ true
  pub front : st.front ≤ most_front st.deep
  pub rest : possible st ≡ true

pub kept_is : (st : State) (film : ℕ) → state_verdict st film ≡ accept → Kept film st
unfolding state_verdict bounds_verdict
kept_is st film v =
    let a = not_first (ltb st.cursor.chunk_end st.cursor.position) _ _ _ (none 16) v in
    let b = not_first (ltb film st.cursor.chunk_end) _ _ _ (none 16) a.1 in
    let c = first (map_inside st.map film) _ _ _ (none 16) b.1 in
    let d = not_first (ltb (most_front st.deep) st.front) _ _ _ (none 16) c.1 in
    let e = first (possible st) _ _ _ (none 16) d.1 in
    record { map = c.0; front = ltb-false _ _ d.0; rest = e.0 }

pub accepts : (st : State) (film : ℕ) → st.cursor.position ≤ st.cursor.chunk_end → st.cursor.chunk_end ≤ film → Kept film st → state_verdict st film ≡ accept
unfolding state_verdict bounds_verdict
accepts st film a b k = rw (le-ltb _ _ a, le-ltb _ _ b, k.map, le-ltb _ _ k.front, k.rest)

-- ---- sizes and fronts

shown_most : (d u : Bool) (f : ℕ) → f ≤ most_front d → shown_next d u f ≤ most_front d
unfolding shown_next most_front
shown_most d false f h = h
shown_most d true f h = by d (eqb f 0) (eqb f 1)
  where
    by : (d a b : Bool) → cond a 1 (cond d (cond b 2 0) 0) ≤ cond d 2 1
    by true true b = omega arith
    by true false true = omega arith
    by true false false = omega arith
    by false true b = omega arith
    by false false b = omega arith

-- before 05 no film has true colour, so front is 0 or 1, which it can be of any film
flat_front : (d e : Bool) (f : ℕ) → d ≡ false → f ≤ most_front d → f ≤ most_front e
unfolding most_front
flat_front true e f q h = absurd (false_true (sym q))
flat_front false true f q h = omega arith
flat_front false false f q h = h

pub unsized_flat : (deep : Bool) (columns rows : ℕ) → eqb columns 0 ≡ true → possible_size deep columns rows ≡ true → deep ≡ false
unfolding possible_size
unsized_flat true columns rows e h = absurd (false_true (rw e at h))
unsized_flat false columns rows e h = refl

not_legal : (rows : ℕ) → legal_size 0 rows ≡ false
unfolding legal_size legal
not_legal rows = refl

legal_possible : (deep : Bool) (columns rows : ℕ) → legal_size columns rows ≡ true → possible_size deep columns rows ≡ true
unfolding possible_size
legal_possible deep columns rows h = by (eqb columns 0) refl
  where
    by : (b : Bool) → eqb columns 0 ≡ b → cond b (cond deep false (eqb rows 0)) (legal_size columns rows) ≡ true
    by true e = absurd (false_true (sym (not_legal rows) ∙ ap (λ (n : ℕ). legal_size n rows) (sym (eqb-true columns 0 e)) ∙ h))
    by false e = h

-- ---- sound that is possible stays so, and so does its stream

module _ (s : Sound) where
  unfoldable Tuned : sound.Step → Type 0
  Tuned (sound.taken t bytes) = (possible_sound t ≡ true) × (t.stream ≡ s.stream)
  Tuned (sound.refused n k) = Unit

  module _ (h : possible_sound s ≡ true) where
    tuned_format : (version : ℕ) (body : List ℕ) → Tuned (initialize_audio s version body)
    unfolding initialize_audio Tuned afresh
    tuned_format version body = by (possible_format (format_of version (word_at body 2))) refl
      where
        by : (b : Bool) → possible_format (format_of version (word_at body 2)) ≡ b
            → Tuned (cond b (sound.taken (afresh s (format_of version (word_at body 2))) []) (sound.refused 17 0))
        by true e = (e, refl)
        by false e = tt

    tuned_within : (b room : ℕ) (step : sound.Step) → Tuned step → Tuned (sound.within b room step)
    unfolding sound.within Tuned
    tuned_within b room step t = by (ltb room b)
      where
        by : (c : Bool) → Tuned (cond c (sound.refused 19 0) step)
        by true = tt
        by false = t

    tuned_after : (stereo compressed : Bool) (bytes out : List ℕ) → Tuned (sound.taken (sound.sound_after s stereo compressed bytes) out)
    unfolding Tuned sound.sound_after going_on
    tuned_after stereo true bytes out = (h, refl)
    tuned_after stereo false bytes out = (h, refl)

    tuned_data : (stereo wide compressed : Bool) (count : ℕ) (bytes : List ℕ) (room : ℕ) → Tuned (sound.data_step s stereo wide compressed count bytes room)
    unfolding sound.data_step Tuned
    tuned_data stereo wide compressed count bytes room = by (sound.even stereo count) (sound.exact stereo wide compressed s.begun count (length bytes))
      where
        by : (b c : Bool)
            → Tuned (cond b (cond c (sound.within (count * sound.sample_bytes wide compressed) room
            (sound.taken (sound.sound_after s stereo compressed bytes) (sound.output s stereo compressed bytes))) (sound.refused 18 0)) (sound.refused 18 0))
        by true true =
            tuned_within (count * sound.sample_bytes wide compressed) room (sound.taken (sound.sound_after s stereo compressed bytes) (sound.output s stereo compressed bytes))
            (tuned_after stereo compressed bytes (sound.output s stereo compressed bytes))
        by true false = tt
        by false c = tt

    tuned_silence : (stereo wide compressed : Bool) (count room : ℕ) → Tuned (sound.silence_step s stereo wide compressed count room)
    unfolding sound.silence_step Tuned
    tuned_silence stereo wide compressed count room = by (sound.even stereo count)
      where
        by : (b : Bool)
            → Tuned (cond b (sound.within (count * sound.sample_bytes wide compressed) room (sound.taken s (sound.silence (sound.sample_bytes wide compressed) count))) (sound.refused 18 0))
        by true = tuned_within (count * sound.sample_bytes wide compressed) room (sound.taken s (sound.silence (sound.sample_bytes wide compressed) count)) (h, refl)
        by false = tt

    tuned_mask : (mask : ℕ) (step : Bool → Bool → Bool → sound.Step) → ((a b c : Bool) → Tuned (step a b c)) → Tuned (of_mask s mask step)
    unfolding of_mask of_format Tuned
    tuned_mask mask step t = by (masked s.stream mask) s.format
      where
        by : (b : Bool) (f : Option Format) → Tuned (cond b (of_format f step) (sound.taken s []))
        by true None = tt
        by true (Some f) = t f.stereo f.wide f.compressed
        by false f = (h, refl)

    tuned_heard : (kind version : ℕ) (body : List ℕ) (room : ℕ) → Tuned (heard_by s kind version body room)
    unfolding heard_by audio_data audio_silence
    tuned_heard kind version body room = by (eqb kind 3) (eqb kind 8)
      where
        by : (b c : Bool) → Tuned (cond b (initialize_audio s version body) (cond c (audio_data s body room) (audio_silence s body room)))
        by true c = tuned_format version body
        by false true = tuned_mask (word_at body 2) _ (λ stereo wide compressed. tuned_data stereo wide compressed (word_at body 4) (drop 6 body) room)
        by false false = tuned_mask (word_at body 2) _ (λ stereo wide compressed. tuned_silence stereo wide compressed (word_at body 4) room)

-- ---- each move

module _ (film : List ℕ) (st : State) (v : state_verdict st (length film) ≡ accept) where
  abbrev To : State → Type 0
  To = Follows (length film) st

  k : Kept (length film) st
  k = kept_is st (length film) v

  both : (possible_size st.deep st.columns st.rows ≡ true) × (possible_sound st.sound ≡ true)
  unfolding possible
  both = first (possible_size st.deep st.columns st.rows) false (possible_sound st.sound) true false_true k.rest

  to_at : (c : Cursor) → c.position ≤ c.chunk_end → c.chunk_end ≤ length film → To (at st c)
  unfolding at possible
  to_at c a b = record { possible = accepts (at st c) (length film) a b (record { map = k.map; front = k.front; rest = k.rest }); stream = refl }

  -- an opcode whose body ends at p
  module _ (p : ℕ) (within : p ≤ st.cursor.chunk_end) where
    inside : st.cursor.chunk_end ≤ length film
    inside = (next.possible st (length film) v).inside

    to_behind : To (behind st p)
    unfolding cursor_behind
    to_behind = to_at _ within inside

    to_end : To (at_end st (length film))
    unfolding cursor_at_end
    to_end = to_at _ (omega arith) (omega arith)

    to_sent : To (sent st p)
    unfolding sent possible cursor_behind
    to_sent =
        record {
          possible = accepts (sent st p) (length film) within inside (record { map = k.map; front = shown_most st.deep st.unsent st.front k.front; rest = k.rest });
          stream = refl;
        }

    to_mapped : (m : Option Part) → map_inside m (length film) ≡ true → To (mapped st p m)
    unfolding mapped possible cursor_behind
    to_mapped m h =
        record { possible = accepts (mapped st p m) (length film) within inside (record { map = h; front = k.front; rest = k.rest }); stream = refl }

    to_finished : To (finished st p)
    unfolding finished possible cursor_behind map_inside
    to_finished =
        record { possible = accepts (finished st p) (length film) within inside (record { map = refl; front = k.front; rest = k.rest }); stream = refl }

    to_heard : (s : Sound) → possible_sound s ≡ true → s.stream ≡ st.sound.stream → To (heard st p s)
    unfolding heard possible cursor_behind
    to_heard s h e =
        record { possible = accepts (heard st p s) (length film) within inside (record { map = k.map; front = k.front; rest = rw both.0 h }); stream = e }

    to_sized : (columns rows : ℕ) (deep : Bool) → eqb st.columns 0 ≡ true → legal_size columns rows ≡ true → To (sized st p columns rows deep)
    unfolding sized possible cursor_behind
    to_sized columns rows deep e h =
        record {
          possible =
              accepts (sized st p columns rows deep) (length film) within inside
              (record {
                map = k.map;
                front = flat_front st.deep deep st.front (unsized_flat st.deep st.columns st.rows e both.0) k.front;
                rest = rw (legal_possible deep columns rows h) both.1;
              });
          stream = refl;
        }

    -- ---- answers

    size_given : (columns rows c : ℕ) → OfState To (size_answer st p columns rows c)
    unfolding size_answer OfState
    size_given columns rows c = by (eqb st.columns 0) refl (legal_size columns rows) refl
      where
        by : (t : Bool) → eqb st.columns 0 ≡ t → (u : Bool) → legal_size columns rows ≡ u
            → OfState To (cond t (cond u (taken (sized st p columns rows (is_deep c))) (refused 6 0)) (refused 6 0))
        by true e true f = to_sized columns rows (is_deep c) e f
        by true e false f = tt
        by false e u f = tt

    quiet_given : (kind version : ℕ) (body : List ℕ) → OfState To (quiet_answer (length film) st kind version body p)
    unfolding quiet_answer OfState
    quiet_given kind version body = by (eqb kind 0) (eqb kind 5) (eqb kind 7)
      where
        by : (t u w : Bool)
            → OfState To (cond t (taken (at_end st (length film)))
            (cond u (size_answer st p (word_at body 0) (word_at body 2) (colour_of body version))
            (cond w (taken (sent st p)) (taken (behind st p)))))
        by true u w = to_end
        by false true w = size_given (word_at body 0) (word_at body 2) (colour_of body version)
        by false false true = to_sent
        by false false false = to_behind

    palette_given : (x : Change) → OfState To (palette_step st p x).answer
    unfolding palette_step OfState
    palette_given (palette.whole n) = to_behind
    palette_given (palette.unfinished n) = record { possible = v; stream = refl }
    palette_given (palette.refused n i) = tt

    map_given : (m : Option Part) → map_inside m (length film) ≡ true → (n : ℕ) (l : Lent) → OfState To (map_to st (mapped st p m) n l).step.answer
    unfolding map_to OfState
    map_given m h n l = by (eqb n 0)
      where
        by : (b : Bool)
            → OfState To (cond b (after (quiet (step.unfinished st)) l) (after (stored (taken (mapped st p m)) 1) (with_pictures l l.first l.second 0))).step.answer
        by true = record { possible = v; stream = refl }
        by false = to_mapped m h

    heard_given : (x : sound.Step) → Tuned st.sound x → OfState To (heard_step st p (answer x)).answer
    unfolding heard_step answer OfState Tuned
    heard_given (sound.taken s bytes) t = to_heard s t.0 t.1
    heard_given (sound.refused n i) t = tt

    drawn_given : (x : Answer Reason) (n : ℕ) (t : Option Rows) → OfState To (drawn_as st p x n t).answer
    unfolding drawn_as OfState
    drawn_given whole n t = to_finished
    drawn_given unfinished n t = record { possible = v; stream = refl }
    drawn_given (refusal r) n t = tt

    on_given : (map packet : List ℕ) (allowed : Allowed) (l : Lent) → OfState To (draw_on st p map packet allowed l).step.answer
    unfolding draw_on
    on_given map packet allowed l =
        let r = report (drawn_at st l) (request_of st map packet allowed l) in
        drawn_given r.answer r.count r.rows

-- ---- a step

module _ (film : List ℕ) (st : State) (allowed : Allowed) (l : Lent) where
  given : {o : Outcome} → View film st allowed l o → OfState (Follows (length film) st) o.step.answer
  unfolding OfState hear map_inside
  given (refuses n i e) = tt
  given (ends e v) = record { possible = v; stream = refl }
  given (enters c e v) =
      let f = found_chunk film st (length l.palette) (shortest st l) c e in
      to_at film st v c f.2.ordered f.2.inside
  given (sounds o a h) =
      heard_given film st a.accepted (end_of o) a.ready.within _
      (tuned_heard st.sound (both film st a.accepted).1 o.kind o.version (body_of film o) (length l.room))
  given (maps o a u e) =
      let h : o.start + (end_of o - o.start) ≤ length film = omega (arith, a.ready.inside) in
      map_given film st a.accepted (end_of o) a.ready.within (some_part o.start (end_of o - o.start)) (le-leb _ _ h) allowed.stores l
  given (colours o x a u c) = palette_given film st a.accepted (end_of o) a.ready.within _
  given (too_short o a u e d n) = tt
  given (undrawn o a u e m) = tt
  given (draws o start long a u e m n) = on_given film st a.accepted (end_of o) a.ready.within _ _ allowed l
  given (others o a u n) = quiet_given film st a.accepted (end_of o) a.ready.within o.kind o.version (body_of film o)

  pub step_possible : OfState (Follows (length film) st) (step_of film st allowed l).step.answer
  step_possible = given (view_of film st allowed l)
