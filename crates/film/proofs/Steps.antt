-- A step by what code found.
-- Assumes nothing.
use mathlib.Core.Path.{◌≡◌, refl, sym, ap, ap₂, ◌∙◌}
use mathlib.Core.Bool.{Bool, true, false, cond}
use mathlib.Core.List.{List, []}
use Prim.Native.Nat.{ℕ, ◌+◌, ◌*◌, ◌-◌, ◌≤◌}
use native.Mathlib.Decide.{ℕ_discrete}
use borrow.Author.Tests.{eq-eqb, ne_eqb, leb-true}
use lib.Dec.{ltb}
use lib.ListN.{length}
use Rattle.refusal.specs.declared.Refusal.{Refusal}
use Rattle.refusal.specs.Number.{Verdict, accept, refuse, number, block}
use Rattle.packet.specs.Packet.{pixels}
use Rattle.packet.specs.Verdict.{legal_size}
use Rattle.packet.proofs.Sizes.{few}
use Rattle.stores.specs.Stores.{Memory, memory}
use Rattle.stores.specs.Calls.{step}
use Rattle.draw.specs.declared.Allowed.{Allowed}
use Rattle.draw.specs.Call.{Request, asking, request, word_request, call_verdict_in, call_verdict, draw_verdict, calling, Pictures, word_pictures, pictures, leaves, Report, report}
use Rattle.draw.proofs.Judged.{accepted_call, either_verdict}
use Rattle.draw.proofs.Called.{says_refused}
use Rattle.word_calls.specs.Asked.{Judged}
use Rattle.palette.specs.declared.Changed.{Changed}
use Rattle.palette.specs.declared.Changed.TheVariants.{Whole, Unfinished}
use Rattle.palette.specs.Update.{Change, change_on, palette_after, changed_as}
use Rattle.palette.specs.Gradient.{create_gradient}
use Rattle.palette.specs.Entries.{set_palette}
use Rattle.palette.specs.Mask.{set_palette_compressed}
use Rattle.words.specs.Word.{word_at}
use Rattle.room.specs.Room.{written}
use Rattle.sound.specs.declared.Sound.{Sound}
use Rattle.sound.specs.declared.Heard.{Heard}
use Rattle.sound.specs.Format.{chosen, format_of, possible_format, afresh}
use Rattle.sound.specs.Step.{room_after}
use Rattle.sound.specs.Step as sound
use Rattle.sound.specs.Sound.{heard_as, answer, initialize_audio, audio_data, audio_silence}
use Rattle.state.specs.declared.Cursor.{Cursor}
use Rattle.state.specs.declared.Part.{Part}
use Rattle.state.specs.declared.State.{State}
use Rattle.state.specs.Moves.{behind, into, mapped}
use Rattle.state.specs.State.{some_part, map_inside}
use Rattle.heads.specs.declared.Opcode.{Opcode}
use Rattle.heads.specs.Heads.{hears}
use Rattle.next.specs.declared.Next.{Next}
use Rattle.std.specs.Prelude.{Option, Some, None, Result, Ok, Err}
use Rattle.next.specs.declared.Next.TheVariants as found
use Rattle.next.specs.Next.{next_as, next_of, Possible, Ready}
use Rattle.next.proofs.Standing.{found_ready}
use Rattle.opcodes.specs.Opcodes.{Step, taken, unfinished, ended, refused, stored, quiet, quiet_answer, heard_step, drawn_as, drawn_step}
use Rattle.film.specs.Film.{words, Lent, with_palette, with_pictures, with_words, with_room, shortest, Outcome, after, Turn, bytes0, bytes1, words0, words1, words2, turn_of, last_in, new_in, oldest_in, with_new, drawn_at, with_drawn, request_of, draw_on, part, draw_mapped, is_body_short, draw_by, palette_step, map_to, act, act_on, heard_by, hear, take_on, standing, step_of}
use Rattle.film.proofs.Pictures.{first_shown, second_shown, shown_0, shown_1, shown_2, drawn_back}

-- ---- 11

module _ (st : State) (p : ℕ) (map packet : List ℕ) (allowed : Allowed) (l : Lent) where
  -- by the film's kind and by which picture is shown
  abbrev request_in : Bool → Turn → Request
  request_in deep t = asking deep st.columns st.rows map packet (last_in t l) (oldest_in t l) allowed

  abbrev drawn_in : Turn → Memory
  drawn_in t = memory (new_in t l) l.place

  abbrev called_in : Bool → Turn → Outcome
  called_in deep t = after (drawn_step st p (report (drawn_in t) (request_in deep t))) (with_new t l (step calling (drawn_in t) (request_in deep t)))

  -- a drawing call that left m
  drew : (deep : Bool) (t : Turn) → st.deep ≡ deep → turn_of st ≡ t → (x : Step) (o : Report) (m : Memory) → x ≡ drawn_step st p o
      → o ≡ report (drawn_in t) (request_in deep t) → word_pictures (last_in t l) (oldest_in t l) m ≡ leaves (request_in deep t) (drawn_in t)
      → after x (with_new t l m) ≡ draw_on st p map packet allowed l
  unfolding draw_on
  drew deep t d e x o m f g h =
      ap (λ (z : Step). after z (with_new t l m)) (f ∙ ap (drawn_step st p) g)
      ∙ (ap (λ (y : Pictures). after (drawn_step st p (report (drawn_in t) (request_in deep t))) (with_new t l y.drawn)) h ∙ sym (ap₂ called_in d e))

  -- one that is refused
  refused_drawn : (n k : ℕ) → refuse n k ≡ draw_verdict (request_of st map packet allowed l) (drawn_at st l) → after (quiet (refused n k)) l ≡ draw_on st p map packet allowed l
  unfolding draw_on drawn_as
  refused_drawn n k v =
      let s = says_refused (request_of st map packet allowed l) (drawn_at st l) n k v in
      ap (λ (o : Report). after (drawn_step st p o) l) s.1
      ∙ ap (after (drawn_step st p (report (drawn_at st l) (request_of st map packet allowed l)))) (sym (drawn_back st l) ∙ ap (λ (y : Pictures). with_drawn st l y.drawn) s.0)

  refused_in : (deep : Bool) (t : Turn) → st.deep ≡ deep → turn_of st ≡ t → (n k : ℕ) → refuse n k ≡ draw_verdict (request_in deep t) (drawn_in t)
      → after (quiet (refused n k)) l ≡ draw_on st p map packet allowed l
  refused_in deep t d e n k v = refused_drawn n k (v ∙ sym (ap₂ (λ (b : Bool) (u : Turn). draw_verdict (request_in b u) (drawn_in u)) d e))

-- pictures of bytes
module _ (st : State) (p : ℕ) (map packet : List ℕ) (allowed : Allowed) (a b : List ℕ) (place : ℕ) (d : st.deep ≡ false) where
  module _ (x : Step) (n : List ℕ) (k : ℕ) (o : Report) (f : x ≡ drawn_step st p o) (l : Lent) where
    pub drew_second : st.front ≡ 0 → o ≡ report (memory b place) (request st.columns st.rows map packet a allowed)
        → pictures a (memory n k) ≡ leaves (request st.columns st.rows map packet a allowed) (memory b place)
        → after x (with_pictures l a n k) ≡ draw_on st p map packet allowed (with_pictures l a b place)
    unfolding last_in new_in oldest_in with_new
    drew_second e g h = drew st p map packet allowed (with_pictures l a b place) false bytes0 d (first_shown _ _ d e) x o (memory n k) f g h

    pub drew_first : (st.front ≡ 0 → ⊥) → o ≡ report (memory a place) (request st.columns st.rows map packet b allowed)
        → pictures b (memory n k) ≡ leaves (request st.columns st.rows map packet b allowed) (memory a place)
        → after x (with_pictures l n b k) ≡ draw_on st p map packet allowed (with_pictures l a b place)
    unfolding last_in new_in oldest_in with_new
    drew_first e g h = drew st p map packet allowed (with_pictures l a b place) false bytes1 d (second_shown _ _ d e) x o (memory n k) f g h

  -- whichever picture is front
  pub refused_on : (l : Lent) (n k : ℕ) → refuse n k ≡ call_verdict allowed.spare st.columns st.rows map packet (length a) (length b) place
      → after (quiet (refused n k)) (with_pictures l a b place) ≡ draw_on st p map packet allowed (with_pictures l a b place)
  unfolding last_in new_in oldest_in
  refused_on l n k v = by (ℕ_discrete st.front 0)
    where
      by : Dec (st.front ≡ 0) → after (quiet (refused n k)) (with_pictures l a b place) ≡ draw_on st p map packet allowed (with_pictures l a b place)
      by (yes e) = refused_in st p map packet allowed (with_pictures l a b place) false bytes0 d (first_shown _ _ d e) n k v
      by (no e) =
          refused_in st p map packet allowed (with_pictures l a b place) false bytes1 d (second_shown _ _ d e) n k
          (v ∙ either_verdict allowed.spare st.columns st.rows map packet (length a) (length b) place)

-- pictures of words: all three are tested alike
pub next_verdict : (spare columns rows : ℕ) (map bytes : List ℕ) (x y z place : ℕ)
    → call_verdict_in true spare columns rows map bytes x y z place ≡ call_verdict_in true spare columns rows map bytes y z x place
unfolding call_verdict_in
next_verdict spare columns rows map bytes x y z place = by (ltb x (pixels columns rows)) (ltb y (pixels columns rows)) (ltb z (pixels columns rows)) _
  where
    by : (f o b : Bool) (v : Verdict)
        → cond (legal_size columns rows) (cond f (refuse 8 0) (cond o (refuse 8 0) (cond b (refuse 8 0) v))) (refuse 6 0)
        ≡ cond (legal_size columns rows) (cond o (refuse 8 0) (cond b (refuse 8 0) (cond f (refuse 8 0) v))) (refuse 6 0)
    by true true b v = refl
    by true false true v = refl
    by true false false v = refl
    by false true b v = refl
    by false false true v = refl
    by false false false v = refl

pub third_verdict : (spare columns rows : ℕ) (map bytes : List ℕ) (x y z place : ℕ)
    → call_verdict_in true spare columns rows map bytes x y z place ≡ call_verdict_in true spare columns rows map bytes z x y place
third_verdict spare columns rows map bytes x y z place =
    next_verdict spare columns rows map bytes x y z place ∙ next_verdict spare columns rows map bytes y z x place

-- what the loop over words asks of a call that is accepted
pub accepted_words : (spare columns rows : ℕ) (map bytes : List ℕ) (last oldest new place : ℕ) → accept ≡ call_verdict_in true spare columns rows map bytes last oldest new place
    → Judged columns rows map bytes last oldest new place
accepted_words spare columns rows map bytes last oldest new place v =
    let t = accepted_call true spare columns rows map bytes last oldest new place (sym v) in
    record { parts = t.2.accepted.parts; accepted = record { accepted = t.1; oldest_room = t.2.oldest_long } }

-- and of its count of blocks
pub few_words : (spare columns rows : ℕ) (map bytes : List ℕ) (last oldest new place : ℕ) → accept ≡ call_verdict_in true spare columns rows map bytes last oldest new place
    → columns * rows ≤ 4800
few_words spare columns rows map bytes last oldest new place v =
    few columns rows (accepted_call true spare columns rows map bytes last oldest new place (sym v)).0

module _ (st : State) (p : ℕ) (map packet : List ℕ) (allowed : Allowed) (c d e : List ℕ) (place : ℕ) (t : st.deep ≡ true) where
  module _ (x : Step) (n : List ℕ) (k : ℕ) (o : Report) (f : x ≡ drawn_step st p o) (l : Lent) where
    pub drew_1 : st.front ≡ 0 → o ≡ report (memory d place) (word_request st.columns st.rows map packet c e allowed)
        → word_pictures c e (memory n k) ≡ leaves (word_request st.columns st.rows map packet c e allowed) (memory d place)
        → after x (with_words l (words c n e) k) ≡ draw_on st p map packet allowed (with_words l (words c d e) place)
    unfolding last_in new_in oldest_in with_new
    drew_1 q g h = drew st p map packet allowed (with_words l (words c d e) place) true words0 t (shown_0 _ _ t q) x o (memory n k) f g h

    pub drew_2 : st.front ≡ 1 → o ≡ report (memory e place) (word_request st.columns st.rows map packet d c allowed)
        → word_pictures d c (memory n k) ≡ leaves (word_request st.columns st.rows map packet d c allowed) (memory e place)
        → after x (with_words l (words c d n) k) ≡ draw_on st p map packet allowed (with_words l (words c d e) place)
    unfolding last_in new_in oldest_in with_new
    drew_2 q g h = drew st p map packet allowed (with_words l (words c d e) place) true words1 t (shown_1 _ _ t q) x o (memory n k) f g h

    pub drew_0 : (st.front ≡ 0 → ⊥) → (st.front ≡ 1 → ⊥) → o ≡ report (memory c place) (word_request st.columns st.rows map packet e d allowed)
        → word_pictures e d (memory n k) ≡ leaves (word_request st.columns st.rows map packet e d allowed) (memory c place)
        → after x (with_words l (words n d e) k) ≡ draw_on st p map packet allowed (with_words l (words c d e) place)
    unfolding last_in new_in oldest_in with_new
    drew_0 q r g h = drew st p map packet allowed (with_words l (words c d e) place) true words2 t (shown_2 _ _ t q r) x o (memory n k) f g h

  -- whichever picture is front
  pub refused_words : (l : Lent) (n k : ℕ) → refuse n k ≡ call_verdict_in true allowed.spare st.columns st.rows map packet (length c) (length e) (length d) place
      → after (quiet (refused n k)) (with_words l (words c d e) place) ≡ draw_on st p map packet allowed (with_words l (words c d e) place)
  unfolding last_in new_in oldest_in
  refused_words l n k v = by (ℕ_discrete st.front 0) (ℕ_discrete st.front 1)
    where
      by : Dec (st.front ≡ 0) → Dec (st.front ≡ 1)
          → after (quiet (refused n k)) (with_words l (words c d e) place) ≡ draw_on st p map packet allowed (with_words l (words c d e) place)
      by (yes q) r = refused_in st p map packet allowed (with_words l (words c d e) place) true words0 t (shown_0 _ _ t q) n k v
      by (no q) (yes r) =
          refused_in st p map packet allowed (with_words l (words c d e) place) true words1 t (shown_1 _ _ t r) n k
          (v ∙ third_verdict allowed.spare st.columns st.rows map packet (length c) (length e) (length d) place)
      by (no q) (no r) =
          refused_in st p map packet allowed (with_words l (words c d e) place) true words2 t (shown_2 _ _ t q r) n k
          (v ∙ next_verdict allowed.spare st.columns st.rows map packet (length c) (length e) (length d) place)

pub short_deep : (deep : Bool) (n : ℕ) → deep ≡ true → ltb n 16 ≡ is_body_short deep n
unfolding is_body_short
short_deep deep n e = rw e

pub never_short : (deep : Bool) (n : ℕ) → deep ≡ false → false ≡ is_body_short deep n
unfolding is_body_short
never_short deep n e = rw e

module _ (m : Option Part) (film : List ℕ) (st : State) (body : List ℕ) (p : ℕ) (allowed : Allowed) (l : Lent) (b : Bool) (g : b ≡ is_body_short st.deep (length body)) where
  pub short_body : b ≡ true → after (quiet (refused 5 0)) l ≡ draw_by m film st body p allowed l
  unfolding draw_by
  short_body t = rw (← g, t)

  module _ (f : b ≡ false) where
    pub no_map : m ≡ None → after (quiet (refused 9 0)) l ≡ draw_by m film st body p allowed l
    unfolding draw_by draw_mapped
    no_map e = rw (← g, f, e)

    pub no_size : (map : Part) → m ≡ Some map → st.columns ≡ 0 → after (quiet (refused 9 0)) l ≡ draw_by m film st body p allowed l
    unfolding draw_by draw_mapped
    no_size map e q = rw (← g, f, e, eq-eqb _ _ q)

    pub draws : (map : Part) (o : Outcome) → m ≡ Some map → (st.columns ≡ 0 → ⊥) → o ≡ draw_on st p (part film map.start (map.start + map.long)) (part body 14 (length body)) allowed l
        → o ≡ draw_by m film st body p allowed l
    unfolding draw_by draw_mapped
    draws map o e n h = rw (← g, f, e, ne_eqb _ _ n) h

-- a pending map that lies inside
pub map_ends : (m : Option Part) (map : Part) (film : ℕ) → map_inside m film ≡ true → m ≡ Some map → map.start + map.long ≤ film
unfolding map_inside
map_ends m map film h e = leb-true (map.start + map.long) film (rw e at h)

-- ---- palettes

module _ (st : State) (p : ℕ) (c : Result Changed Refusal) where
  pub palette_whole : (n : ℕ) (x : State) → c ≡ Ok (Whole n) → x ≡ behind st p → stored (taken x) n ≡ palette_step st p (changed_as c)
  unfolding palette_step
  palette_whole n x e f = rw (e, f)

  pub palette_short : (n : ℕ) → c ≡ Ok (Unfinished n) → stored (unfinished st) n ≡ palette_step st p (changed_as c)
  unfolding palette_step
  palette_short n e = rw e

  pub palette_refused : (r : Refusal) → c ≡ Err r → quiet (refused (number r) (block r)) ≡ palette_step st p (changed_as c)
  unfolding palette_step
  palette_refused r e = rw e

-- ---- an opcode

module _ (film : List ℕ) (st : State) (kind version s : ℕ) (body : List ℕ) (p : ℕ) (allowed : Allowed) (l : Lent) where
  pub act_map : (x : State) (k : ℕ) → kind ≡ 15 → (allowed.stores ≡ 0 → ⊥) → x ≡ mapped st p (some_part s (p - s)) → k ≡ 0
      → after (stored (taken x) 1) (with_pictures l l.first l.second k) ≡ act film st kind version s body p allowed l
  unfolding act map_to
  act_map x k e n f g = rw (e, ne_eqb _ _ n, f, g)

  pub act_map_short : kind ≡ 15 → allowed.stores ≡ 0 → after (quiet (unfinished st)) l ≡ act film st kind version s body p allowed l
  unfolding act map_to
  act_map_short e z = rw (e, eq-eqb _ _ z)

  pub act_draw : (o : Outcome) → kind ≡ 17 → o ≡ draw_by st.map film st body p allowed l → o ≡ act film st kind version s body p allowed l
  unfolding act
  act_draw o e h = rw e h

  module _ (x : Step) (q : List ℕ) (v : Change) (f : x ≡ palette_step st p v) where
    pub act_gradient : kind ≡ 11 → v ≡ change_on (create_gradient body) allowed.stores l.palette → q ≡ palette_after (create_gradient body) allowed.stores l.palette
        → after x (with_palette l q) ≡ act film st kind version s body p allowed l
    unfolding act
    act_gradient e g h = rw (e, f, g, h)

    pub act_entries : kind ≡ 12 → v ≡ change_on (set_palette body) allowed.stores l.palette → q ≡ palette_after (set_palette body) allowed.stores l.palette
        → after x (with_palette l q) ≡ act film st kind version s body p allowed l
    unfolding act
    act_entries e g h = rw (e, f, g, h)

    pub act_masks : kind ≡ 13 → v ≡ change_on (set_palette_compressed body) allowed.stores l.palette → q ≡ palette_after (set_palette_compressed body) allowed.stores l.palette
        → after x (with_palette l q) ≡ act film st kind version s body p allowed l
    unfolding act
    act_masks e g h = rw (e, f, g, h)

  pub act_quiet : (x : Step) → (kind ≡ 11 → ⊥) → (kind ≡ 12 → ⊥) → (kind ≡ 13 → ⊥) → (kind ≡ 15 → ⊥) → (kind ≡ 17 → ⊥)
      → x ≡ quiet (quiet_answer (length film) st kind version body p) → after x l ≡ act film st kind version s body p allowed l
  unfolding act
  act_quiet x n11 n12 n13 n15 n17 f = rw (ne_eqb _ _ n15, ne_eqb _ _ n17, ne_eqb _ _ n11, ne_eqb _ _ n12, ne_eqb _ _ n13, f)

-- ---- sound

-- 03 writes nothing
silent : (s : Sound) (version : ℕ) (body room : List ℕ) → room_after (initialize_audio s version body) room ≡ room
unfolding initialize_audio room_after written
silent s version body room = by (possible_format (format_of version (word_at body 2)))
  where
    by : (b : Bool) → room_after (cond b (sound.taken (afresh s (format_of version (word_at body 2))) []) (sound.refused 17 0)) room ≡ room
    by true = refl
    by false = refl

module _ (st : State) (kind version : ℕ) (body : List ℕ) (p : ℕ) (l : Lent) (x : Step) (h : Result Heard Refusal) (f : x ≡ heard_step st p (heard_as h)) where
  pub hears_format : kind ≡ 3 → heard_as h ≡ answer (initialize_audio st.sound version body) → after x l ≡ hear st kind version body p l
  unfolding hear heard_by
  hears_format e q = rw (e, f, q, silent st.sound version body l.room)

  pub hears_data : (r : List ℕ) → kind ≡ 8 → heard_as h ≡ answer (audio_data st.sound body (length l.room))
      → r ≡ room_after (audio_data st.sound body (length l.room)) l.room → after x (with_room l r) ≡ hear st kind version body p l
  unfolding hear heard_by
  hears_data r e q g = rw (e, f, q, g)

  pub hears_silence : (r : List ℕ) → (kind ≡ 3 → ⊥) → (kind ≡ 8 → ⊥) → heard_as h ≡ answer (audio_silence st.sound body (length l.room))
      → r ≡ room_after (audio_silence st.sound body (length l.room)) l.room → after x (with_room l r) ≡ hear st kind version body p l
  unfolding hear heard_by
  hears_silence r n m q g = rw (ne_eqb _ _ n, ne_eqb _ _ m, f, q, g)

module _ (film : List ℕ) (st : State) (o : Opcode) (allowed : Allowed) (l : Lent) (b c : Bool) (e : b ≡ chosen st.sound.stream) (q : c ≡ hears b o.kind) where
  pub takes_sound : (x : Outcome) → c ≡ true → x ≡ hear st o.kind o.version (part film o.start (o.start + o.long)) (o.start + o.long) l
      → x ≡ take_on film st o allowed l
  unfolding take_on
  takes_sound x t f = rw (← e, ← q, t) f

  pub takes_other : (x : Outcome) → c ≡ false → x ≡ act_on film st o allowed l → x ≡ take_on film st o allowed l
  unfolding take_on
  takes_other x t f = rw (← e, ← q, t) f

-- ---- a step

module _ (film : List ℕ) (st : State) (allowed : Allowed) (l : Lent) (n : Result Next Refusal) (s : ℕ) (g : s ≡ shortest st l) (e : next_as n ≡ next_of film st (length l.palette) s) where
  pub step_refused : (r : Refusal) → n ≡ Err r → after (quiet (refused (number r) (block r))) l ≡ step_of film st allowed l
  unfolding step_of standing
  step_refused r q = rw (← g, ← e, q)

  pub step_ended : n ≡ Ok found.Ended → after (quiet (ended st)) l ≡ step_of film st allowed l
  unfolding step_of standing
  step_ended q = rw (← g, ← e, q)

  pub step_chunk : (c : Cursor) (x : State) → n ≡ Ok (found.Chunk c) → x ≡ into st c → after (quiet (taken x)) l ≡ step_of film st allowed l
  unfolding step_of standing
  step_chunk c x q f = rw (← g, ← e, q, f)

  pub step_opcode : (o : Opcode) (x : Outcome) → n ≡ Ok (found.Opcode o) → x ≡ take_on film st o allowed l → x ≡ step_of film st allowed l
  unfolding step_of standing
  step_opcode o x q f = rw (← g, ← e, q) f

pub step_ready : (film : List ℕ) (st : State) (palette shortest : ℕ) (n : Result Next Refusal) (o : Opcode) → next_as n ≡ next_of film st palette shortest → n ≡ Ok (found.Opcode o)
    → Possible st (length film) × Ready (length film) st.cursor o
step_ready film st palette shortest n o e q = found_ready film st palette shortest o (sym e ∙ ap next_as q)
