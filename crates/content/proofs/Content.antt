-- `take_alike`: one opcode, taken in two films by states that are alike, comes to the same.
-- Assumes nothing.
use mathlib.Core.Path.{◌≡◌, refl, sym, ap, ap₂, ◌∙◌, subst}
use mathlib.Core.Bool.{Bool, true, false, cond}
use mathlib.Core.List.{List}
use Prim.Native.Nat.{ℕ, ◌+◌, ◌-◌}
use native.Mathlib.Omega.{arith}
use lib.Dec.{eqb}
use lib.ListN.{length}
use Rattle.words.specs.Word.{word_at}
use Rattle.packet.specs.declared.Rows.{Rows}
use Rattle.packet.specs.Verdict.{legal_size}
use Rattle.stores.specs.Stores.{memory}
use Rattle.stores.specs.Calls.{step}
use Rattle.stores.specs.Calls as drawing
use Rattle.draw.specs.declared.Allowed.{Allowed}
use Rattle.draw.specs.Call.{Reason, Request, asking, calling, report}
use Rattle.palette.specs.Update.{Update, Change, change_on}
use Rattle.palette.specs.Update as palette
use Rattle.palette.specs.Gradient.{create_gradient}
use Rattle.palette.specs.Entries.{set_palette}
use Rattle.palette.specs.Mask.{set_palette_compressed}
use Rattle.sound.specs.declared.Sound.{Sound}
use Rattle.sound.specs.Format.{chosen}
use Rattle.sound.specs.Step.{room_after}
use Rattle.sound.specs.Sound.{answer}
use Rattle.sound.specs.Sound as sound
use Rattle.state.specs.declared.Cursor.{Cursor}
use Rattle.state.specs.declared.Part.{Part}
use Rattle.std.specs.Prelude.{Option, Some, None}
use Rattle.state.specs.State.{some_part}
use Rattle.state.specs.declared.State.{State}
use Rattle.state.specs.Moves.{at, shown_next, sized, sent, mapped, heard, finished}
use Rattle.heads.specs.declared.Opcode.{Opcode}
use Rattle.heads.specs.Heads.{hears}
use Rattle.opcodes.specs.Opcodes.{Answer, taken, refused, quiet, is_deep, colour_of, size_answer, quiet_answer, heard_step, drawn_as, drawn_step}
use Rattle.film.specs.Film.{Lent, with_room, Turn, turn_by, turn_of, last_in, new_in, oldest_in, with_new, drawn_at, Outcome, after, request_of, draw_on, part, draw_mapped, is_body_short, draw_by, palette_step, update, map_to, act, heard_by, hear, take_on}
use Rattle.content.specs.Content.{map_bytes, pending, Alike, SameAnswer, both_taken, both_whole, both_unfinished, both_refused, SameOutcome, SameOpcode}

module _ (film film' : List ℕ) (st st' : State) (h : Alike film st film' st') where
  abbrev Same : Outcome → Outcome → Type 0
  Same = SameOutcome film film'

  same_by : (b : Bool) {x y x' y' : Outcome} → Same x x' → Same y y' → Same (cond b x y) (cond b x' y')
  same_by true p q = p
  same_by false p q = q

  -- by a test that comes out one way
  same_test : (b b' : Bool) → b ≡ b' → {x y x' y' : Outcome} → Same x x' → Same y y' → Same (cond b x y) (cond b' x' y')
  same_test b b' e p q = rw (← e) (same_by b p q)

  -- an answer alone, nothing lent changed
  same_quiet : (x y : Answer) (l : Lent) → SameAnswer film film' x y → Same (after (quiet x) l) (after (quiet y) l)
  same_quiet x y l a = record { answer = a; stores = refl; bytes = refl; rows = refl; lent = refl }

  refuses : (n k : ℕ) (l : Lent) → Same (after (quiet (refused n k)) l) (after (quiet (refused n k)) l)
  refuses n k l = same_quiet _ _ l (both_refused n k)

  -- ---- drawing

  drawn_same : (p p' : ℕ) (x : drawing.Answer Reason) (n : ℕ) (t : Option Rows) (l : Lent) → Same (after (drawn_as st p x n t) l) (after (drawn_as st' p' x n t) l)
  unfolding drawn_as finished pending
  drawn_same p p' drawing.whole n t l =
      record { answer = both_whole (record { columns = h.columns; rows = h.rows; deep = h.deep; front = h.front; map = refl; unsent = refl; sound = h.sound }); stores = refl; bytes = refl; rows = refl; lent = refl }
  drawn_same p p' drawing.unfinished n t l = record { answer = both_unfinished h; stores = refl; bytes = refl; rows = refl; lent = refl }
  drawn_same p p' (drawing.refusal r) n t l = refuses r.number r.block l

  -- which picture is shown, and the drawing call
  turn_same : turn_of st ≡ turn_of st'
  turn_same = ap₂ turn_by h.deep h.front

  request_same : (map packet : List ℕ) (allowed : Allowed) (l : Lent) → request_of st map packet allowed l ≡ request_of st' map packet allowed l
  request_same map packet allowed l =
      λ i. asking (h.deep i) (h.columns i) (h.rows i) map packet (last_in (turn_same i) l) (oldest_in (turn_same i) l) allowed

  on_same : (p p' : ℕ) (map packet : List ℕ) (allowed : Allowed) (l : Lent) → Same (draw_on st p map packet allowed l) (draw_on st' p' map packet allowed l)
  unfolding draw_on
  on_same p p' map packet allowed l =
      subst (λ (x : Turn). Same (draw_on st p map packet allowed l) (comes x (request_of st' map packet allowed l))) turn_same
      (subst (λ (q : Request). Same (draw_on st p map packet allowed l) (comes (turn_of st) q)) (request_same map packet allowed l)
      (let r = report (drawn_at st l) (request_of st map packet allowed l) in drawn_same p p' r.answer r.count r.rows _))
    where
      comes : Turn → Request → Outcome
      comes x q = after (drawn_step st' p' (report (memory (new_in x l) l.place) q)) (with_new x l (step calling (memory (new_in x l) l.place) q))

  mapped_same : (m m' : Option Part) → pending film m ≡ pending film' m' → (body : List ℕ) (p p' : ℕ) (allowed : Allowed) (l : Lent)
      → Same (draw_mapped m film st body p allowed l) (draw_mapped m' film' st' body p' allowed l)
  unfolding draw_mapped pending
  mapped_same None None e body p p' allowed l = refuses 9 0 l
  mapped_same None (Some m) e body p p' allowed l = absurd (let z : ◌≡◌ {A = ℕ} 0 1 = cc in let y : ⊥ = omega arith in y)
  mapped_same (Some m) None e body p p' allowed l = absurd (let z : ◌≡◌ {A = ℕ} 0 1 = cc in let y : ⊥ = omega arith in y)
  mapped_same (Some m) (Some m') e body p p' allowed l =
      let q : part film m.start (m.start + m.long) ≡ part film' m'.start (m'.start + m'.long) = cc in
      same_test _ _ (ap (λ (n : ℕ). eqb n 0) h.columns) (refuses 9 0 l)
      (rw (← q) (on_same p p' (part film m.start (m.start + m.long)) (part body 14 (length body)) allowed l))

  by_same : (m m' : Option Part) → pending film m ≡ pending film' m' → (body : List ℕ) (p p' : ℕ) (allowed : Allowed) (l : Lent)
      → Same (draw_by m film st body p allowed l) (draw_by m' film' st' body p' allowed l)
  unfolding draw_by
  by_same m m' e body p p' allowed l =
      same_test _ _ (ap (λ (d : Bool). is_body_short d (length body)) h.deep) (refuses 5 0 l) (mapped_same m m' e body p p' allowed l)

  -- ---- the others

  -- the same but for the cursor
  moved : (c c' : Cursor) → Alike film (at st c) film' (at st' c')
  unfolding at
  moved c c' = record { columns = h.columns; rows = h.rows; deep = h.deep; front = h.front; map = h.map; unsent = h.unsent; sound = h.sound }

  -- by what became of the palette's change
  change_same : (p p' : ℕ) (x : Change) (l : Lent) → Same (after (palette_step st p x) l) (after (palette_step st' p' x) l)
  unfolding palette_step
  change_same p p' (palette.whole n) l = record { answer = both_taken (moved _ _); stores = refl; bytes = refl; rows = refl; lent = refl }
  change_same p p' (palette.unfinished n) l = record { answer = both_unfinished h; stores = refl; bytes = refl; rows = refl; lent = refl }
  change_same p p' (palette.refused n k) l = refuses n k l

  update_same : (p p' : ℕ) (u : Update) (n : ℕ) (l : Lent) → Same (update st p u n l) (update st' p' u n l)
  update_same p p' u n l = change_same p p' (change_on u n l.palette) _

  size_same : (p p' columns rows colour : ℕ) → SameAnswer film film' (size_answer st p columns rows colour) (size_answer st' p' columns rows colour)
  unfolding size_answer sized
  size_same p p' columns rows colour = rw (← h.columns) (by (eqb st.columns 0) (legal_size columns rows))
    where
      by : (a b : Bool)
          → SameAnswer film film' (cond a (cond b (taken (sized st p columns rows (is_deep colour))) (refused 6 0)) (refused 6 0)) (cond a (cond b (taken (sized st' p' columns rows (is_deep colour))) (refused 6 0)) (refused 6 0))
      by true true = both_taken (record { columns = refl; rows = refl; deep = refl; front = h.front; map = h.map; unsent = h.unsent; sound = h.sound })
      by true false = both_refused 6 0
      by false b = both_refused 6 0

  answer_by : (b : Bool) {x y x' y' : Answer} → SameAnswer film film' x x' → SameAnswer film film' y y' → SameAnswer film film' (cond b x y) (cond b x' y')
  answer_by true p q = p
  answer_by false p q = q

  quiet_same : (n n' kind version : ℕ) (body : List ℕ) (p p' : ℕ) → SameAnswer film film' (quiet_answer n st kind version body p) (quiet_answer n' st' kind version body p')
  unfolding quiet_answer sent
  quiet_same n n' kind version body p p' =
      answer_by (eqb kind 0) (both_taken (moved _ _))
      (answer_by (eqb kind 5) (size_same p p' (word_at body 0) (word_at body 2) (colour_of body version))
      (answer_by (eqb kind 7)
      (both_taken (record { columns = h.columns; rows = h.rows; deep = h.deep; front = λ i. shown_next (h.deep i) (h.unsent i) (h.front i); map = h.map; unsent = refl; sound = h.sound }))
      (both_taken (moved _ _))))

  -- 0F: the body is the map
  map_same : (s s' n n' : ℕ) → part film s (s + n) ≡ part film' s' (s' + n')
      → Alike film (mapped st (s + n) (some_part s (s + n - s))) film' (mapped st' (s' + n') (some_part s' (s' + n' - s')))
  unfolding mapped pending
  map_same s s' n n' e =
      let q : s + n - s ≡ n = omega arith in
      let q' : s' + n' - s' ≡ n' = omega arith in
      rw (q, q')
      (record { columns = h.columns; rows = h.rows; deep = h.deep; front = h.front; map = ap map_bytes e; unsent = h.unsent; sound = h.sound })

  to_same : (next next' : State) → Alike film next film' next' → (n : ℕ) (l : Lent) → Same (map_to st next n l) (map_to st' next' n l)
  unfolding map_to
  to_same next next' a n l = same_by (eqb n 0) (same_quiet _ _ l (both_unfinished h)) (record { answer = both_taken a; stores = refl; bytes = refl; rows = refl; lent = refl })

  heard_same : (p p' : ℕ) (x : sound.Answer) (l : Lent) → Same (after (heard_step st p x) l) (after (heard_step st' p' x) l)
  unfolding heard_step heard
  heard_same p p' (sound.heard s n) l =
      record { answer = both_taken (record { columns = h.columns; rows = h.rows; deep = h.deep; front = h.front; map = h.map; unsent = h.unsent; sound = refl }); stores = refl; bytes = refl; rows = refl; lent = refl }
  heard_same p p' (sound.refusal n k) l = refuses n k l

  -- ---- an opcode

  act_same : (kind version s s' n n' : ℕ) (body : List ℕ) → part film s (s + n) ≡ body → part film' s' (s' + n') ≡ body → (allowed : Allowed) (l : Lent)
      → Same (act film st kind version s body (s + n) allowed l) (act film' st' kind version s' body (s' + n') allowed l)
  unfolding act
  act_same kind version s s' n n' body e e' allowed l =
      same_by (eqb kind 15) (to_same _ _ (map_same s s' n n' (e ∙ sym e')) allowed.stores l)
      (same_by (eqb kind 17) (by_same st.map st'.map h.map body (s + n) (s' + n') allowed l)
      (same_by (eqb kind 11) (update_same (s + n) (s' + n') (create_gradient body) allowed.stores l)
      (same_by (eqb kind 12) (update_same (s + n) (s' + n') (set_palette body) allowed.stores l)
      (same_by (eqb kind 13) (update_same (s + n) (s' + n') (set_palette_compressed body) allowed.stores l)
      (same_quiet _ _ l (quiet_same (length film) (length film') kind version body (s + n) (s' + n')))))))

  hear_same : (kind version : ℕ) (body : List ℕ) (p p' : ℕ) (l : Lent) → Same (hear st kind version body p l) (hear st' kind version body p' l)
  unfolding hear
  hear_same kind version body p p' l =
      subst (λ (x : Sound). Same (hear st kind version body p l) (after (heard_step st' p' (answer (heard_by x kind version body (length l.room)))) (with_room l (room_after (heard_by x kind version body (length l.room)) l.room))))
      h.sound
      (heard_same p p' (answer (heard_by st.sound kind version body (length l.room))) _)

  pub take_alike : (o o' : Opcode) → SameOpcode film o film' o' → (allowed : Allowed) (l : Lent) → Same (take_on film st o allowed l) (take_on film' st' o' allowed l)
  unfolding take_on
  take_alike o o' e allowed l =
      opcode_same o.kind o'.kind e.kind o.version o'.version e.version _ _ e.body o.start o'.start o.long o'.long refl refl allowed l
    where
      opcode_same : (k k' : ℕ) → k ≡ k' → (v v' : ℕ) → v ≡ v' → (b b' : List ℕ) → b ≡ b' → (s s' n n' : ℕ) → part film s (s + n) ≡ b → part film' s' (s' + n') ≡ b' → (allowed : Allowed) (l : Lent)
          → Same (cond (hears (chosen st.sound.stream) k) (hear st k v b (s + n) l) (act film st k v s b (s + n) allowed l))
          (cond (hears (chosen st'.sound.stream) k') (hear st' k' v' b' (s' + n') l) (act film' st' k' v' s' b' (s' + n') allowed l))
      opcode_same k k' ek v v' ev b b' eb s s' n n' q q' allowed l =
          rw (← ek, ← ev, ← eb)
          (same_test _ _ (ap (λ (x : Sound). hears (chosen x.stream) k) h.sound) (hear_same k v b (s + n) (s' + n') l) (act_same k v s s' n n' b q (q' ∙ sym eb) allowed l))
