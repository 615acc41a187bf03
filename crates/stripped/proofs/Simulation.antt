-- `simulates`: a film and what is left of it, played from equal lent memory, give the same to see and to hear, and the same end.
-- Assumes nothing.
use mathlib.Core.Path.{◌≡◌, refl, sym, ap, ap₂, ◌∙◌, subst}
use mathlib.Core.Bool.{Bool, true, false, cond}
use mathlib.Core.List.{List, [], ◌∷◌, ◌++◌, append-nil}
use Prim.Native.Nat.{ℕ, ◌+◌, ◌≤◌, ◌<◌}
use native.Mathlib.Omega.{arith}
use borrow.Author.Tests.{eq-eqb, ne_eqb, le-ltb}
use lib.ListN.{length, get_or, take, length-append}
use Rattle.words.specs.Word.{word_at}
use Rattle.refusal.specs.Number.{Verdict, accept, refuse}
use Rattle.parts.specs.Parts.{part}
use Rattle.parts.proofs.Parts.{Same}
use Rattle.sound.specs.Format.{chosen}
use Rattle.draw.specs.declared.Allowed.{Allowed}
use Rattle.state.specs.declared.Cursor.{Cursor}
use Rattle.state.specs.declared.State.{State}
use Rattle.state.specs.State.{state_verdict, area, shortest_of, lent_verdict, shown_of, shown_words_of}
use Rattle.state.specs.State as shown
use Rattle.state.specs.Moves.{cursor, cursor_behind, cursor_into, at, into, cursor_at_end}
use Rattle.heads.specs.declared.Opcode.{Opcode}
use Rattle.heads.specs.Heads.{chunk_of, chunk_at}
use Rattle.heads.specs.Heads as heads
use Rattle.next.specs.Next.{Standing, on, chunk_standing, opcode_standing, end_of_chunk, standing_at, next_of, Possible}
use Rattle.next.specs.Next as found
use Rattle.next.proofs.Standing.{possible}
use Rattle.opcodes.specs.Opcodes.{Answer, taken, quiet, refused}
use Rattle.film.specs.Film.{Lent, shortest, Outcome, after, take_on, standing, step_of}
use Rattle.walk.specs.Play.{Event, samples, shown_by, sent_by, events_of, End, by_refusal, lead_of, Plays, stops, goes}
use Rattle.walk.specs.Play as play
use Rattle.walk.proofs.Play.{play_possible}
use Rattle.chunks.specs.Chunks.{end_of, intact, chunk_to, following_at}
use Rattle.chunks.specs.Holds.{Stands}
use Rattle.chunks.proofs.Heads.{there}
use Rattle.chunks.proofs.Moved.{stands_fits, stands_last, moved_body, moved_stands}
use Rattle.content.specs.Content.{Alike, SameAnswer, both_taken, both_whole, both_unfinished, both_refused, SameOutcome}
use Rattle.content.proofs.Content.{take_alike}
use Rattle.content.proofs.Placed.{Placed, on_taken, on_whole, stays, is_refused, take_placed, take_last}
use Rattle.strip.specs.Strip.{chunk_with}
use Rattle.stripped.specs.Leaves.{kept_in, Body, Rest}
use Rattle.stripped.specs.Leaves as known
use Rattle.stripped.proofs.Laws.{idle, shapes}
use Rattle.stripped.proofs.Bytes.{part_long, kept_same, head, head_word, behind_head, behind_part}
use Rattle.stripped.proofs.Twice.{ends_at, body_end}

-- ---- a step by what stands there

module _ (film : List ℕ) (st : State) (allowed : Allowed) (l : Lent) (ok : state_verdict st (length film) ≡ accept) where
  abbrev lent_ok : Verdict
  lent_ok = lent_verdict (area st.columns st.rows) (length l.palette) (shortest st l)

  step_8 : (n k : ℕ) → lent_ok ≡ refuse n k → step_of film st allowed l ≡ after (quiet (refused n k)) l
  unfolding step_of next_of on standing
  step_8 n k e = rw (ok, e)

  step_at : (s : Standing) → lent_ok ≡ accept → standing_at (chosen st.sound.stream) film st.cursor ≡ s → step_of film st allowed l ≡ standing s film st allowed l
  unfolding step_of next_of on
  step_at s e q = rw (ok, e, q)

module _ (b : Bool) (film : List ℕ) (c : Cursor) where
  stands_end : c.position ≡ c.chunk_end → c.chunk_end ≡ length film → standing_at b film c ≡ found.ended
  unfolding standing_at end_of_chunk
  stands_end e q = rw (eq-eqb _ _ e, eq-eqb _ _ q)

  -- the chunk whose head stands at its end and says this length
  stands_chunk : (n : ℕ) → c.position ≡ c.chunk_end → word_at film c.chunk_end ≡ n → c.chunk_end + 4 + n ≤ length film → standing_at b film c ≡ found.chunk (cursor_into c n)
  unfolding standing_at end_of_chunk chunk_standing chunk_at chunk_of
  stands_chunk n e q h =
      rw (eq-eqb _ _ e, ne_eqb c.chunk_end (length film) (λ z. omega arith), q, le-ltb (length film) (c.chunk_end + 4) (omega arith), le-ltb (length film) (c.chunk_end + 4 + n) h)

  stands_opcode : (o : Opcode) → c.position < c.chunk_end → Stands film c o → standing_at b film c ≡ found.opcode o
  unfolding standing_at opcode_standing on
  stands_opcode o l s = rw (ne_eqb c.position c.chunk_end (λ z. omega arith), s.head, shapes b o.kind o.version o.long s.shape)

-- ---- what is given

sent_same : (u v : Bool) (t t' : State) (l : Lent) → shown_by t l ≡ shown_by t' l → sent_by u v t l ≡ sent_by u v t' l
unfolding sent_by
sent_same true false t t' l e = ap (λ (x : Event). x ∷ []) e
sent_same true true t t' l e = refl
sent_same false v t t' l e = refl

-- nothing by a step that writes no byte and keeps "unsent"
nothing_given : (st t : State) (o : Outcome) → o.step.bytes ≡ 0 → t.unsent ≡ st.unsent → events_of st t o ≡ []
unfolding events_of samples sent_by
nothing_given st t o e q = ap₂ (λ (n : ℕ) (u : Bool). samples (take n o.lent.room) ++ sent_by st.unsent u t o.lent) e q ∙ by st.unsent
  where
    by : (u : Bool) → sent_by u u t o.lent ≡ []
    by true = refl
    by false = refl

module _ (film out : List ℕ) where
  -- states that are alike show the same
  shown_same : (t t' : State) → Alike film t out t' → (l : Lent) → shown_by t l ≡ shown_by t' l
  unfolding shown_by shown_of shown_words_of
  shown_same t t' c l =
      λ i.
      let n = area (c.columns i) (c.rows i) in
      cond (c.deep i)
      (play.words (cond (c.deep i) (shown.chosen_words (c.front i) n l.words.picture0 l.words.picture1 l.words.picture2) []) l.palette)
      (play.picture (cond (c.deep i) [] (shown.chosen (c.front i) n l.first l.second)) l.palette)

  -- the same by two steps that come to the same
  same_given : (st t st' t' : State) (x y : Outcome) → Alike film st out st' → Alike film t out t' → x.step.bytes ≡ y.step.bytes → x.lent ≡ y.lent → events_of st t x ≡ events_of st' t' y
  unfolding events_of
  same_given st t st' t' x y a c e q =
      ap₂ (λ (v w : List Event). v ++ w) (λ i. samples (take (e i) (q i).room))
      ((λ i. sent_by (a.unsent i) (c.unsent i) t (q i))
      ∙ sent_same st'.unsent t'.unsent t t' y.lent (shown_same t t' c y.lent))

  both_still : (st st' : State) → Alike film st out st' → (c c' : Cursor) → Alike film (at st c) out (at st' c')
  unfolding at
  both_still st st' a c c' = record { columns = a.columns; rows = a.rows; deep = a.deep; front = a.front; map = a.map; unsent = a.unsent; sound = a.sound }

  still_alike : (st st' : State) → Alike film st out st' → (c : Cursor) → Alike film (at st c) out st'
  unfolding at
  still_alike st st' a c = record { columns = a.columns; rows = a.rows; deep = a.deep; front = a.front; map = a.map; unsent = a.unsent; sound = a.sound }

at_cursor : (st : State) (c : Cursor) → (at st c).cursor ≡ c
unfolding at
at_cursor st c = refl

at_unsent : (st : State) (c : Cursor) → (at st c).unsent ≡ st.unsent
unfolding at
at_unsent st c = refl

module _ (film out : List ℕ) (stream : ℕ) (allowed : Allowed) where
  abbrev leads : List ℕ → State → Lent → play.Lead
  leads f st l = lead_of (step_of f st allowed l).step.answer

  -- a state over the film, and one over what is left, which is pre, b, r: pre is passed, b is left of the chunk's body, and r of the chunks behind it
  pub record Related (st st' : State) : Type 0 where
    pub alike : Alike film st out st'
    pub fine : state_verdict st (length film) ≡ accept
    pub fine' : state_verdict st' (length out) ≡ accept
    pub tuned : st.sound.stream ≡ stream
    pub pre : List ℕ
    pub b : List ℕ
    pub r : List ℕ
    pub z : Bool
    pub body : Body film stream st.cursor.position st.cursor.chunk_end b z
    pub rest : z ≡ false → Rest film stream st.cursor.chunk_end r
    pub bytes : out ≡ pre ++ (b ++ r)
    pub place : st'.cursor.position ≡ length pre
    pub to : st'.cursor.chunk_end ≡ length pre + length b

  -- one step of the film: both stop, both go on, or the film alone goes on
  data Match (st st' : State) (l : Lent) : Type 0 where
    both_stop : (e : End) → leads film st l ≡ play.stop e → leads out st' l ≡ play.stop e → Match st st' l
    both_go : (t t' : State) → leads film st l ≡ play.on t → leads out st' l ≡ play.on t' → (step_of film st allowed l).lent ≡ (step_of out st' allowed l).lent
        → events_of st t (step_of film st allowed l) ≡ events_of st' t' (step_of out st' allowed l) → Related t t' → Match st st' l
    film_goes : (t : State) → leads film st l ≡ play.on t → (step_of film st allowed l).lent ≡ l → events_of st t (step_of film st allowed l) ≡ [] → Related t st' → Match st st' l

  led : {x y : Outcome} → x ≡ y → lead_of x.step.answer ≡ lead_of y.step.answer
  led e = ap (λ (o : Outcome). lead_of o.step.answer) e

  module _ (st st' : State) (l : Lent) (R : Related st st') where
    abbrev p : ℕ
    p = st.cursor.position

    abbrev e : ℕ
    e = st.cursor.chunk_end

    abbrev in_film : Possible st (length film)
    in_film = possible st (length film) R.fine

    lent_same : (v : Verdict) → lent_ok film st allowed l R.fine ≡ v → lent_ok out st' allowed l R.fine' ≡ v
    lent_same v q =
        (λ i.
        lent_verdict (area (sym R.alike.columns i) (sym R.alike.rows i)) (length l.palette)
        (shortest_of (sym R.alike.deep i) (length l.first) (length l.second) (length l.words.picture0) (length l.words.picture1) (length l.words.picture2)))
        ∙ q

    -- the film alone moves its cursor
    film_moves : (c : Cursor) (b r : List ℕ) (z : Bool) → step_of film st allowed l ≡ after (quiet (taken (at st c))) l → Body film stream c.position c.chunk_end b z
        → (z ≡ false → Rest film stream c.chunk_end r) → out ≡ R.pre ++ (b ++ r) → length b ≡ length R.b → Match st st' l
    unfolding lead_of
    film_moves c b r z q x f o n =
        let w : leads film st l ≡ play.on (at st c) = led q in
        let k = play_possible film st allowed l (at st c) w in
        film_goes (at st c) w (ap (λ (y : Outcome). y.lent) q) (nothing_given st (at st c) (step_of film st allowed l) (ap (λ (y : Outcome). y.step.bytes) q) (at_unsent st c))
        (record {
          alike = still_alike film out st st' R.alike c;
          fine = k.possible;
          fine' = R.fine';
          tuned = k.stream ∙ R.tuned;
          pre = R.pre;
          b = b;
          r = r;
          z = z;
          body = subst (λ (y : Cursor). Body film stream y.position y.chunk_end b z) (sym (at_cursor st c)) x;
          rest = λ i. subst (λ (y : Cursor). Rest film stream y.chunk_end r) (sym (at_cursor st c)) (f i);
          bytes = o;
          place = R.place;
          to = R.to ∙ ap (λ (m : ℕ). length R.pre + m) (sym n);
        })

    -- both have moved
    both_moved : (t t' : State) (c c' : Cursor) → t.cursor ≡ c → t'.cursor ≡ c' → Alike film t out t' → leads film st l ≡ play.on t → leads out st' l ≡ play.on t'
        → (pre b r : List ℕ) (z : Bool) → Body film stream c.position c.chunk_end b z → (z ≡ false → Rest film stream c.chunk_end r)
        → out ≡ pre ++ (b ++ r) → c'.position ≡ length pre → c'.chunk_end ≡ length pre + length b → Related t t'
    both_moved t t' c c' ec ec' a w w' pre b r z x f o h k =
        let u = play_possible film st allowed l t w in
        record {
          alike = a;
          fine = u.possible;
          fine' = (play_possible out st' allowed l t' w').possible;
          tuned = u.stream ∙ R.tuned;
          pre = pre;
          b = b;
          r = r;
          z = z;
          body = subst (λ (y : Cursor). Body film stream y.position y.chunk_end b z) (sym ec) x;
          rest = λ q. subst (λ (y : Cursor). Rest film stream y.chunk_end r) (sym ec) (f q);
          bytes = o;
          place = ap (λ (y : Cursor). y.position) ec' ∙ h;
          to = ap (λ (y : Cursor). y.chunk_end) ec' ∙ k;
        }

    -- both move their cursors, and nothing else
    both_move : (c c' : Cursor) → step_of film st allowed l ≡ after (quiet (taken (at st c))) l → step_of out st' allowed l ≡ after (quiet (taken (at st' c'))) l
        → (pre b r : List ℕ) (z : Bool) → Body film stream c.position c.chunk_end b z → (z ≡ false → Rest film stream c.chunk_end r)
        → out ≡ pre ++ (b ++ r) → c'.position ≡ length pre → c'.chunk_end ≡ length pre + length b → Match st st' l
    unfolding lead_of
    both_move c c' q q' pre b r z x f o h k =
        let w : leads film st l ≡ play.on (at st c) = led q in
        let w' : leads out st' l ≡ play.on (at st' c') = led q' in
        both_go (at st c) (at st' c') w w' (ap (λ (y : Outcome). y.lent) q ∙ sym (ap (λ (y : Outcome). y.lent) q'))
        (nothing_given st (at st c) (step_of film st allowed l) (ap (λ (y : Outcome). y.step.bytes) q) (at_unsent st c)
        ∙ sym (nothing_given st' (at st' c') (step_of out st' allowed l) (ap (λ (y : Outcome). y.step.bytes) q') (at_unsent st' c')))
        (both_moved (at st c) (at st' c') c c' (at_cursor st c) (at_cursor st' c') (both_still film out st st' R.alike c c') w w' pre b r z x f o h k)

    module _ (ok : lent_ok film st allowed l R.fine ≡ accept) where
      -- ---- an opcode

      module _ (o : Opcode) (s : Stands film st.cursor o) where
        opcode_step : step_of film st allowed l ≡ take_on film st o allowed l
        unfolding standing
        opcode_step =
            step_at film st allowed l R.fine (found.opcode o) ok (stands_opcode (chosen st.sound.stream) film st.cursor o (omega (arith, stands_fits film p e o s)) s)

        by_drop : (b : List ℕ) (z : Bool) → kept_in film stream o ≡ false → Body film stream (end_of o) e b z → b ≡ R.b → z ≡ R.z → Match st st' l
        unfolding cursor_behind
        by_drop b z d x eb ez =
            film_moves (cursor_behind st.cursor (end_of o)) b R.r z (opcode_step ∙ idle film st allowed l o (ap (λ (n : ℕ). kept_in film n o) R.tuned ∙ d)) x (λ q. R.rest (sym ez ∙ q))
            (R.bytes ∙ ap (λ (y : List ℕ). R.pre ++ (y ++ R.r)) (sym eb)) (ap length eb)

        -- the same opcode stands in what is left
        module _ (b : List ℕ) (eb : part film p (end_of o) ++ b ≡ R.b) (only : o.kind ≤ 1 → b ≡ []) where
          abbrev n : ℕ
          n = 4 + o.long

          abbrev o' : Opcode
          o' = heads.opcode o.kind o.version (st'.cursor.position + 4) o.long

          inside : p + n ≤ length film
          inside = omega (arith, stands_fits film p e o s, in_film.inside)

          bytes_are : out ≡ R.pre ++ ((part film p (p + n) ++ b) ++ R.r)
          bytes_are = R.bytes ∙ ap (λ (y : List ℕ). R.pre ++ (y ++ R.r)) (sym eb ∙ ap (λ (m : ℕ). part film p m ++ b) (ends_at film p e o s))

          long_b : length R.b ≡ n + length b
          long_b =
              sym (ap length eb) ∙ ap (λ (m : ℕ). length (part film p m ++ b)) (ends_at film p e o s) ∙ length-append (part film p (p + n)) b
              ∙ ap (λ (m : ℕ). m + length b) (part_long film p n inside)

          same : Same film p out st'.cursor.position n
          same = subst (λ (m : ℕ). Same film p out m n) (sym R.place) (kept_same film out R.pre b R.r p n inside bytes_are)

          stands' : Stands out st'.cursor o'
          stands' =
              moved_stands film p e o s out st'.cursor.position st'.cursor.chunk_end same (omega (arith, R.place, R.to, long_b)) (λ k. omega (arith, R.place, R.to, long_b, ap length (only k)))

          opcode_step' : step_of out st' allowed l ≡ take_on out st' o' allowed l
          unfolding standing
          opcode_step' =
              step_at out st' allowed l R.fine' (found.opcode o') (lent_same accept ok)
              (stands_opcode (chosen st'.sound.stream) out st'.cursor o' (omega (arith, R.place, R.to, long_b)) stands')

          alike_steps : SameOutcome film out (take_on film st o allowed l) (take_on out st' o' allowed l)
          alike_steps =
              take_alike film out st st' R.alike o o' (record { kind = refl; version = refl; body = moved_body film p e o s out st'.cursor.position st'.cursor.chunk_end same }) allowed l

      by_keep : (b : List ℕ) (z : Bool) (o : Opcode) → Stands film st.cursor o → (o.kind ≡ 0 → ⊥) → Body film stream (end_of o) e b z → part film p (end_of o) ++ b ≡ R.b → z ≡ R.z → Match st st' l
      unfolding lead_of cursor_behind
      by_keep b z o s n0 x eb ez =
          by (take_on film st o allowed l).step.answer (take_on out st' (o' o s b eb only) allowed l).step.answer refl refl
          (take_placed film st o allowed l n0) (take_placed out st' (o' o s b eb only) allowed l n0) both.answer
        where
          only : o.kind ≤ 1 → b ≡ []
          only k = (body_end x (ends_at film p e o s ∙ stands_last film p e o s k)).0

          both : SameOutcome film out (take_on film st o allowed l) (take_on out st' (o' o s b eb only) allowed l)
          both = alike_steps o s b eb only

          e1 : step_of film st allowed l ≡ take_on film st o allowed l
          e1 = opcode_step o s

          e2 : step_of out st' allowed l ≡ take_on out st' (o' o s b eb only) allowed l
          e2 = opcode_step' o s b eb only

          lents : (step_of film st allowed l).lent ≡ (step_of out st' allowed l).lent
          lents = ap (λ (y : Outcome). y.lent) e1 ∙ both.lent ∙ sym (ap (λ (y : Outcome). y.lent) e2)

          counts : (step_of film st allowed l).step.bytes ≡ (step_of out st' allowed l).step.bytes
          counts = ap (λ (y : Outcome). y.step.bytes) e1 ∙ both.bytes ∙ sym (ap (λ (y : Outcome). y.step.bytes) e2)

          on_both : (t t' : State) → t.cursor ≡ cursor_behind st.cursor (end_of o) → t'.cursor ≡ cursor_behind st'.cursor (st'.cursor.position + 4 + o.long) → Alike film t out t'
              → lead_of (take_on film st o allowed l).step.answer ≡ play.on t → lead_of (take_on out st' (o' o s b eb only) allowed l).step.answer ≡ play.on t' → Match st st' l
          on_both t t' c c' a w w' =
              let w1 = led e1 ∙ w in
              let w2 = led e2 ∙ w' in
              let m = 4 + o.long in
              let x' = part film p (p + m) in
              let long = part_long film p m (inside o s b eb only) in
              both_go t t' w1 w2 lents (same_given film out st t st' t' (step_of film st allowed l) (step_of out st' allowed l) R.alike a counts lents)
              (both_moved t t' (cursor_behind st.cursor (end_of o)) (cursor_behind st'.cursor (st'.cursor.position + 4 + o.long)) c c' a w1 w2 (R.pre ++ x') b R.r z x (λ q. R.rest (sym ez ∙ q))
              (behind_part out R.pre x' b R.r (bytes_are o s b eb only))
              (omega (arith, R.place, length-append R.pre x', long)) (omega (arith, R.to, long_b o s b eb only, length-append R.pre x', long)))

          by : (x y : Answer) → (take_on film st o allowed l).step.answer ≡ x → (take_on out st' (o' o s b eb only) allowed l).step.answer ≡ y → Placed st (end_of o) x
              → Placed st' (st'.cursor.position + 4 + o.long) y → SameAnswer film out x y → Match st st' l
          by x y q q' (on_taken c) (on_taken c') (both_taken a) = on_both _ _ c c' a (ap lead_of q) (ap lead_of q')
          by x y q q' (on_whole c) (on_whole c') (both_whole a) = on_both _ _ c c' a (ap lead_of q) (ap lead_of q')
          by x y q q' stays stays (both_unfinished a) =
              both_go st st' (led e1 ∙ ap lead_of q) (led e2 ∙ ap lead_of q') lents
              (same_given film out st st st' st' (step_of film st allowed l) (step_of out st' allowed l) R.alike R.alike counts lents) R
          by x y q q' (is_refused n k) (is_refused m j) (both_refused i w) = both_stop (by_refusal i w) (led e1 ∙ ap lead_of q) (led e2 ∙ ap lead_of q')
          by _ _ q q' (on_taken c) (on_whole c') x15 = elim x15 [ ]
          by _ _ q q' (on_taken c) stays x15 = elim x15 [ ]
          by _ _ q q' (on_taken c) (is_refused m j) x16 = elim x16 [ ]
          by _ _ q q' (on_whole c) (on_taken c') x14 = elim x14 [ ]
          by _ _ q q' (on_whole c) stays x14 = elim x14 [ ]
          by _ _ q q' (on_whole c) (is_refused m j) x15 = elim x15 [ ]
          by _ _ q q' stays (on_taken c') x15 = elim x15 [ ]
          by _ _ q q' stays (on_whole c') x16 = elim x16 [ ]
          by _ _ q q' stays (is_refused m j) x16 = elim x16 [ ]
          by _ _ q q' (is_refused n k) (on_taken c') x16 = elim x16 [ ]
          by _ _ q q' (is_refused n k) (on_whole c') x17 = elim x17 [ ]
          by _ _ q q' (is_refused n k) stays x17 = elim x17 [ ]

      -- 00
      by_last : (o : Opcode) → Stands film st.cursor o → o.kind ≡ 0 → part film p (end_of o) ≡ R.b → Match st st' l
      unfolding cursor_at_end
      by_last o s k eb =
          let eb' = append-nil (part film p (end_of o)) ∙ eb in
          both_move (cursor_at_end st.cursor (length film)) (cursor_at_end st'.cursor (length out)) (opcode_step o s ∙ take_last film st o allowed l k)
          (opcode_step' o s [] eb' (λ _. refl) ∙ take_last out st' (o' o s [] eb' (λ _. refl)) allowed l k)
          out [] [] false known.none (λ q. known.over refl) (sym (append-nil out)) refl (omega arith)

      -- ---- at a chunk's end

      module _ (pe : p ≡ e) (nb : R.b ≡ []) where
        to_pre : st'.cursor.chunk_end ≡ length R.pre
        to_pre = omega (arith, R.to, ap length nb)

        out_is : (r : List ℕ) → r ≡ R.r → out ≡ R.pre ++ r
        out_is r er = R.bytes ∙ ap₂ (λ (y w : List ℕ). R.pre ++ (y ++ w)) nb (sym er)

        -- into the chunk that stands there
        enters : (x : ℕ) (z : Bool) → following_at film e ≡ chunk_to x (intact z) → step_of film st allowed l ≡ after (quiet (taken (into st (cursor (e + 4) x)))) l
        unfolding standing cursor_into
        enters x z f =
            let t = there film e x (intact z) in_film.inside f in
            let h : e + 4 + word_at film e ≤ length film = omega (arith, t.ends, t.inside) in
            step_at film st allowed l R.fine (found.chunk (cursor_into st.cursor (word_at film e))) ok (stands_chunk (chosen st.sound.stream) film st.cursor (word_at film e) pe refl h)
            ∙ ap (λ (y : ℕ). after (quiet (taken (into st (cursor (e + 4) y)))) l) (sym t.ends)

        by_chunk : (x v : ℕ) (b r : List ℕ) (z : Bool) → following_at film e ≡ chunk_to x (intact z) → Body film stream (e + 4) x (v ∷ b) z → (z ≡ false → Rest film stream x r)
            → chunk_with film e (v ∷ b) ++ r ≡ R.r → Match st st' l
        unfolding standing cursor_into
        by_chunk x v b r z f y g er =
            let k = v ∷ b in
            let a = head (length k) (get_or film (e + 2) 0) (get_or film (e + 3) 0) in
            let whole : out ≡ R.pre ++ (a ++ (k ++ r)) = out_is (a ++ (k ++ r)) er in
            let word : word_at out st'.cursor.chunk_end ≡ length k = ap (word_at out) to_pre ∙ head_word out R.pre (length k) (get_or film (e + 2) 0) (get_or film (e + 3) 0) (k ++ r) whole in
            let fits : st'.cursor.chunk_end + 4 + length k ≤ length out = omega (arith, to_pre, ap length whole, length-append R.pre (a ++ (k ++ r)), length-append b r) in
            let la : length (R.pre ++ a) ≡ length R.pre + 4 = length-append R.pre a in
            both_move (cursor (e + 4) x) (cursor_into st'.cursor (length k)) (enters x z f)
            (step_at out st' allowed l R.fine' (found.chunk (cursor_into st'.cursor (length k))) (lent_same accept ok)
            (stands_chunk (chosen st'.sound.stream) out st'.cursor (length k) (R.place ∙ sym to_pre) word fits))
            (R.pre ++ a) k r z y g (behind_head out R.pre (length k) (get_or film (e + 2) 0) (get_or film (e + 3) 0) (k ++ r) whole) (omega (arith, to_pre, la)) (omega (arith, to_pre, la))

      by_rest : {x : ℕ} {r : List ℕ} → Rest film stream x r → x ≡ e → r ≡ R.r → p ≡ e → R.b ≡ [] → Match st st' l
      unfolding standing lead_of
      by_rest (known.over q) ee er pe nb =
          let n : length out ≡ length R.pre = ap length (out_is pe nb [] er ∙ append-nil R.pre) in
          both_stop play.over
          (led (step_at film st allowed l R.fine found.ended ok (stands_end (chosen st.sound.stream) film st.cursor pe (sym ee ∙ q))))
          (led (step_at out st' allowed l R.fine' found.ended (lent_same accept ok)
          (stands_end (chosen st'.sound.stream) out st'.cursor (R.place ∙ sym (to_pre pe nb)) (to_pre pe nb ∙ sym n))))
      by_rest (known.chunk {x = x} {y = v} {b = b} {r = r} f y g) ee er pe nb =
          by_chunk pe nb x v b r false (subst (λ (i : ℕ). following_at film i ≡ chunk_to x (intact false)) ee f) (subst (λ (i : ℕ). Body film stream (i + 4) x (v ∷ b) false) ee y) (λ _. g)
          (ap (λ (i : ℕ). chunk_with film i (v ∷ b) ++ r) (sym ee) ∙ er)
      by_rest (known.empty {x = x} {r = r} f y g) ee er pe nb =
          film_moves (cursor (e + 4) x) [] r false (enters pe nb x false (subst (λ (i : ℕ). following_at film i ≡ chunk_to x (intact false)) ee f))
          (subst (λ (i : ℕ). Body film stream (i + 4) x [] false) ee y) (λ _. g) (out_is pe nb r er) (sym (ap length nb))
      by_rest (known.closing {x = x} {y = v} {b = b} f y) ee er pe nb =
          by_chunk pe nb x v b [] true (subst (λ (i : ℕ). following_at film i ≡ chunk_to x (intact true)) ee f) (subst (λ (i : ℕ). Body film stream (i + 4) x (v ∷ b) true) ee y)
          (λ q. absurd (let z : ◌≡◌ {A = ℕ} 0 1 = cc in let w : ⊥ = omega arith in w))
          (append-nil (chunk_with film e (v ∷ b)) ∙ ap (λ (i : ℕ). chunk_with film i (v ∷ b)) (sym ee) ∙ er)

      by_body : {a c : ℕ} {b : List ℕ} {z : Bool} → Body film stream a c b z → a ≡ p → c ≡ e → b ≡ R.b → z ≡ R.z → Match st st' l
      by_body known.none ep ee eb ez = by_rest (R.rest (sym ez)) refl refl (sym ep ∙ ee) (sym eb)
      by_body {a} {c} (known.drop {b = b} {z = z} o s d k x) ep ee eb ez =
          by_drop o (subst (λ (y : ℕ). Stands film (cursor y e) o) ep (subst (λ (y : ℕ). Stands film (cursor a y) o) ee s)) b z d (subst (λ (y : ℕ). Body film stream (end_of o) y b z) ee x) eb ez
      by_body {a} {c} (known.keep {b = b} {z = z} o s d k x) ep ee eb ez =
          by_keep b z o (subst (λ (y : ℕ). Stands film (cursor y e) o) ep (subst (λ (y : ℕ). Stands film (cursor a y) o) ee s)) k (subst (λ (y : ℕ). Body film stream (end_of o) y b z) ee x)
          (ap (λ (y : ℕ). part film y (end_of o) ++ b) (sym ep) ∙ eb) ez
      by_body {a} {c} (known.last o s k) ep ee eb ez =
          by_last o (subst (λ (y : ℕ). Stands film (cursor y e) o) ep (subst (λ (y : ℕ). Stands film (cursor a y) o) ee s)) k (ap (λ (y : ℕ). part film y (end_of o)) (sym ep) ∙ eb)

    step_match : Match st st' l
    unfolding lead_of
    step_match = by (lent_ok film st allowed l R.fine) refl
      where
        by : (v : Verdict) → lent_ok film st allowed l R.fine ≡ v → Match st st' l
        by accept q = by_body q R.body refl refl refl refl
        by (refuse n k) q =
            both_stop (by_refusal n k) (led (step_8 film st allowed l R.fine n k q)) (led (step_8 out st' allowed l R.fine' n k (lent_same (refuse n k) q)))

  lead_on : (s t : State) → play.on s ≡ play.on t → s ≡ t
  lead_on s t e = cc

  pub simulates : {st : State} {l : Lent} {s : List Event} {e : End} → Plays film allowed st l s e → (st' : State) → Related st st' → Plays out allowed st' l s e
  simulates {st} {l} (stops {e = e} q) st' R = by (step_match st st' l R)
    where
      by : Match st st' l → Plays out allowed st' l [] e
      by (both_stop f x y) = stops (y ∙ (sym x ∙ q))
      by (both_go t t' x y m g r) = absurd (let z : ◌≡◌ {A = ℕ} 0 1 = cc in let w : ⊥ = omega arith in w)
      by (film_goes t x m g r) = absurd (let z : ◌≡◌ {A = ℕ} 0 1 = cc in let w : ⊥ = omega arith in w)
  simulates {st} {l} (goes {next = u} {events = s} {e = e} q pl) st' R = by (step_match st st' l R) (λ v r. simulates pl v r)
    where
      by : Match st st' l → ((v : State) → Related u v → Plays out allowed v (step_of film st allowed l).lent s e) → Plays out allowed st' l (events_of st u (step_of film st allowed l) ++ s) e
      by (both_stop f x y) ih = absurd (let z : ◌≡◌ {A = ℕ} 0 1 = cc in let w : ⊥ = omega arith in w)
      by (both_go t t' x y m g r) ih =
          let k : t ≡ u = lead_on t u (sym x ∙ q) in
          let r' : Related u t' = subst (λ (v : State). Related v t') k r in
          let g' : events_of st u (step_of film st allowed l) ≡ events_of st' t' (step_of out st' allowed l) = ap (λ (v : State). events_of st v (step_of film st allowed l)) (sym k) ∙ g in
          subst (λ (v : List Event). Plays out allowed st' l (v ++ s) e) (sym g') (goes y (subst (λ (v : Lent). Plays out allowed t' v s e) m (ih t' r')))
      by (film_goes t x m g r) ih =
          let k : t ≡ u = lead_on t u (sym x ∙ q) in
          let r' : Related u st' = subst (λ (v : State). Related v st') k r in
          let g' : events_of st u (step_of film st allowed l) ≡ [] = ap (λ (v : State). events_of st v (step_of film st allowed l)) (sym k) ∙ g in
          subst (λ (v : List Event). Plays out allowed st' l (v ++ s) e) (sym g') (subst (λ (v : Lent). Plays out allowed st' v s e) m (ih st' r'))
