-- What lies beyond the size in the lent pictures: no step writes it (`step_unwritten`) or reads it (`step_unread`). A step that draws leaves what its
-- drawing call leaves (`book`); every other step reads no pixel and stores none.
-- Assumes nothing.
use mathlib.Core.Path.{◌≡◌, refl, sym, ap, ◌∙◌}
use mathlib.Core.Bool.{Bool, true, false, cond}
use mathlib.Core.List.{List}
use Prim.Native.Nat.{ℕ, ◌+◌}
use lib.Dec.{eqb}
use lib.ListN.{length, take, drop}
use Rattle.packet.specs.Packet.{pixels as pixelsOf}
use Rattle.packet.specs.Verdict.{legal_size}
use Rattle.stores.specs.Stores.{Memory}
use Rattle.stores.specs.Calls.{refusal, returns, cut, call_of, leave, leave_cut, outcome, happens, step}
use Rattle.draw.specs.declared.Allowed.{Allowed}
use Rattle.paint.specs.Value.{Older}
use Rattle.draw.specs.Call.{Request, older_of, reason, comes, calling, report, reporting}
use Rattle.draw.proofs.Judged.{judged_6}
use Rattle.book.specs.Beyond.{showing, SameCalls}
use Rattle.book.specs.Beyond.{SameTo as SameMemory}
use Rattle.book.proofs.Beyond.{beyond_unwritten, beyond_unread}
use Rattle.palette.specs.Update.{Update, change_on, palette_after}
use Rattle.palette.specs.Gradient.{create_gradient}
use Rattle.palette.specs.Entries.{set_palette}
use Rattle.palette.specs.Mask.{set_palette_compressed}
use Rattle.state.specs.declared.Part.{Part}
use Rattle.std.specs.Prelude.{Option, Some, None}
use Rattle.state.specs.declared.State.{State}
use Rattle.state.specs.State.{area, lent_verdict}
use Rattle.sound.specs.Format.{chosen}
use Rattle.sound.specs.Step as sound
use Rattle.sound.specs.Sound.{answer}
use Rattle.heads.specs.Heads.{hears}
use Rattle.next.specs.Next.{Standing, next_of}
use Rattle.next.specs.Next as found
use Rattle.opcodes.specs.Opcodes.{heard_step, drawn_step}
use Rattle.film.specs.Film.{Lent, lent, turn_of, drawn_at, stands_at, Outcome, request_of, draw_on, part, draw_mapped, is_body_short, draw_by, palette_step, update, map_to, act, heard_by, hear, take_on, standing, step_of}
use Rattle.film.proofs.Pictures.{drawn_place, drawn_palette, drawn_room}
use Rattle.walk.specs.Draws.{packet_of}
use Rattle.walk.specs.View.{end_of, View, refuses, ends, enters, sounds, maps, colours, too_short, undrawn, draws, others}
use Rattle.walk.specs.Pictures.{Pictures}
use Rattle.walk.specs.Beyond.{pixels, KeptFrom, Unwritten, EqualTo, SameTo, SameSteps, Unread}
use Rattle.walk.proofs.Pictures.{all_kept, beside, last_holds, new_holds, oldest_holds, with_holds, drawn_holds, shortest_short}
use Rattle.walk.proofs.View.{view_of}

-- ---- a drawing call of any size

-- where the size is not a legal one the call is refused
module _ (q : Request) (m : Memory) (e : legal_size q.columns q.rows ≡ false) where
  refused_leaves : step calling m q ≡ m
  unfolding leave comes
  refused_leaves = rw (← judged_6 q.deep q.allowed.spare q.columns q.rows q.map q.bytes (length q.front) (length q.oldest) (length m.picture) m.place e) refl

  refused_cuts : (j : ℕ) → happens calling m (cut q j) ≡ m
  unfolding happens leave_cut comes
  refused_cuts j = rw (← judged_6 q.deep q.allowed.spare q.columns q.rows q.map q.bytes (length q.front) (length q.oldest) (length m.picture) m.place e) refl

  refused_tells : report m q ≡ reporting (refusal (reason 6 0)) 0 None
  unfolding outcome comes
  refused_tells = rw (← judged_6 q.deep q.allowed.spare q.columns q.rows q.map q.bytes (length q.front) (length q.oldest) (length m.picture) m.place e) refl

draw_kept : (q : Request) (m : Memory) → drop (area q.columns q.rows) (step calling m q).picture ≡ drop (area q.columns q.rows) m.picture
unfolding area call_of happens
draw_kept q m = by (legal_size q.columns q.rows) refl
  where
    by : (b : Bool) → legal_size q.columns q.rows ≡ b
        → drop (cond b (pixelsOf q.columns q.rows) 0) (step calling m q).picture ≡ drop (cond b (pixelsOf q.columns q.rows) 0) m.picture
    by true e = beyond_unwritten m (returns q)
    by false e = ap (λ (x : Memory). drop 0 x.picture) (refused_leaves q m e)

draw_same : (q : Request) (older : Older) (m m' : Memory) → take (area q.columns q.rows) q.front ≡ take (area q.columns q.rows) older.last
    → take (area q.columns q.rows) q.oldest ≡ take (area q.columns q.rows) older.oldest
    → SameMemory (area q.columns q.rows) m m' → SameCalls (area q.columns q.rows) q older m m'
unfolding area
draw_same q older m m' f g s = by (legal_size q.columns q.rows) refl f g s
  where
    by : (b : Bool) → legal_size q.columns q.rows ≡ b → let n = cond b (pixelsOf q.columns q.rows) 0 in take n q.front ≡ take n older.last
        → take n q.oldest ≡ take n older.oldest → SameMemory n m m' → SameCalls n q older m m'
    by true e f g s = beyond_unread q older m m' f g s
    by false e f g s =
        record {
          tells = refused_tells q m e ∙ sym (refused_tells (showing q older) m' e);
          leaves = rw (refused_leaves q m e, refused_leaves (showing q older) m' e) s;
          cuts = λ j. rw (refused_cuts q m e j, refused_cuts (showing q older) m' e j) s;
        }

-- ---- none is written

-- a step that stores no pixel, whatever else it does
still : (n : ℕ) (l : Lent) (p : List ℕ) (k : ℕ) (r : List ℕ) → Pictures (KeptFrom n) (lent p l.first l.second k r l.words) l
still n l p k r = beside (KeptFrom n) l l (all_kept (KeptFrom n) (λ x. refl) l) p _ k _ r _

kept_by_lem : (n : ℕ) (l : Lent) (b : Bool) (x y : Outcome) → Pictures (KeptFrom n) x.lent l → Pictures (KeptFrom n) y.lent l → Pictures (KeptFrom n) (cond b x y).lent l
kept_by_lem n l true x y p q = p
kept_by_lem n l false x y p q = q

module _ (film : List ℕ) (st : State) (allowed : Allowed) where
  kept_on : (p : ℕ) (map packet : List ℕ) (l : Lent) → Pictures (KeptFrom (pixels st)) (draw_on st p map packet allowed l).lent l
  unfolding draw_on
  kept_on p map packet l =
      let q = request_of st map packet allowed l in
      drawn_holds (KeptFrom (pixels st)) (λ x. refl) st l (step calling (drawn_at st l) q) (draw_kept q (drawn_at st l))

  kept_view : {l : Lent} {o : Outcome} → View film st allowed l o → Pictures (KeptFrom (pixels st)) o.lent l
  unfolding hear map_to
  kept_view {l} (refuses n k e) = still (pixels st) l _ _ _
  kept_view {l} (ends e v) = still (pixels st) l _ _ _
  kept_view {l} (enters c e v) = still (pixels st) l _ _ _
  kept_view {l} (sounds o a h) = still (pixels st) l _ _ _
  kept_view {l} (maps o a u e) = kept_by_lem (pixels st) l (eqb allowed.stores 0) _ _ (still (pixels st) l _ _ _) (still (pixels st) l _ _ _)
  kept_view {l} (colours o x a u c) = still (pixels st) l _ _ _
  kept_view {l} (too_short o a u e d n) = still (pixels st) l _ _ _
  kept_view {l} (undrawn o a u e m) = still (pixels st) l _ _ _
  kept_view {l} (draws o start long a u e m c) = kept_on (end_of o) (part film start (start + long)) (packet_of film o) l
  kept_view {l} (others o a u x) = still (pixels st) l _ _ _

  pub step_unwritten : (l : Lent) → Unwritten film st allowed l
  step_unwritten l = kept_view (view_of film st allowed l)

-- ---- none is read

same_by : (n : ℕ) (b : Bool) (x x' y y' : Outcome) → SameSteps n x x' → SameSteps n y y' → SameSteps n (cond b x y) (cond b x' y')
same_by n true x x' y y' p q = p
same_by n false x x' y y' p q = q

module _ (film : List ℕ) (st : State) (allowed : Allowed) where
  same_on : (p : ℕ) (map packet : List ℕ) (l m : Lent) → SameTo (pixels st) l m → SameSteps (pixels st) (draw_on st p map packet allowed l) (draw_on st p map packet allowed m)
  unfolding draw_on
  same_on p map packet l m s =
      let P = EqualTo (pixels st) in
      let t = turn_of st in
      let q = request_of st map packet allowed l in
      let c =
      draw_same q (older_of (request_of st map packet allowed m)) (drawn_at st l) (drawn_at st m) (last_holds P l m s.pictures t) (oldest_holds P l m s.pictures refl t)
      (record { picture = new_holds P l m s.pictures t; place = s.place }) in
      let x = step calling (drawn_at st l) q in
      let y = step calling (drawn_at st m) (request_of st map packet allowed m) in
      record {
        step = ap (drawn_step st p) c.tells;
        lent =
            record {
              palette = drawn_palette st l x ∙ s.palette ∙ sym (drawn_palette st m y);
              pictures = with_holds P l m s.pictures x y c.leaves.picture t;
              place = drawn_place st l x ∙ c.leaves.place ∙ sym (drawn_place st m y);
              room = drawn_room st l x ∙ s.room ∙ sym (drawn_room st m y);
            };
      }

  same_map : (map : Option Part) (body : List ℕ) (p : ℕ) (l m : Lent) → SameTo (pixels st) l m
      → SameSteps (pixels st) (draw_mapped map film st body p allowed l) (draw_mapped map film st body p allowed m)
  unfolding draw_mapped
  same_map None body p l m s = record { step = refl; lent = s }
  same_map (Some map) body p l m s =
      same_by (pixels st) (eqb st.columns 0) _ _ _ _ (record { step = refl; lent = s }) (same_on p (part film map.start (map.start + map.long)) (part body 14 (length body)) l m s)

  same_body : (map : Option Part) (body : List ℕ) (p : ℕ) (l m : Lent) → SameTo (pixels st) l m
      → SameSteps (pixels st) (draw_by map film st body p allowed l) (draw_by map film st body p allowed m)
  unfolding draw_by
  same_body map body p l m s = same_by (pixels st) (is_body_short st.deep (length body)) _ _ _ _ (record { step = refl; lent = s }) (same_map map body p l m s)

  same_update : (p : ℕ) (u : Update) (n : ℕ) (l m : Lent) → SameTo (pixels st) l m → SameSteps (pixels st) (update st p u n l) (update st p u n m)
  same_update p u n l m s =
      record {
        step = ap (λ (x : List ℕ). palette_step st p (change_on u n x)) s.palette;
        lent = record { palette = ap (palette_after u n) s.palette; pictures = beside (EqualTo (pixels st)) l m s.pictures _ _ _ _ _ _; place = s.place; room = s.room };
      }

  same_act : (kind version a : ℕ) (body : List ℕ) (p : ℕ) (l m : Lent) → SameTo (pixels st) l m
      → SameSteps (pixels st) (act film st kind version a body p allowed l) (act film st kind version a body p allowed m)
  unfolding act map_to
  same_act kind version a body p l m s =
      same_by (pixels st) (eqb kind 15) _ _ _ _
      (same_by (pixels st) (eqb allowed.stores 0) _ _ _ _ (record { step = refl; lent = s })
      (record { step = refl; lent = record { palette = s.palette; pictures = beside (EqualTo (pixels st)) l m s.pictures _ _ _ _ _ _; place = refl; room = s.room } }))
      (same_by (pixels st) (eqb kind 17) _ _ _ _ (same_body st.map body p l m s)
      (same_by (pixels st) (eqb kind 11) _ _ _ _ (same_update p (create_gradient body) allowed.stores l m s)
      (same_by (pixels st) (eqb kind 12) _ _ _ _ (same_update p (set_palette body) allowed.stores l m s)
      (same_by (pixels st) (eqb kind 13) _ _ _ _ (same_update p (set_palette_compressed body) allowed.stores l m s)
      (record { step = refl; lent = s })))))

  same_heard : (kind version : ℕ) (body : List ℕ) (p : ℕ) (l m : Lent) → SameTo (pixels st) l m
      → SameSteps (pixels st) (hear st kind version body p l) (hear st kind version body p m)
  unfolding hear
  same_heard kind version body p l m s =
      let x : List ℕ → sound.Step = λ room. heard_by st.sound kind version body (length room) in
      record {
        step = ap (λ (room : List ℕ). heard_step st p (answer (x room))) s.room;
        lent = record { palette = s.palette; pictures = beside (EqualTo (pixels st)) l m s.pictures _ _ _ _ _ _; place = s.place; room = ap (λ (room : List ℕ). sound.room_after (x room) room) s.room };
      }

  same_standing : (x : Standing) (l m : Lent) → SameTo (pixels st) l m → SameSteps (pixels st) (standing x film st allowed l) (standing x film st allowed m)
  unfolding standing take_on
  same_standing (found.refused n k) l m s = record { step = refl; lent = s }
  same_standing found.ended l m s = record { step = refl; lent = s }
  same_standing (found.chunk c) l m s = record { step = refl; lent = s }
  same_standing (found.opcode o) l m s =
      same_by (pixels st) (hears (chosen st.sound.stream) o.kind) _ _ _ _
      (same_heard o.kind o.version (part film o.start (o.start + o.long)) (o.start + o.long) l m s)
      (same_act o.kind o.version o.start (part film o.start (o.start + o.long)) (o.start + o.long) l m s)

  -- the tests see the palette's length, and whether a picture is shorter than the size
  same_next : (l m : Lent) → SameTo (pixels st) l m → stands_at film st l ≡ stands_at film st m
  unfolding next_of lent_verdict
  same_next l m s = rw (s.palette, shortest_short (pixels st) st l m s.pictures) refl

  pub step_unread : (l : Lent) → Unread film st allowed l
  unfolding step_of
  step_unread l m s = rw (same_next l m s) (same_standing _ l m s)
