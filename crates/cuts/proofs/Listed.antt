-- `step_listed`: a step makes the first stores of its list, as many as it is allowed, counts them, and is unfinished exactly where it runs short.
-- Assumes nothing.
use mathlib.Core.Path.{◌≡◌, refl, sym, ap, ◌∙◌}
use mathlib.Core.Bool.{Bool, true, false, cond}
use mathlib.Core.List.{List, [], ◌∷◌}
use Prim.Native.Nat.{ℕ, zero, suc, ◌+◌, ◌-◌, ◌≤◌, ◌<◌}
use native.Mathlib.Decide.{dec_lt}
use native.Mathlib.Omega.{arith}
use borrow.Author.Tests.{lt-ltb, le-ltb, eq-eqb, ne_eqb}
use lib.Dec.{eqb}
use lib.ListN.{length, take}
use lib.Seq.{take-nil, length-take-le, take_all}
use Rattle.refusal.specs.Number.{Verdict, accept, refuse}
use Rattle.packet.specs.declared.Rows.{Rows}
use Rattle.packet.specs.Rows.{touched}
use Rattle.packet.specs.Verdict.{legal_size}
use Rattle.words.specs.Word.{word_at}
use Rattle.stores.specs.Stores.{Plan, Memory, after, count, due}
use Rattle.stores.specs.Stores as drawing
use Rattle.stores.specs.Calls.{leave, outcome, answered}
use Rattle.stores.specs.Calls as calls
use Rattle.stores.proofs.Steps.{due_end, due_length, after_end, after_part, after_block, by_blocks}
use Rattle.draw.specs.Call.{Reason, Request, within, packet_of, call_plan, draw_verdict, comes}
use Rattle.draw.proofs.Exactly.{drawn_exactly}
use Rattle.listed.specs.Store as palette
use Rattle.palette.specs.Update.{Update, verdict_on, change_of, change_by, on_accept, palette_after}
use Rattle.palette.specs.Gradient.{create_gradient}
use Rattle.palette.specs.Entries.{set_palette}
use Rattle.palette.specs.Mask.{set_palette_compressed}
use Rattle.sound.specs.Format.{chosen}
use Rattle.sound.specs.Step as sound
use Rattle.sound.specs.Sound.{answer}
use Rattle.state.specs.declared.Part.{Part}
use Rattle.std.specs.Prelude.{Option, Some, None}
use Rattle.state.specs.State.{some_part}
use Rattle.state.specs.declared.State.{State}
use Rattle.state.specs.Moves.{mapped}
use Rattle.heads.specs.Heads.{hears}
use Rattle.next.specs.Next.{Standing}
use Rattle.next.specs.Next as found
use Rattle.opcodes.specs.Opcodes.{Answer, taken, unfinished, refused, Step, quiet, size_answer, quiet_answer, heard_step, drawn_as}
use Rattle.film.specs.Film.{Lent, with_palette, with_room, stands_at, Outcome, after as left, last_of, new_of, oldest_of, drawn_at, with_drawn, request_of, draw_on, part, draw_mapped, is_body_short, draw_by, palette_step, update, map_to, act, heard_by, hear, take_on, standing, step_of}
use Rattle.film.proofs.Pictures.{drawn_back, drawn_room}
use Rattle.cuts.specs.Cuts.{Store, drawn, of_palette, of_drawing, Stores, nothing, no_plan, palette_due, call_due, request_due, mapped_due, draw_due, opcode_due, standing_due, due_of, run, Listed}
use Rattle.cuts.proofs.Runs.{run_colours, run_draws, run_map}

-- ---- a call from any memory: it ends the drawing exactly where all that is due is allowed

module _ (d : Plan) where
  abbrev Through : Memory → ℕ → Type 0
  Through m n = (n < length (due d m.place) → (after d m n).place < d.blocks) × (length (due d m.place) ≤ n → (after d m n).place ≡ d.blocks)

  through : (m : Memory) (n : ℕ) → m.place ≤ d.blocks → Through m n
  through m n h =
      by_blocks d (λ m n. m.place ≤ d.blocks → Through m n)
      (λ m n e l. (λ q. absurd (let y : ⊥ = omega (arith, ap length (due_end d m.place e)) in y), λ q. rw (after_end d m n e) (omega arith)))
      (λ b k n kb q l. (λ z. rw (after_part d b k n kb q) kb, λ z. absurd (let y : ⊥ = omega (arith, due_length d k kb) in y)))
      (λ b k n kb q ih l.
      let x = ih kb in
      (λ z. rw (after_block d b k n kb q) (x.0 (omega (arith, due_length d k kb))), λ z. rw (after_block d b k n kb q) (x.1 (omega (arith, due_length d k kb))))) m n h h

-- ---- lengths of the one list

length_draws : (n : ℕ) (s : List drawing.Store) → length (take n (of_drawing s)) ≡ length (take n s)
unfolding of_drawing
length_draws zero s = refl
length_draws (suc n) [] = refl
length_draws (suc n) (x ∷ s) = ap suc (length_draws n s)

all_draws : (s : List drawing.Store) → length (of_drawing s) ≡ length s
unfolding of_drawing
all_draws [] = refl
all_draws (x ∷ s) = ap suc (all_draws s)

length_colours : (n : ℕ) (s : List palette.Store) → length (take n (of_palette s)) ≡ length (take n s)
unfolding of_palette
length_colours zero s = refl
length_colours (suc n) [] = refl
length_colours (suc n) (x ∷ s) = ap suc (length_colours n s)

all_colours : (s : List palette.Store) → length (of_palette s) ≡ length s
unfolding of_palette
all_colours [] = refl
all_colours (x ∷ s) = ap suc (all_colours s)

module _ (st : State) (l : Lent) (n : ℕ) where
  lists_by : (b : Bool) {d e : Stores} {x y : Outcome} → Listed st l n d x → Listed st l n e y → Listed st l n (cond b d e) (cond b x y)
  lists_by true p q = p
  lists_by false p q = q

  -- no store is due
  idle : (x : Step) → x.stores ≡ 0 → ((s : State) → x.answer ≡ unfinished s → ⊥) → (k : Lent) → with_room k l.room ≡ l → Listed st l n nothing (left x k)
  unfolding run
  idle x z f k e =
      record {
        leaves = rw (take-nil {A = Store} n) e;
        counts = rw (take-nil {A = Store} n) z;
        short = λ q. absurd (let y : ⊥ = omega arith in y);
        enough = λ q. f;
      }

  refuses : (m k : ℕ) → Listed st l n nothing (left (quiet (refused m k)) l)
  refuses m k = idle (quiet (refused m k)) refl (λ s e. let z : ◌≡◌ {A = ℕ} 0 1 = cc in omega arith) l refl

  -- ---- 0B, 0C, 0D

  stored_listed : (p : ℕ) (s : List palette.Store)
      → Listed st l n (record { plan = no_plan; list = of_palette s }) (left (palette_step st p (change_of n (length s))) (with_palette l (palette.applied (take n s) l.palette)))
  unfolding palette_step change_of
  stored_listed p s = by (dec_lt n (length s))
    where
      by : Dec (n < length s)
          → Listed st l n (record { plan = no_plan; list = of_palette s }) (left (palette_step st p (change_of n (length s))) (with_palette l (palette.applied (take n s) l.palette)))
      by (yes h) =
          rw (lt-ltb n (length s) h)
          (record {
            leaves = sym (run_colours st no_plan n s l);
            counts = sym (length_colours n s ∙ length-take-le n s (omega arith));
            short = λ q. refl;
            enough = λ q. absurd (let y : ⊥ = omega (arith, all_colours s) in y);
          })
      by (no h) =
          rw (le-ltb n (length s) (omega arith))
          (record {
            leaves = sym (run_colours st no_plan n s l);
            counts = sym (length_colours n s ∙ ap length (take_all n s (omega arith)));
            short = λ q. absurd (let y : ⊥ = omega (arith, all_colours s) in y);
            enough = λ q u e. let z : ◌≡◌ {A = ℕ} 0 1 = cc in omega arith;
          })

  update_listed : (p : ℕ) (u : Update) → Listed st l n (palette_due (verdict_on u l.palette) u) (update st p u n l)
  unfolding palette_due palette_step change_by palette_after on_accept
  update_listed p u = by (verdict_on u l.palette)
    where
      by : (v : Verdict)
          → Listed st l n (palette_due v u)
          (left (palette_step st p (change_by v u.stores n)) (with_palette l (on_accept v (palette.applied (take n u.stores) l.palette) l.palette)))
      by accept = stored_listed p u.stores
      by (refuse m k) = refuses m k

  -- ---- 11

  -- what the answer says of the place
  whole_stores : (p : ℕ) (x : calls.Answer Reason) (c : ℕ) (t : Option Rows) → ((r : Reason) → x ≡ calls.refusal r → ⊥) → (drawn_as st p x c t).stores ≡ c
  unfolding drawn_as
  whole_stores p calls.whole c t f = refl
  whole_stores p calls.unfinished c t f = refl
  whole_stores p (calls.refusal r) c t f = absurd (f r refl)

  told : (t : Bool) (r : Reason) → ◌≡◌ {A = calls.Answer Reason} (answered t) (calls.refusal r) → ⊥
  unfolding answered
  told true r e = let z : ◌≡◌ {A = ℕ} 0 1 = cc in omega arith
  told false r e = let z : ◌≡◌ {A = ℕ} 0 1 = cc in omega arith

  ended_whole : (p : ℕ) (t : Bool) → t ≡ true → (c : ℕ) (r : Option Rows) (u : State) → (drawn_as st p (answered t) c r).answer ≡ unfinished u → ⊥
  unfolding drawn_as answered
  ended_whole p true e c r u z = let w : ◌≡◌ {A = ℕ} 0 1 = cc in omega arith
  ended_whole p false e c r u z = absurd (let w : ◌≡◌ {A = ℕ} 0 1 = cc in let y : ⊥ = omega arith in y)

  module _ (p : ℕ) (map packet : List ℕ) (spare : ℕ) where
    abbrev q : Request
    q = request_of st map packet (within n spare) l

    abbrev m : Memory
    m = drawn_at st l

    abbrev d : Plan
    d = call_plan q

    -- the step of a call that is not refused
    abbrev made : Step
    made = drawn_as st p (answered (eqb (after d m n).place d.blocks)) (count d m n) (touched (packet_of q))

    made_is : draw_verdict q m ≡ accept → draw_on st p map packet (within n spare) l ≡ left made (with_drawn st l (after d m n))
    unfolding draw_on outcome leave comes
    made_is e = rw e

    made_not : (k j : ℕ) → draw_verdict q m ≡ refuse k j → draw_on st p map packet (within n spare) l ≡ left (quiet (refused k j)) l
    unfolding draw_on outcome leave comes drawn_as
    made_not k j e = rw e (ap (left (quiet (refused k j))) (drawn_back st l))

    accepted_listed : draw_verdict q m ≡ accept → Listed st l n (record { plan = d; list = of_drawing (due d l.place) }) (left made (with_drawn st l (after d m n)))
    unfolding after count drawn_as answered
    accepted_listed e =
        let x =
        (drawn_exactly st.deep spare st.columns st.rows map packet (length (last_of st l)) (length (oldest_of st l)) (length (new_of st l)) l.place).0 e in
        let g = through d m n x.within in
        let a = all_draws (due d l.place) in
        record {
          leaves = ap (with_room (with_drawn st l (after d m n))) (sym (drawn_room st l (after d m n))) ∙ sym (run_draws st d n (due d l.place) l);
          counts = whole_stores p _ (count d m n) _ (told (eqb (after d m n).place d.blocks)) ∙ sym (length_draws n (due d l.place));
          short = λ h. rw (ne_eqb _ _ (below (g.0 (rw a at h)))) refl;
          enough = λ h u z. ended_whole p (eqb (after d m n).place d.blocks) (eq-eqb _ _ (g.1 (rw a at h))) (count d m n) (touched (packet_of q)) u z;
        }
      where
        below : {a c : ℕ} → a < c → a ≡ c → ⊥
        below h z = omega arith

    draw_listed : Listed st l n (request_due q m) (draw_on st p map packet (within n spare) l)
    unfolding call_due
    draw_listed = by (draw_verdict q m) refl
      where
        by : (v : Verdict) → draw_verdict q m ≡ v → Listed st l n (call_due v d l.place) (draw_on st p map packet (within n spare) l)
        by accept e = rw (made_is e) (accepted_listed e)
        by (refuse k j) e = rw (made_not k j e) (refuses k j)

  -- ---- the others

  map_listed : (next : State) → Listed st l n (record { plan = no_plan; list = drawn (drawing.place 0) ∷ [] }) (map_to st next n l)
  unfolding map_to
  map_listed next = by n
    where
      by : (m : ℕ) → Listed st l m (record { plan = no_plan; list = drawn (drawing.place 0) ∷ [] }) (map_to st next m l)
      by zero = record { leaves = sym (run_map st zero l); counts = refl; short = λ q. refl; enough = λ q. absurd (let y : ⊥ = omega arith in y) }
      by (suc m) =
          rw (ne_eqb (suc m) 0 (λ e. let y : ⊥ = omega arith in y))
          (record {
            leaves = sym (run_map st (suc m) l);
            counts = ap suc (sym (ap length (take-nil {A = Store} m)));
            short = λ q. absurd (let y : ⊥ = omega arith in y);
            enough = λ q u e. let z : ◌≡◌ {A = ℕ} 0 1 = cc in omega arith;
          })

  heard_quiet : (p : ℕ) (x : sound.Step) → Listed st l n nothing (left (heard_step st p (answer x)) (with_room l (sound.room_after x l.room)))
  unfolding heard_step answer
  heard_quiet p (sound.taken s bytes) = idle _ refl (λ s e. let z : ◌≡◌ {A = ℕ} 0 1 = cc in omega arith) _ refl
  heard_quiet p (sound.refused m k) = idle _ refl (λ s e. let z : ◌≡◌ {A = ℕ} 0 1 = cc in omega arith) _ refl

  data Still : Answer → Type 0 where
    takes : (s : State) → Still (taken s)
    refuses_it : (m k : ℕ) → Still (refused m k)

  is_still : (x : Answer) → Still x → (s : State) → x ≡ unfinished s → ⊥
  is_still x (takes t) s e = let z : ◌≡◌ {A = ℕ} 0 1 = cc in omega arith
  is_still x (refuses_it m k) s e = let z : ◌≡◌ {A = ℕ} 0 1 = cc in omega arith

  still_by : (b : Bool) {x y : Answer} → Still x → Still y → Still (cond b x y)
  still_by true p q = p
  still_by false p q = q

  quiet_still : (film kind version : ℕ) (body : List ℕ) (p : ℕ) → Still (quiet_answer film st kind version body p)
  unfolding quiet_answer size_answer
  quiet_still film kind version body p =
      still_by (eqb kind 0) (takes _)
      (still_by (eqb kind 5) (still_by (eqb st.columns 0) (still_by (legal_size (word_at body 0) (word_at body 2)) (takes _) (refuses_it 6 0)) (refuses_it 6 0))
      (still_by (eqb kind 7) (takes _) (takes _)))

  quiet_listed : (film kind version : ℕ) (body : List ℕ) (p : ℕ) → Listed st l n nothing (left (quiet (quiet_answer film st kind version body p)) l)
  quiet_listed film kind version body p = idle _ refl (is_still _ (quiet_still film kind version body p)) l refl

  module _ (film : List ℕ) (spare : ℕ) where
    mapped_listed : (map : Option Part) (body : List ℕ) (p : ℕ) → Listed st l n (mapped_due map film st body spare l) (draw_mapped map film st body p (within n spare) l)
    unfolding mapped_due draw_mapped
    mapped_listed None body p = refuses 9 0
    mapped_listed (Some map) body p = lists_by (eqb st.columns 0) (refuses 9 0) (draw_listed p (part film map.start (map.start + map.long)) (part body 14 (length body)) spare)

    by_listed : (map : Option Part) (body : List ℕ) (p : ℕ) → Listed st l n (draw_due map film st body spare l) (draw_by map film st body p (within n spare) l)
    unfolding draw_due draw_by
    by_listed map body p = lists_by (is_body_short st.deep (length body)) (refuses 5 0) (mapped_listed map body p)

    act_listed : (kind version s : ℕ) (body : List ℕ) (p : ℕ) → Listed st l n (opcode_due film st kind body spare l) (act film st kind version s body p (within n spare) l)
    unfolding opcode_due act
    act_listed kind version s body p =
        lists_by (eqb kind 15) (map_listed (mapped st p (some_part s (p - s))))
        (lists_by (eqb kind 17) (by_listed st.map body p)
        (lists_by (eqb kind 11) (update_listed p (create_gradient body))
        (lists_by (eqb kind 12) (update_listed p (set_palette body))
        (lists_by (eqb kind 13) (update_listed p (set_palette_compressed body)) (quiet_listed (length film) kind version body p)))))

    standing_listed : (s : Standing) → Listed st l n (standing_due s film st spare l) (standing s film st (within n spare) l)
    unfolding standing_due standing take_on hear
    standing_listed (found.refused m k) = refuses m k
    standing_listed found.ended = idle _ refl (λ s e. let z : ◌≡◌ {A = ℕ} 0 1 = cc in omega arith) l refl
    standing_listed (found.chunk c) = idle _ refl (λ s e. let z : ◌≡◌ {A = ℕ} 0 1 = cc in omega arith) l refl
    standing_listed (found.opcode o) =
        lists_by (hears (chosen st.sound.stream) o.kind) (heard_quiet (o.start + o.long) (heard_by st.sound o.kind o.version (part film o.start (o.start + o.long)) (length l.room)))
        (act_listed o.kind o.version o.start (part film o.start (o.start + o.long)) (o.start + o.long))

    pub step_listed : Listed st l n (due_of film st spare l) (step_of film st (within n spare) l)
    unfolding due_of step_of
    step_listed = standing_listed (stands_at film st l)
