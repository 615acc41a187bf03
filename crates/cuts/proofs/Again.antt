-- `cut_step`: a step that was cut and is called again comes to what the uncut step comes to, its count of stores apart.
-- Assumes nothing.
use mathlib.Core.Path.{◌≡◌, refl, sym, ap, ap₂, ◌∙◌, subst}
use mathlib.Core.Bool.{Bool, true, false, cond}
use mathlib.Core.List.{List, [], ◌∷◌}
use Prim.Native.Nat.{ℕ, ◌+◌, ◌-◌, ◌≤◌, min}
use native.Mathlib.Decide.{dec_lt}
use borrow.Author.Tests.{le-ltb}
use native.Mathlib.Omega.{arith}
use lib.Dec.{eqb}
use lib.ListN.{length, take, drop, length-append, length-take, length-drop, length-set}
use lib.Seq.{take_all, take_at, take-nil, take-take, take-length}
use Rattle.room.specs.Room.{written}
use Rattle.refusal.specs.Number.{Verdict, accept, refuse}
use Rattle.packet.specs.declared.Rows.{Rows}
use Rattle.stores.specs.Stores.{Plan, Memory, memory}
use Rattle.stores.specs.Stores as drawing
use Rattle.stores.specs.Calls.{step}
use Rattle.stores.specs.Calls as calls
use Rattle.draw.specs.Call.{Reason, Request, within, asking, call_plan, draw_verdict, calling, report}
use Rattle.listed.specs.Store as palette
use Rattle.listed.specs.Order.{Begun}
use Rattle.listed.proofs.Lists.{applied_length}
use Rattle.palette.specs.Update.{Update, verdict_on, change_of, change_by, on_accept, palette_after}
use Rattle.palette.specs.Gradient.{create_gradient}
use Rattle.palette.specs.Entries.{set_palette}
use Rattle.palette.specs.Mask.{set_palette_compressed}
use Rattle.palette.proofs.Gradients.{gradients_few}
use Rattle.palette.proofs.Entries.{entries_few}
use Rattle.palette.proofs.Groups.{groups_few}
use Rattle.palette.proofs.Again.{made_again}
use Rattle.sound.specs.Format.{chosen}
use Rattle.sound.specs.Step as sound
use Rattle.sound.specs.Sound.{answer}
use Rattle.state.specs.declared.Part.{Part}
use Rattle.std.specs.Prelude.{Option, Some, None}
use Rattle.state.specs.State.{some_part}
use Rattle.state.specs.declared.State.{State}
use Rattle.state.specs.Moves.{mapped}
use Rattle.heads.specs.Heads.{hears}
use Rattle.next.specs.Next.{Standing}
use Rattle.next.specs.Next as found
use Rattle.opcodes.specs.Opcodes.{Answer, quiet, heard_step, drawn_as, drawn_step}
use Rattle.film.specs.Film.{Lent, with_palette, with_room, stands_at, Outcome, after as outcome, turn_of, new_of, drawn_at, with_drawn, request_of, draw_on, part, draw_mapped, is_body_short, draw_by, palette_step, update, map_to, act, heard_by, hear, take_on, standing, step_of}
use Rattle.film.proofs.Pictures.{drawn_back, drawn_palette, drawn_room, drawn_twice, drawn_at_lem, drawn_request}
use Rattle.walk.specs.Play.{most}
use Rattle.walk.specs.Pictures.{Pictures}
use Rattle.walk.proofs.Pictures.{all_kept, beside, drawn_holds}
use Rattle.cuts.specs.Cuts.{Store, colour, drawn, Stores, nothing, no_plan, palette_due, call_due, request_due, mapped_due, draw_due, opcode_due, standing_due, due_of, make, run, Same, CutAgain}
use Rattle.cuts.proofs.Runs.{run_colours, run_draws, run_map, roomed}
use Rattle.cuts.proofs.Calls.{SameCall, listed_again}

-- ---- the palette

-- a list that is no longer than the stores allowed
module _ (s : List palette.Store) (few : length s ≤ most) where
  part_again : (i : ℕ) (p : List ℕ) → palette.applied (take most s) (palette.applied (take i s) p) ≡ palette.applied (take most s) p
  part_again i p =
      let j = min i (length s) in
      let e : take i s ≡ take j s = shorter i in
      let made : Begun s j (palette.applied (take i s) p) = record { found = p; made = ap (λ (x : List palette.Store). palette.applied x p) e; count = omega arith } in
      rw (take_all most s few) (made_again s j (palette.applied (take i s) p) made)
    where
      shorter : (i : ℕ) → take i s ≡ take (min i (length s)) s
      shorter i =
          elim (dec_lt (length s) i) [
            | yes h ↦ let q : min i (length s) ≡ length s = omega arith in rw q (take_all i s (omega arith) ∙ sym (take-length s))
            | no h ↦ let q : min i (length s) ≡ i = omega arith in rw q
          ]

-- ---- one store list and the step that it belongs to

module _ (st : State) (l : Lent) where
  -- cut after i stores of the list, with any bytes in the room, the step f comes to the same
  record Again (d : Stores) (f : Lent → Outcome) : Type 0 where
    again : (i : ℕ) (room : List ℕ) → length room ≡ length l.room → Same (f (with_room (run st d.plan l (take i d.list)) room)) (f l)

  again_by : (b : Bool) {d e : Stores} {f g : Lent → Outcome} → Again d f → Again e g → Again (cond b d e) (λ m. cond b (f m) (g m))
  again_by true p q = p
  again_by false p q = q

  -- no store is due
  idle : (f : Lent → Outcome) → ((room : List ℕ) → length room ≡ length l.room → Same (f (with_room l room)) (f l)) → Again nothing f
  unfolding run
  idle f h = record { again = λ i room e. rw (take-nil {A = Store} i) (h room e) }

  -- an answer that reads nothing lent
  still : (x : Answer) → Again nothing (λ m. outcome (quiet x) m)
  still x =
      idle (λ m. outcome (quiet x) m)
      (λ room e. record { answer = refl; bytes = refl; rows = refl; others = refl; samples = refl; room = e })

  -- ---- 0B, 0C, 0D

  update_again : (p : ℕ) (u : Update) → (verdict_on u l.palette ≡ accept → length u.stores ≤ 1536) → Again (palette_due (verdict_on u l.palette) u) (update st p u most)
  unfolding palette_due palette_step change_by change_of palette_after on_accept run
  update_again p u few = record { again = by (verdict_on u l.palette) refl }
    where
      by : (v : Verdict) → verdict_on u l.palette ≡ v → (i : ℕ) (room : List ℕ) → length room ≡ length l.room
          → Same (update st p u most (with_room (run st (palette_due v u).plan l (take i (palette_due v u).list)) room)) (update st p u most l)
      by accept e i room h =
          let f : length u.stores ≤ most = omega (arith, few e) in
          rw (run_colours st no_plan i u.stores l, applied_length (take i u.stores) l.palette, e, le-ltb most (length u.stores) f)
          (record { answer = refl; bytes = refl; rows = refl; others = ap (with_palette l) (part_again u.stores f i l.palette); samples = refl; room = h })
      by (refuse n k) e i room h =
          rw (take-nil {A = Store} i, e)
          (record { answer = refl; bytes = refl; rows = refl; others = refl; samples = refl; room = h })

  -- ---- 0F

  map_again : (next : State) → Again (record { plan = no_plan; list = drawn (drawing.place 0) ∷ [] }) (map_to st next most)
  unfolding map_to
  map_again next =
      record {
        again =
            λ i room h.
            subst (λ (k : Lent). Same (map_to st next most (with_room k room)) (map_to st next most l)) (sym (run_map st i l))
            (record { answer = refl; bytes = refl; rows = refl; others = refl; samples = refl; room = h });
      }

  -- ---- 11

  -- a drawing tells no bytes, and what it tells but its count goes by its answer and rows
  none : (p : ℕ) (x : calls.Answer Reason) (n : ℕ) (t : Option Rows) → (drawn_as st p x n t).bytes ≡ 0
  unfolding drawn_as
  none p calls.whole n t = refl
  none p calls.unfinished n t = refl
  none p (calls.refusal r) n t = refl

  tells : (p : ℕ) (x y : calls.Answer Reason) → x ≡ y → (n n' : ℕ) (t t' : Option Rows) → t ≡ t'
      → ((drawn_as st p x n t).answer ≡ (drawn_as st p y n' t').answer) × ((drawn_as st p x n t).rows ≡ (drawn_as st p y n' t').rows)
  unfolding drawn_as
  tells p x y e n n' t t' q = rw (e, q) (same y)
    where
      same : (y : calls.Answer Reason) → ((drawn_as st p y n t').answer ≡ (drawn_as st p y n' t').answer) × ((drawn_as st p y n t').rows ≡ (drawn_as st p y n' t').rows)
      same calls.whole = (refl, refl)
      same calls.unfinished = (refl, refl)
      same (calls.refusal r) = (refl, refl)

  module _ (p : ℕ) (map packet : List ℕ) (spare : ℕ) where
    abbrev q : Request
    q = request_of st map packet (within most spare) l

    abbrev drawn_on : Lent → Outcome
    drawn_on k = draw_on st p map packet (within most spare) k

    -- what is left by a call that was cut: another picture drawn on and place, and any bytes in the room
    left_is : (m : Memory) (room : List ℕ)
        → drawn_on (with_room (with_drawn st l m) room) ≡ outcome (drawn_step st p (report m q)) (with_room (with_drawn st l (step calling m q)) room)
    unfolding draw_on
    left_is m room =
        let k = with_drawn st l m in
        let x = roomed (turn_of st) k room in
        let f : Request → Memory → Outcome = λ a n. outcome (drawn_step st p (report n a)) (with_drawn st (with_room k room) (step calling n a)) in
        (λ i. f (asking st.deep st.columns st.rows map packet (x.last i) (x.oldest i) (within most spare)) (memory (x.new i) k.place))
        ∙ ap₂ f (drawn_request st l m map packet (within most spare)) (drawn_at_lem st l m)
        ∙ ap (outcome (drawn_step st p (report m q))) (x.drawn (step calling m q) ∙ ap (λ (z : Lent). with_room z room) (drawn_twice st l m (step calling m q)))

    on_again : (m : Memory) (room : List ℕ) → length room ≡ length l.room → SameCall q m (drawn_at st l) → Same (drawn_on (with_room (with_drawn st l m) room)) (drawn_on l)
    unfolding draw_on
    on_again m room h c =
        let r = report m q in
        let u = report (drawn_at st l) q in
        let x = tells p r.answer u.answer c.answer r.count u.count r.rows u.rows c.rows in
        let y = none p r.answer r.count r.rows in
        let z = none p u.answer u.count u.rows in
        subst (λ (o : Outcome). Same o (drawn_on l)) (sym (left_is m room))
        (record {
          answer = x.0;
          bytes = y ∙ sym z;
          rows = x.1;
          others = ap (λ (n : Memory). with_room (with_drawn st l n) (with_drawn st l (step calling (drawn_at st l) q)).room) c.leaves;
          samples = rw (y, z);
          room = h ∙ sym (ap length (drawn_room st l (step calling (drawn_at st l) q)));
        })

    draw_again : Again (request_due q (drawn_at st l)) (draw_on st p map packet (within most spare))
    unfolding call_due run
    draw_again = record { again = by (draw_verdict q (drawn_at st l)) refl }
      where
        by : (v : Verdict) → draw_verdict q (drawn_at st l) ≡ v → (i : ℕ) (room : List ℕ) → length room ≡ length l.room
            → Same (drawn_on (with_room (run st (call_due v (call_plan q) l.place).plan l (take i (call_due v (call_plan q) l.place).list)) room)) (drawn_on l)
        by accept e i room h =
            subst (λ (k : Lent). Same (drawn_on (with_room k room)) (drawn_on l)) (sym (run_draws st (call_plan q) i (drawing.due (call_plan q) l.place) l))
            (on_again _ room h (listed_again q (drawn_at st l) refl i e))
        by (refuse n k) e i room h =
            rw (take-nil {A = Store} i)
            (subst (λ (k : Lent). Same (drawn_on (with_room k room)) (drawn_on l)) (drawn_back st l)
            (on_again (drawn_at st l) room h (record { answer = refl; rows = refl; leaves = refl })))

  -- ---- sound

  heard_again : (p : ℕ) (x : sound.Step) (room : List ℕ) → length room ≡ length l.room
      → Same (outcome (heard_step st p (answer x)) (with_room l (sound.room_after x room))) (outcome (heard_step st p (answer x)) (with_room l (sound.room_after x l.room)))
  unfolding sound.room_after written heard_step answer
  heard_again p (sound.taken s bytes) room h =
      record { answer = refl; bytes = refl; rows = refl; others = refl; samples = take_at bytes (drop (length bytes) room) (length bytes) refl ∙ sym (take_at bytes (drop (length bytes) l.room) (length bytes) refl); room = simp (length-append, length-drop) (ap (λ (n : ℕ). length bytes + (n - length bytes)) h) }
  heard_again p (sound.refused n k) room h = record { answer = refl; bytes = refl; rows = refl; others = refl; samples = refl; room = h }

  hear_again : (kind version : ℕ) (body : List ℕ) (p : ℕ) → Again nothing (hear st kind version body p)
  unfolding hear
  hear_again kind version body p =
      idle (hear st kind version body p) (λ room e. rw e (heard_again p (heard_by st.sound kind version body (length l.room)) room e))

  -- ---- an opcode

  module _ (film : List ℕ) (spare : ℕ) where
    mapped_again : (map : Option Part) (body : List ℕ) (p : ℕ) → Again (mapped_due map film st body spare l) (draw_mapped map film st body p (within most spare))
    unfolding mapped_due draw_mapped
    mapped_again None body p = still _
    mapped_again (Some map) body p = again_by (eqb st.columns 0) (still _) (draw_again p (part film map.start (map.start + map.long)) (part body 14 (length body)) spare)

    by_again : (map : Option Part) (body : List ℕ) (p : ℕ) → Again (draw_due map film st body spare l) (draw_by map film st body p (within most spare))
    unfolding draw_due draw_by
    by_again map body p = again_by (is_body_short st.deep (length body)) (still _) (mapped_again map body p)

    act_again : (kind version s : ℕ) (body : List ℕ) (p : ℕ) → Again (opcode_due film st kind body spare l) (act film st kind version s body p (within most spare))
    unfolding opcode_due act
    act_again kind version s body p =
        again_by (eqb kind 15) (map_again (mapped st p (some_part s (p - s))))
        (again_by (eqb kind 17) (by_again st.map body p)
        (again_by (eqb kind 11) (update_again p (create_gradient body) (λ e. gradients_few body (length l.palette) e))
        (again_by (eqb kind 12) (update_again p (set_palette body) (λ e. entries_few body (length l.palette) e))
        (again_by (eqb kind 13) (update_again p (set_palette_compressed body) (λ e. groups_few body))
        (still _)))))

    standing_again : (s : Standing) → Again (standing_due s film st spare l) (standing s film st (within most spare))
    unfolding standing_due standing take_on
    standing_again (found.refused n k) = still _
    standing_again found.ended = still _
    standing_again (found.chunk c) = still _
    standing_again (found.opcode o) =
        again_by (hears (chosen st.sound.stream) o.kind) (hear_again o.kind o.version (part film o.start (o.start + o.long)) (o.start + o.long))
        (act_again o.kind o.version o.start (part film o.start (o.start + o.long)) (o.start + o.long))

-- ---- a step

-- no store changes a length
abbrev AsLong : List ℕ → List ℕ → Type 0
AsLong x y = length x ≡ length y

record Long (k l : Lent) : Type 0 where
  palette : length k.palette ≡ length l.palette
  pictures : Pictures AsLong k l

one_long : (st : State) (d : Plan) (l : Lent) (s : Store) → Long (make st d l s) l
unfolding make drawing.apply
one_long st d l (colour s) =
    record { palette = length-set l.palette s.index s.value; pictures = beside AsLong l l (all_kept AsLong (λ x. refl) l) _ _ _ _ _ _ }
one_long st d l (drawn s) =
    let m = drawing.apply d (drawn_at st l) s in
    record { palette = ap length (drawn_palette st l m); pictures = drawn_holds AsLong (λ x. refl) st l m (same s) }
  where
    same : (s : drawing.Store) → length (drawing.apply d (drawn_at st l) s).picture ≡ length (new_of st l)
    same (drawing.place n) = refl
    same (drawing.pixel k i) = length-set (new_of st l) (d.target k i) _

run_long : (st : State) (d : Plan) (l : Lent) (s : List Store) → Long (run st d l s) l
unfolding run
run_long st d l [] = record { palette = refl; pictures = all_kept AsLong (λ x. refl) l }
run_long st d l (s ∷ ss) =
    let x = run_long st d (make st d l s) ss in
    let y = one_long st d l s in
    record {
      palette = x.palette ∙ y.palette;
      pictures =
          record {
            first = x.pictures.first ∙ y.pictures.first;
            second = x.pictures.second ∙ y.pictures.second;
            words0 = x.pictures.words0 ∙ y.pictures.words0;
            words1 = x.pictures.words1 ∙ y.pictures.words1;
            words2 = x.pictures.words2 ∙ y.pictures.words2;
          };
    }

-- cut after j of the first n
cut_first : {A : Type 0} (j n : ℕ) (s : List A) → take j (take n s) ≡ take (min j n) s
cut_first j n s =
    elim (dec_lt n j) [
      | yes h ↦ let e : min j n ≡ n = omega arith in take_all j (take n s) (omega (arith, length-take n s)) ∙ ap (λ (x : ℕ). take x s) (sym e)
      | no h ↦ let e : min j n ≡ j = omega arith in take-take j n s (omega arith) ∙ ap (λ (x : ℕ). take x s) (sym e)
    ]

pub cut_step : (film : List ℕ) (st : State) (spare : ℕ) (l : Lent) → CutAgain film st spare l
unfolding step_of due_of
cut_step film st spare l n j room h =
    let s = stands_at film st l in
    let d = standing_due s film st spare l in
    let x = run_long st d.plan l (take (min j n) d.list) in
    let w = x.pictures in
    rw (cut_first j n d.list)
    (rw (x.palette, w.first, w.second, w.words0, w.words1, w.words2) ((standing_again st l film spare s).again (min j n) room h))
