-- A step at opcode 11 answers "whole" or "unfinished" exactly when `Draws` holds: `draws_exactly`.
-- Assumes nothing.
use mathlib.Core.Path.{◌≡◌, refl, sym, ap, ◌∙◌}
use mathlib.Core.Bool.{Bool, true, false, cond}
use mathlib.Core.List.{List}
use Prim.Native.Nat.{ℕ, ◌+◌, ◌-◌, ◌≤◌}
use native.Mathlib.Omega.{arith}
use borrow.Author.Tests.{le-ltb, ne_eqb}
use lib.Dec.{eqb}
use lib.ListN.{length, drop, length-take, length-drop}
use Rattle.words.specs.Word.{word_at}
use Rattle.refusal.specs.Number.{Verdict, accept, refuse}
use Rattle.packet.specs.declared.Rows.{Rows}
use Rattle.packet.specs.Verdict.{legal_size}
use Rattle.packet.specs.Accepted.{PartsFit}
use Rattle.packet.proofs.Sizes.{is_size}
use Rattle.stores.specs.Stores.{Memory}
use Rattle.stores.specs.Calls.{answered, outcome}
use Rattle.draw.specs.declared.Allowed.{Allowed}
use Rattle.draw.specs.Call.{Request, draw_verdict, comes, calling, report}
use Rattle.draw.specs.Taken.{DrawAcceptsIn}
use Rattle.draw.proofs.Exactly.{drawn_exactly}
use Rattle.palette.specs.Update.{Update}
use Rattle.state.specs.declared.Part.{Part}
use Rattle.std.specs.Prelude.{Option, Some, None}
use Rattle.state.specs.State.{some_part}
use Rattle.state.specs.declared.State.{State}
use Rattle.state.specs.State.{area}
use Rattle.state.proofs.Tests.{lent_fits}
use Rattle.state.specs.Moves.{behind, at_end, sized, sent, heard}
use Rattle.sound.specs.Format.{chosen}
use Rattle.sound.specs.Step as sound
use Rattle.sound.specs.Sound.{answer}
use Rattle.heads.specs.declared.Opcode.{Opcode}
use Rattle.heads.specs.Heads.{hears}
use Rattle.next.proofs.Standing.{not_17}
use Rattle.next.specs.Next.{Standing, on, next_of}
use Rattle.next.specs.Next as found
use Rattle.opcodes.specs.Opcodes.{Answer, taken, ended, refused, is_deep, size_answer, colour_of, quiet_answer, heard_step, drawn_as, drawn_step}
use Rattle.film.specs.Film.{Lent, shortest, last_of, oldest_of, new_of, drawn_at, stands_at, Outcome, request_of, draw_on, part, draw_mapped, is_body_short, draw_by, act, act_on, heard_by, hear, take_on, standing, step_of}
use Rattle.film.proofs.Pictures.{pictures_fit}
use Rattle.walk.specs.Draws.{body_of, packet_of, Draws, AtPacket, Drew}
use Rattle.walk.specs.View.{end_of, AtOpcode, Colours, gradient, entries, masks, View, refuses, ends, enters, sounds, maps, colours, too_short, undrawn, draws, others}
use Rattle.walk.proofs.View.{view_of}

-- ---- a drawing call that is not refused

drew_answered : (st : State) (p n : ℕ) (t : Option Rows) (b : Bool) → Drew (drawn_as st p (answered b) n t).answer
unfolding Drew drawn_as answered
drew_answered st p n t true = tt
drew_answered st p n t false = tt

module _ (st : State) (p : ℕ) (q : Request) (m : Memory) where
  pub drew_accepted : draw_verdict q m ≡ accept → Drew (drawn_step st p (report m q)).answer
  unfolding outcome comes
  drew_accepted e = rw e (drew_answered st p _ _ _)

  accepted_drew : Drew (drawn_step st p (report m q)).answer → draw_verdict q m ≡ accept
  unfolding outcome comes drawn_as Drew
  accepted_drew = by (draw_verdict q m)
    where
      by : (v : Verdict) → Drew (drawn_step st p (outcome (calling.plan q) (calling.rows q) calling.none m (comes v q.allowed.stores))).answer → v ≡ accept
      by accept d = refl
      by (refuse n k) d = absurd d

-- ---- the tests that come first

on_opcode : (v : Verdict) (s : Standing) (o : Opcode) → on v s ≡ found.opcode o → (v ≡ accept) × (s ≡ found.opcode o)
unfolding on
on_opcode accept s o e = (refl, e)
on_opcode (refuse n k) s o e = absurd (let z : ◌≡◌ {A = ℕ} 0 1 = cc in let y : ⊥ = omega arith in y)

-- the pictures are as long as the size asks
stands_long : (film : List ℕ) (st : State) (l : Lent) (o : Opcode) → stands_at film st l ≡ found.opcode o → area st.columns st.rows ≤ shortest st l
unfolding next_of
stands_long film st l o e = lent_fits _ _ _ (on_opcode _ _ o (on_opcode _ _ o e).1).0

-- ---- answers that are none of a drawing

pub not_taken : (s : State) → Drew (taken s) → ⊥
unfolding Drew
not_taken s d = d

pub not_refused : (n k : ℕ) → Drew (refused n k) → ⊥
unfolding Drew
not_refused n k d = d

pub not_ended : (s : State) → Drew (ended s) → ⊥
unfolding Drew
not_ended s d = d

not_by : (b : Bool) (x y : Answer) → (Drew x → ⊥) → (Drew y → ⊥) → Drew (cond b x y) → ⊥
not_by true x y f g d = f d
not_by false x y f g d = g d

not_sized : (st : State) (p columns rows colour : ℕ) → Drew (size_answer st p columns rows colour) → ⊥
unfolding size_answer
not_sized st p columns rows colour =
    let no = not_refused 6 0 in
    not_by (eqb st.columns 0) _ (refused 6 0) (not_by (legal_size columns rows) _ (refused 6 0) (not_taken (sized st p columns rows (is_deep colour))) no) no

pub not_quiet : (film : ℕ) (st : State) (kind version : ℕ) (body : List ℕ) (p : ℕ) → Drew (quiet_answer film st kind version body p) → ⊥
unfolding quiet_answer
not_quiet film st kind version body p =
    not_by (eqb kind 0) (taken (at_end st film)) _ (not_taken (at_end st film))
    (not_by (eqb kind 5) (size_answer st p (word_at body 0) (word_at body 2) (colour_of body version)) _ (not_sized st p (word_at body 0) (word_at body 2) (colour_of body version))
    (not_by (eqb kind 7) (taken (sent st p)) (taken (behind st p)) (not_taken (sent st p)) (not_taken (behind st p))))

pub not_heard : (st : State) (p : ℕ) (x : sound.Step) → Drew (heard_step st p (answer x)).answer → ⊥
unfolding heard_step answer
not_heard st p (sound.taken s bytes) = not_taken (heard st p s)
not_heard st p (sound.refused n k) = not_refused n k

-- ---- opcode 11

module _ (film : List ℕ) (st : State) (allowed : Allowed) where
  -- the call's tests, by the packet, the map and the place
  abbrev Accepted : List ℕ → List ℕ → Lent → Type 0
  Accepted map packet l =
      DrawAcceptsIn st.deep allowed.spare st.columns st.rows map packet (length (last_of st l)) (length (oldest_of st l)) (length (new_of st l)) l.place

  module _ (p : ℕ) (map packet : List ℕ) (l : Lent) where
    tests : (draw_verdict (request_of st map packet allowed l) (drawn_at st l) ≡ accept → Accepted map packet l)
        × (Accepted map packet l → draw_verdict (request_of st map packet allowed l) (drawn_at st l) ≡ accept)
    tests = drawn_exactly st.deep allowed.spare st.columns st.rows map packet (length (last_of st l)) (length (oldest_of st l)) (length (new_of st l)) l.place

    drew_on : Accepted map packet l → Drew (draw_on st p map packet allowed l).step.answer
    unfolding draw_on
    drew_on a = drew_accepted st p (request_of st map packet allowed l) (drawn_at st l) (tests.1 a)

    on_drew : Drew (draw_on st p map packet allowed l).step.answer → Accepted map packet l
    unfolding draw_on
    on_drew d = tests.0 (accepted_drew st p (request_of st map packet allowed l) (drawn_at st l) d)

  -- a packet in two parts has its first word
  body_long : (deep : Bool) (body : List ℕ) → PartsFit deep (part body 14 (length body)) → is_body_short deep (length body) ≡ false
  unfolding is_body_short
  body_long false body f = refl
  body_long true body f = let h : 16 ≤ length body = omega (arith, f.word, length-take (length body - 14) (drop 14 body), length-drop 14 body) in le-ltb _ _ h

  drew_by : (map : Option Part) (start long : ℕ) → map ≡ some_part start long → eqb st.columns 0 ≡ false → (body : List ℕ) (p : ℕ) (l : Lent)
      → Accepted (part film start (start + long)) (part body 14 (length body)) l → Drew (draw_by map film st body p allowed l).step.answer
  unfolding draw_by draw_mapped
  drew_by map start long e n body p l a =
      rw (body_long st.deep body a.accepted.parts, e, n) (drew_on p (part film start (start + long)) (part body 14 (length body)) l a)

  drew_act : (kind version s : ℕ) (body : List ℕ) (p : ℕ) (l : Lent) → kind ≡ 17 → Drew (draw_by st.map film st body p allowed l).step.answer
      → Drew (act film st kind version s body p allowed l).step.answer
  unfolding act
  drew_act kind version s body p l e d = rw e d

  -- 11 is no sound
  drew_taken : (o : Opcode) (l : Lent) → o.kind ≡ 17 → Drew (act_on film st o allowed l).step.answer → Drew (take_on film st o allowed l).step.answer
  unfolding take_on
  drew_taken o l e d = rw (ap (hears (chosen st.sound.stream)) e ∙ not_17 (chosen st.sound.stream)) d

  -- an opcode that stands there is the 11
  stands_11 : {l : Lent} (o : Opcode) → AtOpcode film st l o → AtPacket film st l → o.kind ≡ 17
  stands_11 o a x = let e : o ≡ x.found = same (sym a.stands ∙ x.stands) in ap (λ (y : Opcode). y.kind) e ∙ x.is_11
    where
      same : {m n : Opcode} → found.opcode m ≡ found.opcode n → m ≡ n
      same e = cc

  no_colours : (kind : ℕ) (body : List ℕ) {u : Update} → Colours kind body u → kind ≡ 17 → ⊥
  no_colours kind body (gradient e) q = omega arith
  no_colours kind body (entries e) q = omega arith
  no_colours kind body (masks e) q = omega arith

  view_drew : {l : Lent} {o : Outcome} → View film st allowed l o → AtPacket film st l → Drew o.step.answer → Draws allowed.spare film st l
  unfolding hear
  view_drew (refuses n k e) x d = absurd (not_refused n k d)
  view_drew (ends e v) x d = absurd (not_ended st d)
  view_drew (enters c e v) x d = absurd (not_taken _ d)
  view_drew {l} (sounds o a h) x d = absurd (not_heard st (end_of o) (heard_by st.sound o.kind o.version (body_of film o) (length l.room)) d)
  view_drew (maps o a u e) x d = absurd (let q = stands_11 o a x in let z : ⊥ = omega arith in z)
  view_drew (colours o u a h c) x d = absurd (no_colours o.kind (body_of film o) c (stands_11 o a x))
  view_drew (too_short o a u e f n) x d = absurd (not_refused 5 0 d)
  view_drew (undrawn o a u e m) x d = absurd (not_refused 9 0 d)
  view_drew {l} (draws o start long a u e m c) x d =
      let y = on_drew (end_of o) (part film start (start + long)) (packet_of film o) l d in
      record { found = o; stands = a.stands; is_11 = e; start = start; long = long; mapped = m; accepted = y.accepted; within = y.within }
  view_drew (others o a u n) x d = absurd (not_quiet (length film) st o.kind o.version (body_of film o) (end_of o) d)

  pub draws_exactly : (l : Lent)
      → (Draws allowed.spare film st l → Drew (step_of film st allowed l).step.answer) × (AtPacket film st l → Drew (step_of film st allowed l).step.answer → Draws allowed.spare film st l)
  unfolding step_of standing area
  draws_exactly l = (
    λ d.
        let o = d.found in
        let a = d.accepted in
        let e = is_size st.columns st.rows a.wide a.high in
        let r = pictures_fit st l (area st.columns st.rows) (stands_long film st l o d.stands) in
        let n : eqb st.columns 0 ≡ false = ne_eqb st.columns 0 (λ z. let y : ⊥ = omega (arith, a.wide.least, z) in y) in
        rw d.stands
        (drew_taken o l d.is_11
        (drew_act o.kind o.version o.start (body_of film o) (o.start + o.long) l d.is_11
        (drew_by st.map d.start d.long d.mapped n (body_of film o) (o.start + o.long) l
        (record { accepted = a; front_long = rw e at r.0; oldest_long = rw e at r.2; back_long = rw e at r.1; within = d.within })))),
    view_drew (view_of film st allowed l),
  )
