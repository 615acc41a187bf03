-- `play_one`: a film plays in one way at most. `play_possible`: of the states on the way. `play_all`: with `most` stores a call, or more, it plays, whatever the film, the state and what is lent.
-- Assumes nothing.
use mathlib.Core.Path.{◌≡◌, refl, sym, ap, ap₂, ◌∙◌, subst}
use mathlib.Core.List.{List, [], ◌++◌}
use Prim.Native.Nat.{ℕ, zero, suc, ◌+◌, ◌-◌, ◌≤◌}
use native.Mathlib.Omega.{arith}
use borrow.Author.Tests.{eq-eqb, ne_eqb, le-ltb}
use lib.ListN.{length}
use lib.Seq.{take_all}
use Rattle.std.specs.Prelude.{None}
use Rattle.refusal.specs.Number.{Verdict, accept, refuse}
use Rattle.packet.specs.Rows.{touched}
use Rattle.stores.specs.Stores.{Plan, Memory, pixels, stores, following, due, run}
use Rattle.stores.specs.Stores as drawing
use Rattle.stores.specs.Calls.{answered, outcome}
use Rattle.stores.proofs.Steps.{run_append}
use Rattle.draw.specs.declared.Allowed.{Allowed}
use Rattle.draw.specs.Call.{Request, older_of, call_plan, draw_verdict, comes, report}
use Rattle.draw.specs.Call.{packet_of as packet_in}
use Rattle.draw.proofs.Judged.{accepted_call}
use Rattle.book.proofs.Lawful.{stores_few}
use Rattle.palette.specs.Update.{Update, verdict_for, verdict_on, change_of, change_by}
use Rattle.palette.proofs.Gradients.{gradients_few}
use Rattle.palette.proofs.Entries.{entries_few}
use Rattle.palette.proofs.Groups.{groups_few}
use Rattle.state.specs.declared.State.{State}
use Rattle.opcodes.specs.Opcodes.{Answer, taken, whole, unfinished, ended, refused, drawn_as, drawn_step}
use Rattle.film.specs.Film.{Lent, drawn_at, Outcome, request_of, draw_on, part, palette_step, update, map_to, heard_by, hear, step_of}
use Rattle.walk.specs.Walk.{Forward, Moves}
use Rattle.walk.specs.Draws.{body_of, packet_of, Drew}
use Rattle.walk.specs.View.{end_of, Colours, gradient, entries, masks, View, refuses, ends, enters, sounds, maps, colours, too_short, undrawn, draws, others}
use Rattle.walk.specs.Possible.{OfState, Follows}
use Rattle.walk.specs.Play.{most, Event, events_of, End, over, by_refusal, on, lead_of, Plays, stops, goes, Play}
use Rattle.walk.proofs.Walk.{step_moves}
use Rattle.walk.proofs.View.{view_of}
use Rattle.walk.proofs.Possible.{step_possible}
use Rattle.walk.proofs.Draws.{not_taken, not_refused, not_ended, not_quiet, not_heard}

-- ---- one way

module _ (film : List ℕ) (allowed : Allowed) where
  pub play_one : {st : State} {l : Lent} {a b : List Event} {e f : End} → Plays film allowed st l a e → Plays film allowed st l b f → (a ≡ b) × (e ≡ f)
  play_one (stops q) (stops r) = (refl, cc)
  play_one (stops q) (goes r p) = absurd (let z : ◌≡◌ {A = ℕ} 0 1 = cc in let y : ⊥ = omega arith in y)
  play_one (goes q p) (stops r) = absurd (let z : ◌≡◌ {A = ℕ} 0 1 = cc in let y : ⊥ = omega arith in y)
  play_one {st} {l} (goes {next = t} q p) (goes {next = u} {events = b} {e = f} r p') =
      let z : t ≡ u = cc in
      let s = play_one p (subst (λ (x : State). Plays film allowed x (step_of film st allowed l).lent b f) (sym z) p') in
      (ap₂ (λ (x : State) (y : List Event). events_of st x (step_of film st allowed l) ++ y) z s.0, s.1)

-- ---- the states on the way

lead_given : (P : State → Type 0) (x : Answer) (t : State) → OfState P x → lead_of x ≡ on t → P t
unfolding OfState lead_of
lead_given P (taken s) t h q = let e : s ≡ t = cc in subst P e h
lead_given P (whole s) t h q = let e : s ≡ t = cc in subst P e h
lead_given P (unfinished s) t h q = let e : s ≡ t = cc in subst P e h
lead_given P (ended s) t h q = absurd (let z : ◌≡◌ {A = ℕ} 0 1 = cc in let y : ⊥ = omega arith in y)
lead_given P (refused n k) t h q = absurd (let z : ◌≡◌ {A = ℕ} 0 1 = cc in let y : ⊥ = omega arith in y)

-- 16 accepts each, and they keep the stream
pub play_possible : (film : List ℕ) (st : State) (allowed : Allowed) (l : Lent) (t : State) → lead_of (step_of film st allowed l).step.answer ≡ on t → Follows (length film) st t
play_possible film st allowed l t q = lead_given (Follows (length film) st) _ t (step_possible film st allowed l) q

-- ---- a drawing that is allowed all that is due is whole

-- the stores of n blocks from the place on leave the place behind them
run_place : (d : Plan) (size : ℕ → ℕ) (n k : ℕ) (m : Memory) → m.place ≡ k → (run d m (following size k n)).place ≡ k + n
unfolding following stores run drawing.apply
run_place d size zero k m e = e ∙ omega arith
run_place d size (suc n) k m e =
    ap (λ (x : Memory). x.place) (run_append d m (stores size k) (following size (suc k) n))
    ∙ run_place d size n (suc k) (run d m (stores size k)) (ap (λ (x : Memory). x.place) (run_append d m (pixels k 0 (size k)) _))
    ∙ omega arith

through : (d : Plan) (m : Memory) (n : ℕ) → m.place ≤ d.blocks → length (due d m.place) ≤ n → (drawing.after d m n).place ≡ d.blocks
unfolding drawing.after
through d m n h l =
    rw (take_all n (due d m.place) l)
    (run_place d d.size (d.blocks - m.place) m.place m refl ∙ omega arith)

-- ---- no step is unfinished

-- a palette opcode makes two whole palettes at most
pub colours_few : (kind : ℕ) (body : List ℕ) {u : Update} → Colours kind body u → (n : ℕ) → verdict_for u n ≡ accept → length u.stores ≤ 1536
colours_few kind body (gradient e) n v = gradients_few body n v
colours_few kind body (entries e) n v = entries_few body n v
colours_few kind body (masks e) n v = groups_few body

-- an answer "unfinished" is one of a drawing
stuck : (x : Answer) (s : State) → x ≡ unfinished s → Drew x
unfolding Drew
stuck x s e = rw e tt

module _ (film : List ℕ) (st : State) (allowed : Allowed) (big : most ≤ allowed.stores) where
  called_done : (p : ℕ) (q : Request) (m : Memory) → most ≤ q.allowed.stores → (s : State) → (drawn_step st p (report m q)).answer ≡ unfinished s → ⊥
  unfolding outcome comes drawn_as answered
  called_done p q m enough s = by (draw_verdict q m) refl
    where
      by : (v : Verdict) → draw_verdict q m ≡ v
          → (drawn_step st p (outcome (call_plan q) (touched (packet_in q)) None m (comes v q.allowed.stores))).answer ≡ unfinished s → ⊥
      by accept e f =
          let a = (accepted_call _ _ _ _ _ _ _ _ _ _ e).1 in
          let few = stores_few (packet_in q) a.sized (older_of q) m.place a.at in
          let t = through (call_plan q) m q.allowed.stores a.at (omega (arith, few)) in
          let g = rw (eq-eqb _ _ t) at f in
          let z : ◌≡◌ {A = ℕ} 0 1 = cc in
          omega arith
      by (refuse n k) e f = let z : ◌≡◌ {A = ℕ} 0 1 = cc in omega arith

  on_done : (p : ℕ) (map packet : List ℕ) (l : Lent) (s : State) → (draw_on st p map packet allowed l).step.answer ≡ unfinished s → ⊥
  unfolding draw_on
  on_done p map packet l s e = called_done p (request_of st map packet allowed l) (drawn_at st l) big s e

  update_done : (p : ℕ) (u : Update) (l : Lent) → (verdict_on u l.palette ≡ accept → length u.stores ≤ 1536) → (s : State)
      → (update st p u allowed.stores l).step.answer ≡ unfinished s → ⊥
  unfolding palette_step change_by change_of
  update_done p u l few s = by (verdict_on u l.palette) few
    where
      by : (v : Verdict) → (v ≡ accept → length u.stores ≤ 1536) → (palette_step st p (change_by v u.stores allowed.stores)).answer ≡ unfinished s → ⊥
      by accept f q =
          let h : length u.stores ≤ allowed.stores = omega (arith, f refl, big) in
          let g = rw (le-ltb allowed.stores (length u.stores) h) at q in
          let z : ◌≡◌ {A = ℕ} 0 1 = cc in
          omega arith
      by (refuse n k) f q = let z : ◌≡◌ {A = ℕ} 0 1 = cc in omega arith

  map_done : (next : State) (l : Lent) (s : State) → (map_to st next allowed.stores l).step.answer ≡ unfinished s → ⊥
  unfolding map_to
  map_done next l s q =
      let g = rw (ne_eqb allowed.stores 0 (λ z. let y : ⊥ = omega (arith, z, big) in y)) at q in
      let z : ◌≡◌ {A = ℕ} 0 1 = cc in
      omega arith

  pub done : {l : Lent} {o : Outcome} → View film st allowed l o → (s : State) → o.step.answer ≡ unfinished s → ⊥
  unfolding hear
  done (refuses n k e) s q = not_refused n k (stuck _ s q)
  done (ends e v) s q = not_ended st (stuck _ s q)
  done (enters c e v) s q = not_taken _ (stuck _ s q)
  done {l} (sounds o a h) s q = not_heard st (end_of o) (heard_by st.sound o.kind o.version (body_of film o) (length l.room)) (stuck _ s q)
  done {l} (maps o a u e) s q = map_done _ l s q
  done {l} (colours o x a u c) s q = update_done (end_of o) x l (λ v. colours_few o.kind (body_of film o) c (length l.palette) v) s q
  done (too_short o a u e d n) s q = not_refused 5 0 (stuck _ s q)
  done (undrawn o a u e m) s q = not_refused 9 0 (stuck _ s q)
  done {l} (draws o start long a u e m c) s q = on_done (end_of o) (part film start (start + long)) (packet_of film o) l s q
  done (others o a u x) s q = not_quiet (length film) st o.kind o.version (body_of film o) (end_of o) (stuck _ s q)

-- ---- every film

module _ (film : List ℕ) (allowed : Allowed) (big : most ≤ allowed.stores) where
  -- one step, and then whatever the state plays that it gives
  play_step : (st : State) (l : Lent) → ((t : State) → Forward (length film) st t → Play film allowed t (step_of film st allowed l).lent) → Play film allowed st l
  unfolding Moves lead_of
  play_step st l more = by (step_of film st allowed l).step.answer refl (step_moves film st allowed l)
    where
      by : (x : Answer) → (step_of film st allowed l).step.answer ≡ x → Moves (length film) st x → Play film allowed st l
      by (taken s) e m = let p = more s m in record { events = events_of st s (step_of film st allowed l) ++ p.events; end = p.end; plays = goes (ap lead_of e) p.plays }
      by (whole s) e m = let p = more s m in record { events = events_of st s (step_of film st allowed l) ++ p.events; end = p.end; plays = goes (ap lead_of e) p.plays }
      by (unfinished s) e m = absurd (done film st allowed big (view_of film st allowed l) s e)
      by (ended s) e m = record { events = []; end = over; plays = stops (ap lead_of e) }
      by (refused n k) e m = record { events = []; end = by_refusal n k; plays = stops (ap lead_of e) }

  -- every step that goes on raises the position, which the film's length bounds
  play_from : (n : ℕ) (st : State) (l : Lent) → length film ≤ st.cursor.position + n → Play film allowed st l
  play_from zero st l h = play_step st l (λ t f. absurd (let z : ⊥ = omega (arith, f.rises, f.ordered, f.inside) in z))
  play_from (suc n) st l h = play_step st l (λ t f. play_from n t (step_of film st allowed l).lent (omega (arith, f.rises)))

  pub play_all : (st : State) (l : Lent) → Play film allowed st l
  play_all st l = play_from (length film) st l (omega arith)
