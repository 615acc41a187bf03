-- `step_moves`, `step_keeps`: of every step. `walked_far`, `walked_few`: of every walk.
-- Assumes nothing.
use mathlib.Core.Path.{refl, subst}
use mathlib.Core.Bool.{Bool, true, false, cond}
use mathlib.Core.List.{List}
use Prim.Native.Nat.{ℕ, ◌+◌, ◌*◌, ◌≤◌}
use native.Mathlib.Omega.{arith}
use lib.Dec.{eqb, ltb}
use lib.ListN.{length, take}
use Rattle.words.specs.Word.{word_at}
use Rattle.refusal.specs.Number.{Verdict, accept, refuse}
use Rattle.packet.specs.declared.Rows.{Rows}
use Rattle.packet.specs.Rows.{touched}
use Rattle.packet.specs.Verdict.{legal_size}
use Rattle.stores.specs.Stores.{Plan, count, after as afterStores}
use Rattle.stores.specs.Calls.{Call, allowed as allows, refused as denied, answered, leave, outcome}
use Rattle.draw.specs.declared.Allowed.{Allowed}
use Rattle.draw.specs.Call.{packet_of, call_plan, draw_verdict, Reason, comes}
use Rattle.listed.specs.Store.{applied}
use Rattle.palette.specs.Update.{Update, verdict_on, change_of, change_by, on_accept, palette_after}
use Rattle.palette.specs.Update as palette
use Rattle.state.specs.declared.Part.{Part}
use Rattle.std.specs.Prelude.{Option, None}
use Rattle.state.specs.declared.State.{State}
use Rattle.state.specs.Moves.{cursor_behind, cursor_at_end, at, behind, at_end, sized, sent, mapped, heard, finished}
use Rattle.sound.specs.declared.Sound.{Sound}
use Rattle.sound.specs.Step as sound
use Rattle.sound.specs.Sound.{answer}
use Rattle.heads.specs.declared.Opcode.{Opcode}
use Rattle.next.proofs.Standing.{possible, found_chunk}
use Rattle.opcodes.specs.Opcodes.{Answer, taken, whole, unfinished, ended, refused, stored, quiet, is_deep, size_answer, colour_of, quiet_answer, heard_step, drawn_as, drawn_step}
use Rattle.film.specs.Film.{Lent, with_palette, with_pictures, with_room, drawn_at, with_drawn, shortest, Outcome, after, request_of, draw_on, palette_step, update, map_to, heard_by, hear, step_of}
use Rattle.film.proofs.Pictures.{drawn_back}
use Rattle.walk.specs.Draws.{body_of}
use Rattle.walk.specs.View.{end_of, AtOpcode, View, refuses, ends, enters, sounds, maps, colours, too_short, undrawn, draws, others}
use Rattle.walk.specs.Walk.{Forward, Moves, Still, Keeps, GoesTo, Walked, none, more}
use Rattle.walk.proofs.View.{view_of}

-- what holds of a step
record Good (film : ℕ) (st : State) (l : Lent) (o : Outcome) : Type 0 where
  moves : Moves film st o.step.answer
  keeps : Keeps l o

-- ---- an opcode whose body ends at p

module _ (film : List ℕ) (st : State) (p : ℕ) (rises : st.cursor.position + 4 ≤ p) (within : p ≤ st.cursor.chunk_end) (inside : st.cursor.chunk_end ≤ length film) where
  on_behind : Forward (length film) st (behind st p)
  unfolding at cursor_behind
  on_behind = record { rises = rises; ordered = within; inside = inside }

  on_end : Forward (length film) st (at_end st (length film))
  unfolding at cursor_at_end
  on_end = record { rises = omega arith; ordered = omega arith; inside = omega arith }

  on_sized : (columns rows : ℕ) (deep : Bool) → Forward (length film) st (sized st p columns rows deep)
  unfolding sized cursor_behind
  on_sized columns rows deep = record { rises = rises; ordered = within; inside = inside }

  on_sent : Forward (length film) st (sent st p)
  unfolding sent cursor_behind
  on_sent = record { rises = rises; ordered = within; inside = inside }

  on_mapped : (m : Option Part) → Forward (length film) st (mapped st p m)
  unfolding mapped cursor_behind
  on_mapped m = record { rises = rises; ordered = within; inside = inside }

  on_finished : Forward (length film) st (finished st p)
  unfolding finished cursor_behind
  on_finished = record { rises = rises; ordered = within; inside = inside }

  on_heard : (s : Sound) → Forward (length film) st (heard st p s)
  unfolding heard cursor_behind
  on_heard s = record { rises = rises; ordered = within; inside = inside }

  size_moves : (columns rows c : ℕ) → Moves (length film) st (size_answer st p columns rows c)
  unfolding size_answer Moves
  size_moves columns rows c = by (eqb st.columns 0) (legal_size columns rows)
    where
      by : (t u : Bool) → Moves (length film) st (cond t (cond u (taken (sized st p columns rows (is_deep c))) (refused 6 0)) (refused 6 0))
      by true true = on_sized columns rows (is_deep c)
      by true false = tt
      by false u = tt

  quiet_moves : (kind version : ℕ) (body : List ℕ) → Moves (length film) st (quiet_answer (length film) st kind version body p)
  unfolding quiet_answer Moves
  quiet_moves kind version body = by (eqb kind 0) (eqb kind 5) (eqb kind 7)
    where
      by : (t u v : Bool)
          → Moves (length film) st (cond t (taken (at_end st (length film)))
          (cond u (size_answer st p (word_at body 0) (word_at body 2) (colour_of body version))
          (cond v (taken (sent st p)) (taken (behind st p)))))
      by true u v = on_end
      by false true v = size_moves (word_at body 0) (word_at body 2) (colour_of body version)
      by false false true = on_sent
      by false false false = on_behind

  quiet_good : (l : Lent) (x : Answer) → Moves (length film) st x → Good (length film) st l (after (quiet x) l)
  quiet_good l x m = record { moves = m; keeps = λ s. refl }

  -- a palette's change that is not refused is done, or keeps the state
  change_good : (n m : ℕ) (l k : Lent) (b : Bool) → Good (length film) st l (after (palette_step st p (cond b (palette.unfinished n) (palette.whole m))) k)
  unfolding palette_step Moves Still
  change_good n m l k true = record { moves = refl; keeps = λ s. absurd s }
  change_good n m l k false = record { moves = on_behind; keeps = λ s. absurd s }

  update_good : (u : Update) (n : ℕ) (l : Lent) → Good (length film) st l (update st p u n l)
  unfolding palette_step change_by change_of palette_after on_accept Moves
  update_good u n l = by (verdict_on u l.palette)
    where
      by : (v : Verdict)
          → Good (length film) st l (after (palette_step st p (change_by v u.stores n)) (with_palette l (on_accept v (applied (take n u.stores) l.palette) l.palette)))
      by accept = change_good n (length u.stores) l _ (ltb n (length u.stores))
      by (refuse m k) = quiet_good l (refused m k) tt

  map_good : (m : Option Part) (n : ℕ) (l : Lent) → Good (length film) st l (map_to st (mapped st p m) n l)
  unfolding map_to Moves Still
  map_good m n l = by (eqb n 0)
    where
      by : (b : Bool)
          → Good (length film) st l (cond b (after (quiet (unfinished st)) l) (after (stored (taken (mapped st p m)) 1) (with_pictures l l.first l.second 0)))
      by true = record { moves = refl; keeps = λ s. absurd s }
      by false = record { moves = on_mapped m; keeps = λ s. absurd s }

  -- 11
  plan_good : (d : Plan) (t : Option Rows) (l : Lent) (v : Call Reason)
      → Good (length film) st l (after (drawn_step st p (outcome d t None (drawn_at st l) v)) (with_drawn st l (leave d (drawn_at st l) v)))
  unfolding drawn_as Moves Still outcome answered leave
  plan_good d t l (denied r) = record { moves = tt; keeps = λ s. drawn_back st l }
  plan_good d t l (allows n) = by (eqb (afterStores d (drawn_at st l) n).place d.blocks)
    where
      by : (b : Bool)
          → Good (length film) st l (after (drawn_as st p (answered b) (count d (drawn_at st l) n) t) (with_drawn st l (afterStores d (drawn_at st l) n)))
      by true = record { moves = on_finished; keeps = λ s. absurd s }
      by false = record { moves = refl; keeps = λ s. absurd s }

  on_good : (map packet : List ℕ) (n : Allowed) (l : Lent) → Good (length film) st l (draw_on st p map packet n l)
  unfolding draw_on
  on_good map packet n l =
      let q = request_of st map packet n l in
      plan_good (call_plan q) (touched (packet_of q)) l (comes (draw_verdict q (drawn_at st l)) n.stores)

  -- sound
  heard_good : (x : sound.Step) (l : Lent) → Good (length film) st l (after (heard_step st p (answer x)) (with_room l (sound.room_after x l.room)))
  unfolding heard_step answer sound.room_after Moves Still
  heard_good (sound.taken s bytes) l = record { moves = on_heard s; keeps = λ s. absurd s }
  heard_good (sound.refused n k) l = quiet_good l (refused n k) tt

  hear_good : (kind version : ℕ) (body : List ℕ) (l : Lent) → Good (length film) st l (hear st kind version body p l)
  unfolding hear
  hear_good kind version body l = heard_good (heard_by st.sound kind version body (length l.room)) l

-- ---- a step

module _ (film : List ℕ) (st : State) (n : Allowed) (l : Lent) where
  rises : (o : Opcode) → AtOpcode film st l o → st.cursor.position + 4 ≤ end_of o
  rises o a = omega (arith, a.ready.behind)

  inside : (o : Opcode) → AtOpcode film st l o → st.cursor.chunk_end ≤ length film
  inside o a = (possible st (length film) a.accepted).inside

  good : {o : Outcome} → View film st n l o → Good (length film) st l o
  unfolding Moves Still at
  good (refuses i k e) = record { moves = tt; keeps = λ s. refl }
  good (ends e v) = record { moves = refl; keeps = λ s. refl }
  good (enters c e v) =
      let f = found_chunk film st (length l.palette) (shortest st l) c e in
      record { moves = record { rises = omega (arith, f.1, f.2.behind); ordered = f.2.ordered; inside = f.2.inside }; keeps = λ s. refl }
  good (sounds o a h) = hear_good film st (end_of o) (rises o a) a.ready.within (inside o a) o.kind o.version (body_of film o) l
  good (maps o a u e) = map_good film st (end_of o) (rises o a) a.ready.within (inside o a) _ n.stores l
  good (colours o x a u c) = update_good film st (end_of o) (rises o a) a.ready.within (inside o a) x n.stores l
  good (too_short o a u e d k) = record { moves = tt; keeps = λ s. refl }
  good (undrawn o a u e m) = record { moves = tt; keeps = λ s. refl }
  good (draws o start long a u e m c) = on_good film st (end_of o) (rises o a) a.ready.within (inside o a) _ _ n l
  good (others o a u x) =
      quiet_good film st (end_of o) (rises o a) a.ready.within (inside o a) l _
      (quiet_moves film st (end_of o) (rises o a) a.ready.within (inside o a) o.kind o.version (body_of film o))

  step_good : Good (length film) st l (step_of film st n l)
  step_good = good (view_of film st n l)

  -- the state that a step gives is further on in the film, or the one that came in
  pub step_moves : Moves (length film) st (step_of film st n l).step.answer
  step_moves = step_good.moves

  -- a step that is refused, or at the film's end, changes nothing lent
  pub step_keeps : Keeps l (step_of film st n l)
  step_keeps = step_good.keeps

-- ---- walks

goes_on : (film : ℕ) (st t : State) (x : Answer) → Moves film st x → GoesTo x t → Forward film st t
unfolding Moves GoesTo
goes_on film st t (taken s) m g = subst (Forward film st) g m
goes_on film st t (whole s) m g = subst (Forward film st) g m
goes_on film st t (unfinished s) m g = absurd g
goes_on film st t (ended s) m g = absurd g
goes_on film st t (refused n k) m g = absurd g

-- n such steps raise the position by 4 each at least
pub walked_far : {film : List ℕ} {n : ℕ} {st t : State} → Walked film n st t → st.cursor.position + 4 * n ≤ t.cursor.position
walked_far none = omega arith
walked_far {film = film} (more {s = s} {t = t} w allowed l g) =
    let f = goes_on (length film) s t _ (step_moves film s allowed l) g in
    omega (arith, walked_far w, f.rises)

-- so a film is walked in at most a quarter as many of them as it has bytes
pub walked_few : {film : List ℕ} {n : ℕ} {st t : State} → Walked film n st t → 4 * n ≤ length film
walked_few none = omega arith
walked_few {film = film} (more {s = s} {t = t} w allowed l g) =
    let f = goes_on (length film) s t _ (step_moves film s allowed l) g in
    omega (arith, walked_far w, f.rises, f.ordered, f.inside)
