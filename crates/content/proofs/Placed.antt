-- Where an opcode leaves the cursor.
-- Assumes nothing.
use mathlib.Core.Path.{◌≡◌, refl}
use mathlib.Core.Bool.{Bool, true, false, cond}
use mathlib.Core.List.{List}
use Prim.Native.Nat.{ℕ, ◌+◌, ◌-◌}
use borrow.Author.Tests.{ne_eqb}
use lib.Dec.{eqb}
use lib.ListN.{length}
use Rattle.words.specs.Word.{word_at}
use Rattle.packet.specs.declared.Rows.{Rows}
use Rattle.packet.specs.Verdict.{legal_size}
use Rattle.stores.specs.Calls as drawing
use Rattle.draw.specs.declared.Allowed.{Allowed}
use Rattle.draw.specs.Call.{Reason}
use Rattle.palette.specs.Update.{Change, change_on}
use Rattle.palette.specs.Update as palette
use Rattle.palette.specs.Gradient.{create_gradient}
use Rattle.palette.specs.Entries.{set_palette}
use Rattle.palette.specs.Mask.{set_palette_compressed}
use Rattle.sound.specs.Format.{chosen}
use Rattle.sound.specs.Sound as sound
use Rattle.state.specs.declared.Part.{Part}
use Rattle.std.specs.Prelude.{Option, Some, None}
use Rattle.state.specs.State.{some_part}
use Rattle.state.specs.declared.State.{State}
use Rattle.state.specs.Moves.{cursor_behind, at, at_end, sized, sent, mapped, heard, finished}
use Rattle.heads.specs.declared.Opcode.{Opcode}
use Rattle.heads.specs.Heads.{hears, is_sound}
use Rattle.opcodes.specs.Opcodes.{Answer, taken, whole, unfinished, refused, quiet, is_deep, colour_of, size_answer, quiet_answer, heard_step, drawn_as}
use Rattle.film.specs.Film.{Lent, Outcome, after, draw_on, part, draw_mapped, is_body_short, draw_by, palette_step, map_to, act, hear, take_on}

-- behind p, or where it was
pub data Placed (st : State) (p : ℕ) : Answer → Type 0 where
  on_taken : {s : State} → s.cursor ≡ cursor_behind st.cursor p → Placed st p (taken s)
  on_whole : {s : State} → s.cursor ≡ cursor_behind st.cursor p → Placed st p (whole s)
  stays : Placed st p (unfinished st)
  is_refused : (n k : ℕ) → Placed st p (refused n k)

record At (st : State) (p : ℕ) (o : Outcome) : Type 0 where
  is : Placed st p o.step.answer

module _ (film : List ℕ) (st : State) (p : ℕ) (allowed : Allowed) (l : Lent) where
  placed_by : (b : Bool) {x y : Outcome} → At st p x → At st p y → At st p (cond b x y)
  placed_by true u v = u
  placed_by false u v = v

  drawn_placed : (x : drawing.Answer Reason) (n : ℕ) (t : Option Rows) → Placed st p (drawn_as st p x n t).answer
  unfolding drawn_as finished
  drawn_placed drawing.whole n t = on_whole refl
  drawn_placed drawing.unfinished n t = stays
  drawn_placed (drawing.refusal r) n t = is_refused _ _

  mapped_placed : (map : Option Part) (body : List ℕ) → At st p (draw_mapped map film st body p allowed l)
  unfolding draw_mapped draw_on
  mapped_placed None body = record { is = is_refused _ _ }
  mapped_placed (Some map) body = placed_by (eqb st.columns 0) (record { is = is_refused _ _ }) (record { is = drawn_placed _ _ _ })

  by_placed : (map : Option Part) (body : List ℕ) → At st p (draw_by map film st body p allowed l)
  unfolding draw_by
  by_placed map body = placed_by (is_body_short st.deep (length body)) (record { is = is_refused _ _ }) (mapped_placed map body)

  palette_placed : (x : Change) → Placed st p (palette_step st p x).answer
  unfolding palette_step at
  palette_placed (palette.whole n) = on_taken refl
  palette_placed (palette.unfinished n) = stays
  palette_placed (palette.refused n k) = is_refused n k

  map_placed : (m : Option Part) (n : ℕ) → At st p (map_to st (mapped st p m) n l)
  unfolding map_to mapped
  map_placed m n = placed_by (eqb n 0) (record { is = stays }) (record { is = on_taken refl })

  size_placed : (a b : Bool) (columns rows : ℕ) (deep : Bool) → Placed st p (cond a (cond b (taken (sized st p columns rows deep)) (refused 6 0)) (refused 6 0))
  unfolding sized
  size_placed true true columns rows deep = on_taken refl
  size_placed true false columns rows deep = is_refused 6 0
  size_placed false b columns rows deep = is_refused 6 0

  answer_by : (b : Bool) {x y : Answer} → Placed st p x → Placed st p y → Placed st p (cond b x y)
  answer_by true u v = u
  answer_by false u v = v

  quiet_placed : (kind version : ℕ) (body : List ℕ) → (kind ≡ 0 → ⊥) → Placed st p (quiet_answer (length film) st kind version body p)
  unfolding quiet_answer size_answer sent at
  quiet_placed kind version body n =
      rw (ne_eqb kind 0 n)
      (answer_by (eqb kind 5) (size_placed (eqb st.columns 0) (legal_size (word_at body 0) (word_at body 2)) (word_at body 0) (word_at body 2) (is_deep (colour_of body version)))
      (answer_by (eqb kind 7) (on_taken refl) (on_taken refl)))

  act_placed : (kind version s : ℕ) (body : List ℕ) → (kind ≡ 0 → ⊥) → At st p (act film st kind version s body p allowed l)
  unfolding act
  act_placed kind version s body n =
      placed_by (eqb kind 15) (map_placed (some_part s (p - s)) allowed.stores)
      (placed_by (eqb kind 17) (by_placed st.map body)
      (placed_by (eqb kind 11) (record { is = palette_placed (change_on (create_gradient body) allowed.stores l.palette) })
      (placed_by (eqb kind 12) (record { is = palette_placed (change_on (set_palette body) allowed.stores l.palette) })
      (placed_by (eqb kind 13) (record { is = palette_placed (change_on (set_palette_compressed body) allowed.stores l.palette) }) (record { is = quiet_placed kind version body n })))))

  heard_placed : (x : sound.Answer) → Placed st p (heard_step st p x).answer
  unfolding heard_step heard
  heard_placed (sound.heard s n) = on_taken refl
  heard_placed (sound.refusal n k) = is_refused n k

pub take_placed : (film : List ℕ) (st : State) (o : Opcode) (allowed : Allowed) (l : Lent) → (o.kind ≡ 0 → ⊥) → Placed st (o.start + o.long) (take_on film st o allowed l).step.answer
unfolding take_on hear
take_placed film st o allowed l n =
    (placed_by film st (o.start + o.long) allowed l (hears (chosen st.sound.stream) o.kind) (record { is = heard_placed film st (o.start + o.long) allowed l _ })
    (act_placed film st (o.start + o.long) allowed l o.kind o.version o.start (part film o.start (o.start + o.long)) n)).is

-- 00 ends the film
pub take_last : (film : List ℕ) (st : State) (o : Opcode) (allowed : Allowed) (l : Lent) → o.kind ≡ 0 → take_on film st o allowed l ≡ after (quiet (taken (at_end st (length film)))) l
unfolding take_on hears is_sound act quiet_answer
take_last film st o allowed l e = rw e (by (chosen st.sound.stream))
  where
    by : (b : Bool) → cond (cond b false false) (hear st 0 o.version (part film o.start (o.start + o.long)) (o.start + o.long) l) (after (quiet (taken (at_end st (length film)))) l) ≡ after (quiet (taken (at_end st (length film)))) l
    by true = refl
    by false = refl
