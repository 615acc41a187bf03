-- Cuts in a step (document 02, W11): each step's stores, sound not counted, as one list, of which a step that is allowed n makes the first n (`proofs/Listed`); a call cut
-- after j of them; and that the step called again comes to what the uncut one comes to (`proofs/Again`).
-- Assumes nothing.
use Rattle.std.specs.Prelude.{◌≡◌, cond, List, [], ◌∷◌, ℕ, ◌+◌, ◌≤◌, ◌<◌, eqb, length, take, set, Option, Some, None}
use Rattle.refusal.specs.Number.{Verdict, accept, refuse}
use Rattle.stores.specs.Stores.{Plan, Memory, due, apply}
use Rattle.stores.specs.Stores as drawing
use Rattle.draw.specs.declared.Allowed.{Allowed}
use Rattle.draw.specs.Call.{Request, within, call_plan, draw_verdict}
use Rattle.listed.specs.Store as palette
use Rattle.palette.specs.Update.{Update, verdict_on}
use Rattle.palette.specs.Gradient.{create_gradient}
use Rattle.palette.specs.Entries.{set_palette}
use Rattle.palette.specs.Mask.{set_palette_compressed}
use Rattle.state.specs.declared.Part.{Part}
use Rattle.state.specs.declared.State.{State}
use Rattle.sound.specs.Format.{chosen}
use Rattle.heads.specs.Heads.{hears}
use Rattle.next.specs.Next.{Standing}
use Rattle.next.specs.Next as found
use Rattle.opcodes.specs.Opcodes.{unfinished}
use Rattle.film.specs.Film.{Lent, with_palette, with_room, stands_at, Outcome, drawn_at, with_drawn, request_of, part, is_body_short, step_of}
use Rattle.walk.specs.Play.{most}

-- ---- the list of a step

-- colour: a byte of the palette. drawn: the place, or a pixel of the picture drawn on
pub data Store : Type 0 where
  colour : palette.Store → Store
  drawn : drawing.Store → Store

unfoldable pub of_palette : List palette.Store → List Store
of_palette [] = []
of_palette (s ∷ l) = colour s ∷ of_palette l

unfoldable pub of_drawing : List drawing.Store → List Store
of_drawing [] = []
of_drawing (s ∷ l) = drawn s ∷ of_drawing l

-- what is due, and the plan by which pixels take their values
pub record Stores : Type 0 where
  pub plan : Plan
  pub list : List Store

-- no pixel
abbrev pub no_plan : Plan
no_plan = record { blocks = 0; size = λ k. 0; target = λ k i. 0; value = λ k i b. 0 }

abbrev pub nothing : Stores
nothing = record { plan = no_plan; list = [] }

-- 0B, 0C, 0D by the verdict: the bytes that the body sets, in order
unfoldable pub palette_due : Verdict → Update → Stores
palette_due accept u = record { plan = no_plan; list = of_palette u.stores }
palette_due (refuse n k) u = nothing

-- a drawing call by its verdict: the pixels and places from the place on
unfoldable pub call_due : Verdict → Plan → ℕ → Stores
call_due accept d place = record { plan = d; list = of_drawing (due d place) }
call_due (refuse n k) d place = nothing

abbrev pub request_due : Request → Memory → Stores
request_due q m = call_due (draw_verdict q m) (call_plan q) m.place

-- 11 by the pending map, and by its body
unfoldable pub mapped_due : Option Part → List ℕ → State → List ℕ → ℕ → Lent → Stores
mapped_due None film st body spare l = nothing
mapped_due (Some map) film st body spare l =
    cond (eqb st.columns 0) nothing
    (request_due (request_of st (part film map.start (map.start + map.long)) (part body 14 (length body)) (within most spare) l) (drawn_at st l))

unfoldable pub draw_due : Option Part → List ℕ → State → List ℕ → ℕ → Lent → Stores
draw_due map film st body spare l = cond (is_body_short st.deep (length body)) nothing (mapped_due map film st body spare l)

-- by the opcode's type: 0F has one store, the place, and what is none of these has none
unfoldable pub opcode_due : List ℕ → State → ℕ → List ℕ → ℕ → Lent → Stores
opcode_due film st kind body spare l =
    cond (eqb kind 15) (record { plan = no_plan; list = drawn (drawing.place 0) ∷ [] })
    (cond (eqb kind 17) (draw_due st.map film st body spare l)
    (cond (eqb kind 11) (palette_due (verdict_on (create_gradient body) l.palette) (create_gradient body))
    (cond (eqb kind 12) (palette_due (verdict_on (set_palette body) l.palette) (set_palette body))
    (cond (eqb kind 13) (palette_due (verdict_on (set_palette_compressed body) l.palette) (set_palette_compressed body)) nothing))))

-- by what stands where the state is: a refusal, the end, a chunk's head and sound have none
unfoldable pub standing_due : Standing → List ℕ → State → ℕ → Lent → Stores
standing_due (found.refused n k) film st spare l = nothing
standing_due found.ended film st spare l = nothing
standing_due (found.chunk c) film st spare l = nothing
standing_due (found.opcode o) film st spare l =
    cond (hears (chosen st.sound.stream) o.kind) nothing (opcode_due film st o.kind (part film o.start (o.start + o.long)) spare l)

-- the stores of a step, by the bytes that a packet may leave over
unfoldable pub due_of : List ℕ → State → ℕ → Lent → Stores
due_of film st spare l = standing_due (stands_at film st l) film st spare l

-- ---- what stores do

-- one store, at a state: it says which picture is drawn on
unfoldable pub make : State → Plan → Lent → Store → Lent
make st d l (colour s) = with_palette l (set l.palette s.index s.value)
make st d l (drawn s) = with_drawn st l (apply d (drawn_at st l) s)

unfoldable pub run : State → Plan → Lent → List Store → Lent
run st d l [] = l
run st d l (s ∷ ss) = run st d (make st d l s) ss

-- ---- a cut call

-- what a call leaves that is cut after j of the stores that it would make: the first j are made, the others not at all. (The room is sound's: any bytes.)
abbrev pub left_by : List ℕ → State → Allowed → ℕ → Lent → Lent
left_by film st allowed j l = run st (due_of film st allowed.spare l).plan l (take j (take allowed.stores (due_of film st allowed.spare l).list))

-- ---- the list is what a step makes

-- a step that is allowed n stores makes the first n of its list, or all, and counts them; it is unfinished exactly where it runs short, and then keeps its state
pub record Listed (st : State) (l : Lent) (n : ℕ) (d : Stores) (o : Outcome) : Type 0 where
  pub leaves : with_room o.lent l.room ≡ run st d.plan l (take n d.list)
  pub counts : o.step.stores ≡ length (take n d.list)
  pub short : n < length d.list → o.step.answer ≡ unfinished st
  pub enough : length d.list ≤ n → (s : State) → o.step.answer ≡ unfinished s → ⊥

-- ---- called again

-- one answer but for the count of stores, with its state; all that is lent but the room is one: the palette, the place and every picture; the same samples at the front of
-- a room that is as long
pub record Same (x y : Outcome) : Type 0 where
  pub answer : x.step.answer ≡ y.step.answer
  pub bytes : x.step.bytes ≡ y.step.bytes
  pub rows : x.step.rows ≡ y.step.rows
  pub others : with_room x.lent y.lent.room ≡ y.lent
  pub samples : take x.step.bytes x.lent.room ≡ take y.step.bytes y.lent.room
  pub room : length x.lent.room ≡ length y.lent.room

-- for every film, state and lent memory, whatever number the cut call was allowed, wherever it was cut, and whatever it left in the room
abbrev pub CutAgain : List ℕ → State → ℕ → Lent → Type 0
CutAgain film st spare l =
    (n j : ℕ) (room : List ℕ) → length room ≡ length l.room
    → Same (step_of film st (within most spare) (with_room (left_by film st (within n spare) j l) room)) (step_of film st (within most spare) l)
