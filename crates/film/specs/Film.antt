-- One step over a film (document 01, "Film, chunks, opcodes"): the answer, and everything lent afterwards, for every film, state and lent memory.
-- Assumes nothing.
use Rattle.std.specs.Prelude.{Bool, false, cond, List, [], ℕ, ◌+◌, ◌-◌, eqb, ltb, length, take, drop, Option, Some, None}
use Rattle.stores.specs.Stores.{Memory, memory}
use Rattle.stores.specs.Calls.{step}
use Rattle.draw.specs.declared.Allowed.{Allowed}
use Rattle.draw.specs.Call.{Request, asking, calling, report}
use Rattle.palette.specs.Update.{Update, Change, change_on, palette_after}
use Rattle.palette.specs.Update as palette
use Rattle.palette.specs.Gradient.{create_gradient}
use Rattle.palette.specs.Entries.{set_palette}
use Rattle.palette.specs.Mask.{set_palette_compressed}
use Rattle.state.specs.declared.Part.{Part}
use Rattle.state.specs.declared.State.{State}
use Rattle.state.specs.State.{some_part, shortest_of}
use Rattle.state.specs.Moves.{behind, into, mapped}
use Rattle.sound.specs.declared.Sound.{Sound}
use Rattle.sound.specs.Format.{chosen}
use Rattle.sound.specs.Step as sound
use Rattle.sound.specs.Sound.{answer, initialize_audio, audio_data, audio_silence}
use Rattle.heads.specs.declared.Opcode.{Opcode}
use Rattle.heads.specs.Heads.{hears}
use Rattle.next.specs.Next.{Standing, next_of}
use Rattle.next.specs.Next as found
use Rattle.opcodes.specs.Opcodes.{Step, taken, unfinished, ended, refused, stored, quiet, quiet_answer, heard_step, drawn_step}

-- ---- what is lent

-- three pictures of words, for films with true colour
pub record Words : Type 0 where
  pub picture0 : List ℕ
  pub picture1 : List ℕ
  pub picture2 : List ℕ

abbrev pub words : List ℕ → List ℕ → List ℕ → Words
words c d e = record { picture0 = c; picture1 = d; picture2 = e }

-- all that is lent to a step for writing: the palette, the two pictures of bytes, the place, which is the number of the next block to draw, the room for sound, and the
-- pictures of words
pub record Lent : Type 0 where
  pub palette : List ℕ
  pub first : List ℕ
  pub second : List ℕ
  pub place : ℕ
  pub room : List ℕ
  pub words : Words

abbrev pub lent : List ℕ → List ℕ → List ℕ → ℕ → List ℕ → Words → Lent
lent palette a b place room w = record { palette = palette; first = a; second = b; place = place; room = room; words = w }

-- with another palette, with other pictures of bytes or of words and place, or with another room; all else as it was
abbrev pub with_palette : Lent → List ℕ → Lent
with_palette l palette = lent palette l.first l.second l.place l.room l.words

abbrev pub with_pictures : Lent → List ℕ → List ℕ → ℕ → Lent
with_pictures l a b place = lent l.palette a b place l.room l.words

abbrev pub with_words : Lent → Words → ℕ → Lent
with_words l w place = lent l.palette l.first l.second place l.room w

abbrev pub with_room : Lent → List ℕ → Lent
with_room l room = lent l.palette l.first l.second l.place room l.words

-- the shortest of the film's own pictures
abbrev pub shortest : State → Lent → ℕ
shortest st l =
    shortest_of st.deep (length l.first) (length l.second) (length l.words.picture0) (length l.words.picture1) (length l.words.picture2)

-- what stands where a state is, with what is lent
abbrev pub stands_at : List ℕ → State → Lent → Standing
stands_at film st l = next_of film st (length l.palette) (shortest st l)

-- a step's answer, and what is lent afterwards
pub record Outcome : Type 0 where
  pub step : Step
  pub lent : Lent

abbrev pub after : Step → Lent → Outcome
after x l = record { step = x; lent = l }

-- ---- the pictures of a film

-- which picture is shown: of two of bytes, or of three of words
pub data Turn : Type 0 where
  bytes0 bytes1 words0 words1 words2 : Turn

unfoldable pub turn_by : Bool → ℕ → Turn
turn_by deep front = cond deep (cond (eqb front 0) words0 (cond (eqb front 1) words1 words2)) (cond (eqb front 0) bytes0 bytes1)

abbrev pub turn_of : State → Turn
turn_of st = turn_by st.deep st.front

-- the last picture, which is shown
unfoldable pub last_in : Turn → Lent → List ℕ
last_in bytes0 l = l.first
last_in bytes1 l = l.second
last_in words0 l = l.words.picture0
last_in words1 l = l.words.picture1
last_in words2 l = l.words.picture2

-- the new one, which is drawn on: the next one
unfoldable pub new_in : Turn → Lent → List ℕ
new_in bytes0 l = l.second
new_in bytes1 l = l.first
new_in words0 l = l.words.picture1
new_in words1 l = l.words.picture2
new_in words2 l = l.words.picture0

-- the oldest one: of a film with true colour the one behind
unfoldable pub oldest_in : Turn → Lent → List ℕ
oldest_in bytes0 l = []
oldest_in bytes1 l = []
oldest_in words0 l = l.words.picture2
oldest_in words1 l = l.words.picture0
oldest_in words2 l = l.words.picture1

-- with another new one and place
unfoldable pub with_new : Turn → Lent → Memory → Lent
with_new bytes0 l m = with_pictures l l.first m.picture m.place
with_new bytes1 l m = with_pictures l m.picture l.second m.place
with_new words0 l m = with_words l (words l.words.picture0 m.picture l.words.picture2) m.place
with_new words1 l m = with_words l (words l.words.picture0 l.words.picture1 m.picture) m.place
with_new words2 l m = with_words l (words m.picture l.words.picture1 l.words.picture2) m.place

abbrev pub last_of : State → Lent → List ℕ
last_of st l = last_in (turn_of st) l

abbrev pub new_of : State → Lent → List ℕ
new_of st l = new_in (turn_of st) l

abbrev pub oldest_of : State → Lent → List ℕ
oldest_of st l = oldest_in (turn_of st) l

-- what a drawing call stores to: the new picture and the place
abbrev pub drawn_at : State → Lent → Memory
drawn_at st l = memory (new_of st l) l.place

abbrev pub with_drawn : State → Lent → Memory → Lent
with_drawn st l m = with_new (turn_of st) l m

-- ---- 11

-- the drawing call that it makes
abbrev pub request_of : State → List ℕ → List ℕ → Allowed → Lent → Request
request_of st map packet allowed l = asking st.deep st.columns st.rows map packet (last_of st l) (oldest_of st l) allowed

-- a drawing call: its answer, and the new picture and the place as it leaves them
abbrev pub called : State → ℕ → Request → Lent → Outcome
called st p q l = after (drawn_step st p (report (drawn_at st l) q)) (with_drawn st l (step calling (drawn_at st l) q))

unfoldable pub draw_on : State → ℕ → List ℕ → List ℕ → Allowed → Lent → Outcome
draw_on st p map packet allowed l = called st p (request_of st map packet allowed l) l

-- the part of a film from s to e
abbrev pub part : List ℕ → ℕ → ℕ → List ℕ
part film s e = take (e - s) (drop s film)

-- by the pending map, and the body that ends at p: the packet is what remains behind its 14 bytes in front. 9 without a map or a size
unfoldable pub draw_mapped : Option Part → List ℕ → State → List ℕ → ℕ → Allowed → Lent → Outcome
draw_mapped None film st body p allowed l = after (quiet (refused 9 0)) l
draw_mapped (Some map) film st body p allowed l =
    cond (eqb st.columns 0) (after (quiet (refused 9 0)) l) (draw_on st p (part film map.start (map.start + map.long)) (part body 14 (length body)) allowed l)

-- 5: with true colour a body has 16 bytes, the 14 in front and the packet's first word
unfoldable pub is_body_short : Bool → ℕ → Bool
is_body_short deep n = cond deep (ltb n 16) false

unfoldable pub draw_by : Option Part → List ℕ → State → List ℕ → ℕ → Allowed → Lent → Outcome
draw_by map film st body p allowed l = cond (is_body_short st.deep (length body)) (after (quiet (refused 5 0)) l) (draw_mapped map film st body p allowed l)

-- ---- an opcode that is taken and is no sound

-- 0B, 0C, 0D, by what became of the palette's change: one that ran short keeps the state
unfoldable pub palette_step : State → ℕ → Change → Step
palette_step st p (palette.whole n) = stored (taken (behind st p)) n
palette_step st p (palette.unfinished n) = stored (unfinished st) n
palette_step st p (palette.refused n k) = quiet (refused n k)

-- where n stores are allowed
abbrev pub update : State → ℕ → Update → ℕ → Lent → Outcome
update st p u n l = after (palette_step st p (change_on u n l.palette)) (with_palette l (palette_after u n l.palette))

-- 0F, which leads to a state with another map: one store, by which the place becomes 0
unfoldable pub map_to : State → State → ℕ → Lent → Outcome
map_to st next n l = cond (eqb n 0) (after (quiet (unfinished st)) l) (after (stored (taken next) 1) (with_pictures l l.first l.second 0))

-- type and version, and the body from s on, which ends at p. 0F: the body becomes the pending map
unfoldable pub act : List ℕ → State → ℕ → ℕ → ℕ → List ℕ → ℕ → Allowed → Lent → Outcome
act film st kind version s body p allowed l =
    cond (eqb kind 15) (map_to st (mapped st p (some_part s (p - s))) allowed.stores l)
    (cond (eqb kind 17) (draw_by st.map film st body p allowed l)
    (cond (eqb kind 11) (update st p (create_gradient body) allowed.stores l)
    (cond (eqb kind 12) (update st p (set_palette body) allowed.stores l)
    (cond (eqb kind 13) (update st p (set_palette_compressed body) allowed.stores l)
    (after (quiet (quiet_answer (length film) st kind version body p)) l)))))

abbrev pub act_on : List ℕ → State → Opcode → Allowed → Lent → Outcome
act_on film st o allowed l =
    act film st o.kind o.version o.start (part film o.start (o.start + o.long)) (o.start + o.long) allowed l

-- ---- sound: 03, 08 and 09 where a stream is chosen

-- what comes of it, by the room's length
unfoldable pub heard_by : Sound → ℕ → ℕ → List ℕ → ℕ → sound.Step
heard_by s kind version body room =
    cond (eqb kind 3) (initialize_audio s version body) (cond (eqb kind 8) (audio_data s body room) (audio_silence s body room))

unfoldable pub hear : State → ℕ → ℕ → List ℕ → ℕ → Lent → Outcome
hear st kind version body p l =
    after (heard_step st p (answer (heard_by st.sound kind version body (length l.room))))
    (with_room l (sound.room_after (heard_by st.sound kind version body (length l.room)) l.room))

-- an opcode that is taken: sound that is acted on, or any other
unfoldable pub take_on : List ℕ → State → Opcode → Allowed → Lent → Outcome
take_on film st o allowed l =
    cond (hears (chosen st.sound.stream) o.kind)
    (hear st o.kind o.version (part film o.start (o.start + o.long)) (o.start + o.long) l)
    (act_on film st o allowed l)

-- ---- a step

-- by what stands where the state is
unfoldable pub standing : Standing → List ℕ → State → Allowed → Lent → Outcome
standing (found.refused n k) film st allowed l = after (quiet (refused n k)) l
standing found.ended film st allowed l = after (quiet (ended st)) l
standing (found.chunk c) film st allowed l = after (quiet (taken (into st c))) l
standing (found.opcode o) film st allowed l = take_on film st o allowed l

unfoldable pub step_of : List ℕ → State → Allowed → Lent → Outcome
step_of film st allowed l = standing (stands_at film st l) film st allowed l
