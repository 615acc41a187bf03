-- A film played to its end: what a host is given on the way, in order, and how it ends, where every call is allowed the same and is lent what the call before
-- it left. `proofs/Play`: a film plays in one way at most (`play_one`), and with `most` stores a call every film plays (`play_all`).
-- Assumes nothing.
use Rattle.std.specs.Prelude.{◌≡◌, Bool, true, false, cond, List, [], ◌∷◌, ◌++◌, ℕ, take}
use Rattle.draw.specs.declared.Allowed.{Allowed}
use Rattle.state.specs.declared.State.{State}
use Rattle.state.specs.State.{shown_of, shown_words_of}
use Rattle.opcodes.specs.Opcodes.{Answer, taken, whole, unfinished, ended, refused}
use Rattle.film.specs.Film.{Lent, Outcome, step_of}

-- the stores that are always enough for a call: 65 a block, 4,800 blocks. (No palette opcode makes more than 1,536.)
abbrev pub most : ℕ
most = 312000

-- ---- what a host is given

-- picture: one that is sent, with the palette that stands then. words: one of a film with true colour. sample: a byte of sound
pub data Event : Type 0 where
  picture : List ℕ → List ℕ → Event
  words : List ℕ → List ℕ → Event
  sample : ℕ → Event

unfoldable pub samples : List ℕ → List Event
samples [] = []
samples (x ∷ bytes) = sample x ∷ samples bytes

-- the picture that is shown, of the film's own kind
unfoldable pub shown_by : State → Lent → Event
shown_by st l =
    cond st.deep (words (shown_words_of st l.words.picture0 l.words.picture1 l.words.picture2) l.palette)
    (picture (shown_of st l.first l.second) l.palette)

-- a frame was unsent and no longer is: the picture that is then shown
unfoldable pub sent_by : Bool → Bool → State → Lent → List Event
sent_by true false st l = shown_by st l ∷ []
sent_by true true st l = []
sent_by false unsent st l = []

-- what a step from st to next gives: the bytes that it wrote at the room's front, and the picture that it sent
unfoldable pub events_of : State → State → Outcome → List Event
events_of st next o = samples (take o.step.bytes o.lent.room) ++ sent_by st.unsent next.unsent next o.lent

-- ---- how it goes on

-- how a film ends: at its end, or by a refusal's number and block
pub data End : Type 0 where
  over : End
  by_refusal : ℕ → ℕ → End

-- where an answer leads: on with a state, or to the end
pub data Lead : Type 0 where
  on : State → Lead
  stop : End → Lead

unfoldable pub lead_of : Answer → Lead
lead_of (taken s) = on s
lead_of (whole s) = on s
lead_of (unfinished s) = on s
lead_of (ended s) = stop over
lead_of (refused n k) = stop (by_refusal n k)

-- from a state, with what is lent
pub data Plays (film : List ℕ) (allowed : Allowed) : State → Lent → List Event → End → Type 0 where
  stops : {st : State} {l : Lent} {e : End} → lead_of (step_of film st allowed l).step.answer ≡ stop e → Plays film allowed st l [] e
  goes : {st next : State} {l : Lent} {events : List Event} {e : End} → lead_of (step_of film st allowed l).step.answer ≡ on next
      → Plays film allowed next (step_of film st allowed l).lent events e
      → Plays film allowed st l (events_of st next (step_of film st allowed l) ++ events) e

-- what comes of playing a film
pub record Play (film : List ℕ) (allowed : Allowed) (st : State) (l : Lent) : Type 0 where
  pub events : List Event
  pub end : End
  pub plays : Plays film allowed st l events end
