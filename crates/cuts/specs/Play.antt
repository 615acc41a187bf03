-- A film played with cuts (document 02, W11), for a host that allows each call 312,000 stores and calls a cut step again with the same state: what it is given on the
-- way, in order, and how the film ends (`walk/specs/Play`).
-- Assumes nothing.
use Rattle.std.specs.Prelude.{◌≡◌, List, [], ◌++◌, ℕ, length}
use Rattle.draw.specs.Call.{within}
use Rattle.state.specs.declared.State.{State}
use Rattle.film.specs.Film.{Lent, with_room, Outcome, step_of}
use Rattle.walk.specs.Play.{most, Event, events_of, End, on, stop, lead_of, Play}
use Rattle.cuts.specs.Cuts.{left_by}

-- a call that is not cut
abbrev pub called_at : List ℕ → ℕ → State → Lent → Outcome
called_at film spare st l = step_of film st (within most spare) l

-- calls to the end, each cut any number of times, at any points, whatever the cut call was allowed and left in the room for sound
pub data PlaysCut (film : List ℕ) (spare : ℕ) : State → Lent → List Event → End → Type 0 where
  stops : {st : State} {l : Lent} {e : End} → lead_of (called_at film spare st l).step.answer ≡ stop e → PlaysCut film spare st l [] e
  goes : {st next : State} {l : Lent} {events : List Event} {e : End} → lead_of (called_at film spare st l).step.answer ≡ on next
      → PlaysCut film spare next (called_at film spare st l).lent events e
      → PlaysCut film spare st l (events_of st next (called_at film spare st l) ++ events) e
  cut : {st : State} {l : Lent} {events : List Event} {e : End} → (n j : ℕ) (room : List ℕ) → length room ≡ length l.room
      → PlaysCut film spare st (with_room (left_by film st (within n spare) j l) room) events e → PlaysCut film spare st l events e

-- for every film, state and lent memory: without cuts the film plays to an end, which is one way to play it, and however it is cut, it gives the same pictures, each with
-- its palette, and the same samples, in the same order, and ends the same
pub record SameWithCuts (film : List ℕ) (spare : ℕ) (st : State) (l : Lent) : Type 0 where
  pub uncut : Play film (within most spare) st l
  pub played : PlaysCut film spare st l uncut.events uncut.end
  pub same : (events : List Event) (e : End) → PlaysCut film spare st l events e → (events ≡ uncut.events) × (e ≡ uncut.end)
