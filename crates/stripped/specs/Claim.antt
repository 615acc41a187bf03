-- What is left of a film plays as the film does (document 02, W14), for every film that is taken, that is, of which bytes are left, and every stream: from equal lent
-- memory, with 312,000 stores a step, both films, played to their end, send the same pictures, each with its palette, and give the same samples of the stream, in
-- the same order, and end the same: at their end, or by the same refusal (`walk/specs/Play`). Doing it twice changes nothing, and what is left is never longer.
-- Assumes nothing.
use Rattle.std.specs.Prelude.{◌≡◌, List, ℕ, ◌≤◌, length}
use Rattle.room.specs.Room.{written}
use Rattle.draw.specs.Call.{within}
use Rattle.state.specs.declared.State.{State}
use Rattle.opening.specs.Opening.{started, opening_of}
use Rattle.film.specs.Film.{Lent}
use Rattle.walk.specs.Play.{most, Event, End, Plays}
use Rattle.strip.specs.Strip.{remains, left_of, stripped, strip_answer, strip_room}

-- both films play from a state, and whatever comes of the one comes of the other: these events, and this end. spare: the bytes that a packet may leave over
pub record SamePlay (film new : List ℕ) (spare : ℕ) (st : State) (l : Lent) : Type 0 where
  pub events : List Event
  pub end : End
  pub played : Plays film (within most spare) st l events end
  pub new_played : Plays new (within most spare) st l events end
  pub only : (a : List Event) (e : End) → Plays film (within most spare) st l a e → (a ≡ events) × (e ≡ end)
  pub new_only : (a : List Event) (e : End) → Plays new (within most spare) st l a e → (a ≡ events) × (e ≡ end)

-- of what is left of a film for a stream
pub record SameFilm (film : List ℕ) (stream : ℕ) (new : List ℕ) : Type 0 where
  -- both open, in one state
  pub first : State
  pub opens : opening_of film stream ≡ started first
  pub new_opens : opening_of new stream ≡ started first
  pub same : (spare : ℕ) (l : Lent) → SamePlay film new spare first l
  pub twice : left_of new stream ≡ remains new
  pub shorter : length new ≤ length film

-- the claim
abbrev pub Claim : Type 0
Claim = (film : List ℕ) (stream : ℕ) (new : List ℕ) → left_of film stream ≡ remains new → SameFilm film stream new

-- of the call that wrote n bytes into a room this long: they are what is left of the film, and stripped again it writes them again, wherever they have room
pub record Told (film : List ℕ) (stream room n : ℕ) : Type 0 where
  pub new : List ℕ
  pub long : n ≡ length new
  pub wrote : (r : List ℕ) → length r ≡ room → strip_room film stream r ≡ written new r
  pub film_same : SameFilm film stream new
  pub again : (k : ℕ) → n ≤ k → strip_answer new stream k ≡ stripped n
