-- Demand 3 (document 01, "Book of demand 3"), for both widths: one claim about a list of drawing calls begun at place 0, each with its own packet, map, size, older
-- pictures, allowance and form, the default or the strict one; a call returns, or it is cut at j. `leaves` and `reply` of `calling` are what the contract of `draw` says that a call leaves
-- and answers; `happens` is what a call leaves that may be cut.
-- Assumes nothing.
use Rattle.std.specs.Prelude.{◌≡◌, ◌⊎◌, List, ℕ, ◌≤◌, ◌<◌, length, get_or}
use Rattle.refusal.specs.Number.{accept}
use Rattle.packet.specs.Rows.{touched, Outside}
use Rattle.packet.specs.Packet.{blocks, pixels}
use Rattle.packet.specs.Accepted.{AcceptsIn}
use Rattle.stores.specs.Stores.{Memory, memory, final}
use Rattle.stores.specs.Calls.{whole, Event, returns, cut, call_of, step, reply, happens, Returning, CutWithin, finally, ample_calls, Each, AsBooked}
use Rattle.draw.specs.Call.{Request, packet_of, call_plan, draw_verdict, calling, Pictures, word_pictures, leaves}
use Rattle.draw.specs.Taken.{OldestLong}

-- two calls of one width bring the same packet, map, size and older pictures
pub record Same (a b : Request) : Type 0 where
  pub deep : a.deep ≡ b.deep
  pub columns : a.columns ≡ b.columns
  pub rows : a.rows ≡ b.rows
  pub map : a.map ≡ b.map
  pub bytes : a.bytes ≡ b.bytes
  pub front : a.front ≡ b.front
  pub oldest : a.oldest ≡ b.oldest

-- along a list of calls, only those that are refused at the memory that they find bring others than c
unfoldable pub OnlyRefusedDiffer : Request → Memory → List (Event Request) → Type 0
OnlyRefusedDiffer c m es = Each calling (λ m e. draw_verdict (call_of e) m ≡ accept → Same (call_of e) c) m es

-- each cut point is at most the number of stores that its call would make
abbrev pub CutsWithin : Memory → List (Event Request) → Type 0
CutsWithin m es = Each calling (CutWithin calling) m es

-- an accepted packet with its map and size, and pictures that are long enough
pub record Given (c : Request) (first : List ℕ) : Type 0 where
  pub accepted : AcceptsIn c.deep c.allowed.spare c.columns c.rows c.map c.bytes
  pub front_long : pixels c.columns c.rows ≤ length c.front
  pub oldest_long : OldestLong c.deep (length c.oldest) (pixels c.columns c.rows)
  pub back_long : pixels c.columns c.rows ≤ length first

-- what an event leaves of the pictures and the place: a call that returns what the contract of `draw` says; of a cut one the older pictures stay, too
unfoldable pub leaves_at : Memory → Event Request → Pictures
leaves_at m (returns c) = leaves c m
leaves_at m (cut c j) = word_pictures c.front c.oldest (happens calling m (cut c j))

-- a call that is not refused and is allowed 65 stores or more raises the place or answers "whole"
abbrev pub Progresses : Memory → Request → Type 0
Progresses m r = draw_verdict r m ≡ accept → 65 ≤ r.allowed.stores → (m.place < (step calling m r).place) ⊎ ((reply calling m r).answer ≡ whole)

-- what a list of calls es that finds the picture first and place 0 comes to
pub record Demand3 (c : Request) (first : List ℕ) (es : List (Event Request)) : Type 0 where
  -- the place, every byte of the picture drawn on, every answer, every count and all rows told are the book's, which tells the rows of blocks that the
  -- packet of c touches; "whole" has left the picture of demand 2; the place never passes the block count; the picture keeps its length
  pub booked : AsBooked calling (call_plan c) (touched (packet_of c)) first es
  -- a call that brings the packet, map, size and older pictures of c is not refused, if it may leave over as many bytes as c or more
  pub accepts : Each calling (λ m e. Same (call_of e) c → c.allowed.spare ≤ (call_of e).allowed.spare → draw_verdict (call_of e) m ≡ accept) (memory first 0) es
  -- each call, refused, cut or not, leaves the older pictures that it was lent; one that is not refused, those of c
  pub shown : Each calling (λ m e. ((leaves_at m e).shown ≡ (call_of e).front) × (draw_verdict (call_of e) m ≡ accept → (leaves_at m e).shown ≡ c.front)) (memory first 0) es
  pub oldest : Each calling (λ m e. ((leaves_at m e).oldest ≡ (call_of e).oldest) × (draw_verdict (call_of e) m ≡ accept → (leaves_at m e).oldest ≡ c.oldest)) (memory first 0) es
  -- outside these rows the picture is as it was found, whatever calls were cut
  pub outside : (t : ℕ) → Outside c.columns (touched (packet_of c)) t → get_or (finally calling (memory first 0) es).picture t 0 ≡ get_or first t 0
  -- each call that returns makes progress
  pub progress : Each calling (Returning Progresses) (memory first 0) es
  -- as many such calls as there are blocks leave the picture of demand 2, whatever refused calls, cut calls and calls allowed less stand between
  pub finishes : blocks (packet_of c) ≤ ample_calls calling 64 (memory first 0) es
      → finally calling (memory first 0) es ≡ memory (final (call_plan c) first) (blocks (packet_of c))
