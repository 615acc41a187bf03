-- Pixels of a lent picture beyond the size (document 01: "are never touched"), of every drawing call of either width, whatever the memory, the place and the answer, cut
-- or not: none is written, and none is read, so that two calls that are lent the same up to the size answer the same and leave the same up to it.
-- Assumes nothing.
use Rattle.std.specs.Prelude.{◌≡◌, ℕ, take, drop}
use Rattle.packet.specs.Packet.{pixels}
use Rattle.stores.specs.Stores.{Memory}
use Rattle.stores.specs.Calls.{Event, cut, call_of, happens, step}
use Rattle.paint.specs.Value.{Older}
use Rattle.draw.specs.Call.{Request, asking, calling, report}

-- the pixels of a picture of a call's size
abbrev pub area : Request → ℕ
area c = pixels c.columns c.rows

-- an event leaves the picture beyond the size as it was
abbrev pub Unwritten : Memory → Event Request → Type 0
Unwritten m e = drop (area (call_of e)) (happens calling m e).picture ≡ drop (area (call_of e)) m.picture

-- the same call with other older pictures
abbrev pub showing : Request → Older → Request
showing c older = asking c.deep c.columns c.rows c.map c.bytes older.last older.oldest c.allowed

-- two memories with one place whose pictures are the same up to n
pub record SameTo (n : ℕ) (m m' : Memory) : Type 0 where
  pub picture : take n m.picture ≡ take n m'.picture
  pub place : m.place ≡ m'.place

-- a call, and the same with other older pictures, at two memories: one answer and count, the same rows, and what they leave is the same up to n, also where both are
-- cut at one point
pub record SameCalls (n : ℕ) (c : Request) (older : Older) (m m' : Memory) : Type 0 where
  pub tells : report m c ≡ report m' (showing c older)
  pub leaves : SameTo n (step calling m c) (step calling m' (showing c older))
  pub cuts : (j : ℕ) → SameTo n (happens calling m (cut c j)) (happens calling m' (cut (showing c older) j))

-- a call reads no pixel beyond the size
abbrev pub Unread : Request → Type 0
Unread c =
    (older : Older) (m m' : Memory) → take (area c) c.front ≡ take (area c) older.last → take (area c) c.oldest ≡ take (area c) older.oldest → SameTo (area c) m m'
    → SameCalls (area c) c older m m'
