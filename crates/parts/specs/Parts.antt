-- Parts of bytes, and where they are written.
-- Assumes nothing.
use Rattle.std.specs.Prelude.{List, ◌++◌, ℕ, ◌-◌, take, drop}
use Rattle.room.specs.Room.{written}

-- the part of some bytes from index s to index e
abbrev pub part : List ℕ → ℕ → ℕ → List ℕ
part bytes s e = take (e - s) (drop s bytes)

-- the room after these bytes were written from index at on
unfoldable pub laid : ℕ → List ℕ → List ℕ → List ℕ
laid at bytes room = take at room ++ written bytes (drop at room)
