-- Document 02, W5: what is written starts at the room's front, and the rest stays. It is written from the first byte on, one store a byte.
-- Assumes nothing.
use Rattle.std.specs.Prelude.{List, ◌++◌, ℕ, length, drop}
use Rattle.listed.specs.Store.{Store, one, bytes as bytesFrom, from}
use Rattle.listed.specs.Order.{Due}

-- the room after these bytes were written
unfoldable pub written : List ℕ → List ℕ → List ℕ
written bytes room = bytes ++ drop (length bytes) room

-- the stores that write them: byte i goes to index i
abbrev pub writing : List ℕ → List Store
writing bytes = bytesFrom 0 (from bytes 0) (length bytes)

-- the first i of them are made, and the next one is this value at index i
abbrev pub NextByte : List ℕ → ℕ → ℕ → List ℕ → Type 0
NextByte bytes i value room = Due (writing bytes) i (one i value) room
