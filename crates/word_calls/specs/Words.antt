-- What is so of a drawing call with true colour alone (document 02, W7): every block has 65 stores, 64 words and the place; every row of blocks is touched; and every word
-- that is stored has its high bit cleared, whatever the packet and the pictures hold (`proofs/Words`).
-- Assumes nothing.
use Rattle.std.specs.Prelude.{◌≡◌, List, ℕ, ◌-◌, ◌*◌, ◌≤◌, ◌<◌, length, Some}
use Rattle.packet.specs.Packet.{blocks}
use Rattle.packet.specs.Rows.{spanning, touched}
use Rattle.stores.specs.Stores.{due}
use Rattle.draw.specs.Call.{Request, packet_of, call_plan}

pub record EveryBlock (c : Request) : Type 0 where
  -- from block k on
  pub stores : (k : ℕ) → k ≤ blocks (packet_of c) → length (due (call_plan c) k) ≡ (blocks (packet_of c) - k) * 65
  pub rows : touched (packet_of c) ≡ Some (spanning 0 (c.rows - 1))
  -- pixel i of block k, whatever picture it is drawn on
  pub low : (k i : ℕ) (new : List ℕ) → (call_plan c).value k i new < 32768
