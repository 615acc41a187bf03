-- The two forms of the check of a packet (document 02, W6), for both widths: the default accepts one byte left over, at the end of the last part, the strict form none.
-- They differ only where all tests but 15 pass and exactly one byte is left over there (`proofs/Forms`).
-- Assumes nothing.
use Rattle.std.specs.Prelude.{◌≡◌, Bool, cond, List, ℕ, ◌+◌, length}
use Rattle.refusal.specs.Number.{accept, refuse}
use Rattle.packet.specs.Packet.{Packet, packet_in, blocks, start}
use Rattle.packet.specs.Verdict.{default, strict, verdict_in}
use Rattle.packet.specs.Accepted.{AcceptsIn}

-- the length of the last part, and how much of it n blocks use up
abbrev pub last_length : Packet → ℕ
last_length p = cond p.deep (length p.offsets) (length p.bytes)

abbrev pub last_used : Packet → ℕ → ℕ
last_used p n = cond p.deep (start p n).offsets (start p n).bytes

-- the blocks leave nothing over
abbrev pub NothingOver : Packet → Type 0
NothingOver p = last_length p ≡ last_used p (blocks p)

-- the blocks leave exactly one byte over
abbrev pub OneOver : Packet → Type 0
OneOver p = last_length p ≡ last_used p (blocks p) + 1

-- all tests but 15 pass, and exactly one byte is left over
pub record Odd (deep : Bool) (columns rows : ℕ) (map bytes : List ℕ) : Type 0 where
  pub accepted : AcceptsIn deep default columns rows map bytes
  pub over : OneOver (packet_in deep columns rows map bytes)

pub record Forms (deep : Bool) (columns rows : ℕ) (map bytes : List ℕ) : Type 0 where
  pub odd : Odd deep columns rows map bytes → (verdict_in deep default columns rows map bytes ≡ accept) × (verdict_in deep strict columns rows map bytes ≡ refuse 15 0)
  pub same : (Odd deep columns rows map bytes → ⊥) → verdict_in deep default columns rows map bytes ≡ verdict_in deep strict columns rows map bytes
  -- so the two agree on every packet with nothing left over
  pub nothing_over : NothingOver (packet_in deep columns rows map bytes) → verdict_in deep default columns rows map bytes ≡ verdict_in deep strict columns rows map bytes
  -- and what the strict form accepts the default accepts
  pub strict_accepts : verdict_in deep strict columns rows map bytes ≡ accept → verdict_in deep default columns rows map bytes ≡ accept
