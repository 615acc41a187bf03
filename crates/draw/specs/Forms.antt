-- The two forms of the drawing call (document 02, W6), and the byte that is left over: `proofs/Forms`, `proofs/Over`.
-- Assumes nothing.
use Rattle.std.specs.Prelude.{◌≡◌, Bool, true, false, List, ℕ, ◌+◌, length, take}
use Rattle.refusal.specs.Number.{accept, refuse}
use Rattle.packet.specs.Packet.{Position, offsets_at, blocks, start}
use Rattle.packet.specs.Verdict.{default, strict}
use Rattle.packet.specs.Forms.{NothingOver, OneOver}
use Rattle.stores.specs.Stores.{Memory}
use Rattle.stores.specs.Calls.{cut, happens}
use Rattle.draw.specs.Call.{Request, within, asking, packet_of, draw_verdict, calling, word_pictures, leaves, report}

-- two calls at one memory come to the same: the verdict, what they leave, cut or not, and what they tell
pub record SameCall (c d : Request) (m : Memory) : Type 0 where
  pub verdict : draw_verdict c m ≡ draw_verdict d m
  pub leaves : leaves c m ≡ leaves d m
  pub tells : report m c ≡ report m d
  pub cuts : (j : ℕ) → happens calling m (cut c j) ≡ happens calling m (cut d j)

-- ---- the two forms

-- the same call where so many bytes may be left over
abbrev pub in_form : ℕ → Request → Request
in_form spare c = asking c.deep c.columns c.rows c.map c.bytes c.front c.oldest (within c.allowed.stores spare)

-- all tests but 15 pass, and exactly one byte is left over
pub record Odd (c : Request) (m : Memory) : Type 0 where
  pub accepted : draw_verdict (in_form default c) m ≡ accept
  pub over : OneOver (packet_of c)

pub record Forms (c : Request) (m : Memory) : Type 0 where
  pub same : (Odd c m → ⊥) → SameCall (in_form default c) (in_form strict c) m
  -- so the two agree on every packet with nothing left over
  pub nothing_over : NothingOver (packet_of c) → SameCall (in_form default c) (in_form strict c) m
  -- the strict call is then refused, and changes nothing
  pub odd : Odd c m → (draw_verdict (in_form strict c) m ≡ refuse 15 0) × (leaves (in_form strict c) m ≡ word_pictures c.front c.oldest m)
  pub strict_accepts : draw_verdict (in_form strict c) m ≡ accept → SameCall (in_form default c) (in_form strict c) m

-- ---- what is left over is not read

-- the same call with another packet
abbrev pub with_bytes : Request → List ℕ → Request
with_bytes c bytes = asking c.deep c.columns c.rows c.map bytes c.front c.oldest c.allowed

-- where in the packet the last part's data ends, which the blocks use up to this position
abbrev pub end_of : Bool → List ℕ → Position → ℕ
end_of false bytes a = a.bytes
end_of true bytes a = offsets_at bytes + a.offsets

abbrev pub used_to : Request → ℕ
used_to c = end_of c.deep c.bytes (start (packet_of c) (blocks (packet_of c)))

-- a call that is not refused comes to the same with as many bytes that are the same where the blocks read them
abbrev pub OverUnread : Request → Memory → Type 0
OverUnread c m = (bytes : List ℕ) → length c.bytes ≡ length bytes → take (used_to c) c.bytes ≡ take (used_to c) bytes → SameCall c (with_bytes c bytes) m
