-- The picture of a frame that is taken, stored by the encoder, is drawn again: `stored`.
-- Assumes nothing.
use mathlib.Core.Path.{◌≡◌}
use mathlib.Core.List.{List}
use Prim.Native.Nat.{ℕ, ◌≤◌}
use native.Mathlib.Omega.{arith}
use lib.ListN.{length}
use Rattle.refusal.specs.Number.{accept}
use Rattle.packet.specs.Packet.{pixels}
use Rattle.packet.proofs.Sizes.{size_is}
use Rattle.encode.proofs.Draws.{draws}
use Rattle.video1.specs.Frame.{frame_verdict}
use Rattle.video1.proofs.Explained.{taken_is, after_long}
use Rattle.trailer.specs.Stored.{storing, Stored}

pub stored : (columns rows : ℕ) (s b front back : List ℕ) → frame_verdict columns rows s (length b) ≡ accept → pixels columns rows ≤ length front
    → pixels columns rows ≤ length back → Stored columns rows s b front back
stored columns rows s b front back e hf hb =
    let t = taken_is columns rows s (length b) e in
    let l = size_is columns rows t.legal in
    draws (storing columns rows s b front back) rows
    (record { wide = l.0; high = l.1; wanted_long = omega (arith, t.room, after_long columns rows s b); front_long = hf; back_long = hb })
