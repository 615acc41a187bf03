-- A drawing call is accepted exactly when its packet is, the pictures are long enough and the place is at most the block count: `drawn_exactly`.
-- Assumes nothing.
use mathlib.Core.Path.{◌≡◌, sym}
use mathlib.Core.Bool.{Bool}
use mathlib.Core.List.{List}
use Prim.Native.Nat.{ℕ}
use Rattle.refusal.specs.Number.{accept}
use Rattle.packet.specs.Packet.{packet_in, pixels}
use Rattle.packet.proofs.Exactly.{are_parts, is_whole}
use Rattle.draw.specs.Call.{call_verdict_in}
use Rattle.draw.specs.Taken.{DrawAcceptsIn}
use Rattle.draw.proofs.Judged.{is_long, judged_parts, accepted_size, accepted_call}

module _ (deep : Bool) (spare columns rows : ℕ) (map bytes : List ℕ) (front oldest back place : ℕ) where
  is_taken : DrawAcceptsIn deep spare columns rows map bytes front oldest back place → call_verdict_in deep spare columns rows map bytes front oldest back place ≡ accept
  is_taken t =
      let a = t.accepted in
      sym (judged_parts deep spare columns rows map bytes front oldest back place
      (accepted_size deep spare columns rows map bytes front oldest back place t) t.front_long (is_long deep oldest (pixels columns rows) t.oldest_long) t.back_long
      a.mapped t.within accept (sym (rw (are_parts deep bytes a.parts, is_whole spare (packet_in deep columns rows map bytes) a.drawn a.used))))

  pub drawn_exactly : (call_verdict_in deep spare columns rows map bytes front oldest back place ≡ accept → DrawAcceptsIn deep spare columns rows map bytes front oldest back place)
      × (DrawAcceptsIn deep spare columns rows map bytes front oldest back place → call_verdict_in deep spare columns rows map bytes front oldest back place ≡ accept)
  drawn_exactly = (λ e. (accepted_call deep spare columns rows map bytes front oldest back place e).2, is_taken)
