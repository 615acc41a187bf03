-- The two forms of the drawing call: `call_forms`.
-- Assumes nothing.
use mathlib.Core.Path.{◌≡◌, sym, ap, ◌∙◌}
use mathlib.Core.Logic.{inl, inr}
use mathlib.Core.Bool.{Bool}
use mathlib.Core.List.{List}
use Prim.Native.Nat.{ℕ}
use native.Mathlib.Omega.{arith}
use lib.Dec.{ltb}
use lib.ListN.{length}
use Rattle.refusal.specs.Number.{Verdict, accept, refuse}
use Rattle.packet.specs.Packet.{packet_in, blocks, pixels}
use Rattle.std.specs.Prelude.{None}
use Rattle.packet.specs.Rows.{touched}
use Rattle.packet.specs.Verdict.{default, strict, legal_size, map_fits}
use Rattle.packet.specs.Forms.{OneOver}
use Rattle.packet.proofs.Forms.{Differ, differ_if, differ_else, parts_differ}
use Rattle.packet.proofs.Forms as packet
use Rattle.stores.specs.Stores.{Memory}
use Rattle.stores.specs.Calls.{leave, leave_cut, outcome, happens}
use Rattle.draw.specs.Call.{Request, packet_of, call_plan, is_oldest_short, call_verdict_in, draw_verdict, comes, word_pictures}
use Rattle.draw.specs.Forms.{SameCall, in_form, Odd, Forms}
use Rattle.draw.proofs.Judged.{accepted_call}

calls_differ : (deep : Bool) (columns rows : ℕ) (map bytes : List ℕ) (front oldest back place : ℕ)
    → Differ (OneOver (packet_in deep columns rows map bytes))
    (call_verdict_in deep default columns rows map bytes front oldest back place) (call_verdict_in deep strict columns rows map bytes front oldest back place)
unfolding call_verdict_in
calls_differ deep columns rows map bytes front oldest back place =
    differ_if _ (legal_size columns rows) (refuse 6 0) _ _
    (differ_else _ (ltb front (pixels columns rows)) (refuse 8 0) _ _
    (differ_else _ (is_oldest_short deep oldest (pixels columns rows)) (refuse 8 0) _ _
    (differ_else _ (ltb back (pixels columns rows)) (refuse 8 0) _ _
    (differ_if _ (map_fits (packet_in deep columns rows map bytes)) (refuse 10 0) _ _
    (differ_else _ (ltb (blocks (packet_in deep columns rows map bytes)) place) (refuse 11 0) _ _ (parts_differ deep columns rows map bytes))))))

-- with one verdict all that a call comes to is one
by_verdict : (c : Request) (m : Memory) → draw_verdict (in_form default c) m ≡ draw_verdict (in_form strict c) m → SameCall (in_form default c) (in_form strict c) m
unfolding happens
by_verdict c m e =
    let p = call_plan c in
    let n = c.allowed.stores in
    record {
      verdict = e;
      leaves = ap (λ (v : Verdict). word_pictures c.front c.oldest (leave p m (comes v n))) e;
      tells = ap (λ (v : Verdict). outcome p (touched (packet_of c)) None m (comes v n)) e;
      cuts = λ j. ap (λ (v : Verdict). leave_cut p m (comes v n) j) e;
    }

module _ (c : Request) (m : Memory) where
  pub verdicts_differ : Differ (OneOver (packet_of c)) (draw_verdict (in_form default c) m) (draw_verdict (in_form strict c) m)
  verdicts_differ = calls_differ c.deep c.columns c.rows c.map c.bytes (length c.front) (length c.oldest) (length m.picture) m.place

  -- what the strict form accepts leaves no byte over
  none_over : draw_verdict (in_form strict c) m ≡ accept → OneOver (packet_of c) → ⊥
  none_over e o =
      let a = accepted_call c.deep strict c.columns c.rows c.map c.bytes (length c.front) (length c.oldest) (length m.picture) m.place e in
      packet.none_over c.deep c.columns c.rows c.map c.bytes (blocks (packet_of c)) a.2.accepted.used o

  odd_refused : Odd c m → draw_verdict (in_form strict c) m ≡ refuse 15 0
  odd_refused o = by verdicts_differ
    where
      by : Differ (OneOver (packet_of c)) (draw_verdict (in_form default c) m) (draw_verdict (in_form strict c) m) → draw_verdict (in_form strict c) m ≡ refuse 15 0
      by (inr d) = d.2
      by (inl e) = absurd (none_over (sym e ∙ o.accepted) o.over)

  same_call : (Odd c m → ⊥) → SameCall (in_form default c) (in_form strict c) m
  same_call n = by verdicts_differ
    where
      by : Differ (OneOver (packet_of c)) (draw_verdict (in_form default c) m) (draw_verdict (in_form strict c) m) → SameCall (in_form default c) (in_form strict c) m
      by (inl e) = by_verdict c m e
      by (inr d) = absurd (n (record { accepted = d.1; over = d.0 }))

  pub call_forms : Forms c m
  unfolding comes leave
  call_forms =
      record {
        same = same_call;
        nothing_over = λ e. same_call (λ o. let z : ⊥ = omega (arith, e, o.over) in z);
        odd = λ o. (odd_refused o, ap (λ (v : Verdict). word_pictures c.front c.oldest (leave (call_plan c) m (comes v c.allowed.stores))) (odd_refused o));
        strict_accepts = λ e. same_call (λ o. none_over e o.over);
      }
