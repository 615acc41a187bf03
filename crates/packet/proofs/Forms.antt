-- The two forms of the check: `forms`. What they come to is carried through each test by `Differ`.
-- Assumes nothing.
use mathlib.Core.Path.{◌≡◌, refl, sym, ◌∙◌}
use mathlib.Core.Logic.{◌⊎◌, inl, inr}
use mathlib.Core.Bool.{Bool, true, false, cond}
use mathlib.Core.List.{List}
use Prim.Native.Nat.{ℕ, zero, suc, ◌+◌, zero-le}
use native.Mathlib.Decide.{dec_lt}
use native.Mathlib.Omega.{arith}
use borrow.Author.Tests.{lt-leb, le-leb}
use lib.Dec.{leb}
use lib.ListN.{length}
use Rattle.refusal.specs.Number.{Verdict, accept, refuse}
use Rattle.packet.specs.Packet.{Packet, packet_in, blocks, start}
use Rattle.packet.specs.Verdict.{default, strict, and_then, block_verdict, end_verdict, verdict_from, blocks_verdict, parts_fit, parts_verdict, map_fits, legal_size, verdict_in}
use Rattle.packet.specs.Accepted.{Used, AcceptsIn}
use Rattle.packet.specs.Forms.{last_length, last_used, OneOver, Odd, Forms}
use Rattle.packet.proofs.Exactly.{accepted_exactly, accepts_more}

-- the verdicts v of the default and w of the strict form: one, or an accepted packet with one byte over that is refused by 15
abbrev pub Differ : Type 0 → Verdict → Verdict → Type 0
Differ one v w = (v ≡ w) ⊎ (one × (v ≡ accept) × (w ≡ refuse 15 0))

-- behind a test that both make
pub differ_if : (one : Type 0) (b : Bool) (k v w : Verdict) → Differ one v w → Differ one (cond b v k) (cond b w k)
differ_if one true k v w d = d
differ_if one false k v w d = inl refl

pub differ_else : (one : Type 0) (b : Bool) (k v w : Verdict) → Differ one v w → Differ one (cond b k v) (cond b k w)
differ_else one true k v w d = inl refl
differ_else one false k v w d = d

differ_then : (one : Type 0) (u v w : Verdict) → Differ one v w → Differ one (and_then u v) (and_then u w)
unfolding and_then
differ_then one accept v w d = d
differ_then one (refuse n k) v w d = inl refl

-- ---- the blocks, and what they leave over

-- what the two forms say of the last part, whose length is l and of which u is used
last_differ : (l u : ℕ) → Differ (l ≡ u + 1) (cond (leb l (u + default)) accept (refuse 15 0)) (cond (leb l (u + strict)) accept (refuse 15 0))
last_differ l u =
    elim (dec_lt u l) [
      | no h ↦ inl (rw (le-leb l (u + 1) (omega arith), le-leb l (u + 0) (omega arith)))
      | yes h ↦
          elim (dec_lt (u + 1) l) [
            | yes g ↦ inl (rw (lt-leb l (u + 1) g, lt-leb l (u + 0) (omega arith)))
            | no g ↦ inr (omega arith, rw (le-leb l (u + 1) (omega arith)), rw (lt-leb l (u + 0) (omega arith)))
          ]
    ]

-- an 8-bit packet has no second part; of one with true colour both forms say the same of the first
ends : (deep : Bool) (columns rows : ℕ) (map bytes : List ℕ) (n : ℕ)
    → Differ (last_length (packet_in deep columns rows map bytes) ≡ last_used (packet_in deep columns rows map bytes) n + 1)
    (end_verdict default (packet_in deep columns rows map bytes) n) (end_verdict strict (packet_in deep columns rows map bytes) n)
unfolding end_verdict
ends false columns rows map bytes n =
    let p = packet_in false columns rows map bytes in
    rw (le-leb 0 ((start p n).offsets + default) zero-le, le-leb 0 ((start p n).offsets + strict) zero-le) (last_differ (length bytes) (start p n).bytes)
ends true columns rows map bytes n =
    let p = packet_in true columns rows map bytes in
    differ_if _ (leb (length p.bytes) ((start p n).bytes + 0)) (refuse 15 0) _ _ (last_differ (length p.offsets) (start p n).offsets)

module _ (deep : Bool) (columns rows : ℕ) (map bytes : List ℕ) where
  abbrev whole : Packet
  whole = packet_in deep columns rows map bytes

  from : (n k : ℕ) → Differ (last_length whole ≡ last_used whole (k + n) + 1) (verdict_from default whole n k) (verdict_from strict whole n k)
  unfolding verdict_from
  from zero k = let z : k ≡ k + 0 = omega arith in rw (← z) (ends deep columns rows map bytes k)
  from (suc n) k = let z : suc k + n ≡ k + suc n = omega arith in rw (← z) (differ_then _ (block_verdict whole k) _ _ (from n (suc k)))

  blocks_differ : Differ (OneOver whole) (blocks_verdict default whole) (blocks_verdict strict whole)
  unfolding blocks_verdict
  blocks_differ = let z : 0 + blocks whole ≡ blocks whole = omega arith in rw z at (from (blocks whole) 0)

  pub parts_differ : Differ (OneOver whole) (parts_verdict deep default columns rows map bytes) (parts_verdict deep strict columns rows map bytes)
  parts_differ = differ_if _ (parts_fit deep bytes) (refuse 20 0) _ _ blocks_differ

-- what the strict form accepts leaves no byte over
pub none_over : (deep : Bool) (columns rows : ℕ) (map bytes : List ℕ) (n : ℕ) → Used strict (packet_in deep columns rows map bytes) n
    → last_length (packet_in deep columns rows map bytes) ≡ last_used (packet_in deep columns rows map bytes) n + 1 → ⊥
none_over false columns rows map bytes n u o = omega (arith, u.first, o)
none_over true columns rows map bytes n u o = omega (arith, u.second, o)

-- ---- the whole check

module _ (deep : Bool) (columns rows : ℕ) (map bytes : List ℕ) where
  verdicts_differ : Differ (OneOver (packet_in deep columns rows map bytes)) (verdict_in deep default columns rows map bytes) (verdict_in deep strict columns rows map bytes)
  unfolding verdict_in
  verdicts_differ =
      differ_if _ (legal_size columns rows) (refuse 6 0) _ _
      (differ_if _ (map_fits (packet_in deep columns rows map bytes)) (refuse 10 0) _ _ (parts_differ deep columns rows map bytes))

  exactly : (spare : ℕ) → (verdict_in deep spare columns rows map bytes ≡ accept → AcceptsIn deep spare columns rows map bytes)
      × (AcceptsIn deep spare columns rows map bytes → verdict_in deep spare columns rows map bytes ≡ accept)
  exactly spare = accepted_exactly deep spare columns rows map bytes

  odd_refused : Odd deep columns rows map bytes → verdict_in deep strict columns rows map bytes ≡ refuse 15 0
  odd_refused o = by verdicts_differ
    where
      by : Differ (OneOver (packet_in deep columns rows map bytes)) (verdict_in deep default columns rows map bytes) (verdict_in deep strict columns rows map bytes)
          → verdict_in deep strict columns rows map bytes ≡ refuse 15 0
      by (inr d) = d.2
      by (inl e) =
          let a = (exactly strict).0 (sym e ∙ (exactly default).1 o.accepted) in
          absurd (none_over deep columns rows map bytes (blocks (packet_in deep columns rows map bytes)) a.used o.over)

  same_verdict : (Odd deep columns rows map bytes → ⊥) → verdict_in deep default columns rows map bytes ≡ verdict_in deep strict columns rows map bytes
  same_verdict n = by verdicts_differ
    where
      by : Differ (OneOver (packet_in deep columns rows map bytes)) (verdict_in deep default columns rows map bytes) (verdict_in deep strict columns rows map bytes)
          → verdict_in deep default columns rows map bytes ≡ verdict_in deep strict columns rows map bytes
      by (inl e) = e
      by (inr d) = absurd (n (record { accepted = (exactly default).0 d.1; over = d.0 }))

  pub forms : Forms deep columns rows map bytes
  forms =
      record {
        odd = λ o. ((exactly default).1 o.accepted, odd_refused o);
        same = same_verdict;
        nothing_over = λ e. same_verdict (λ o. let z : ⊥ = omega (arith, e, o.over) in z);
        strict_accepts = λ e. (exactly default).1 (accepts_more deep strict default columns rows map bytes (omega arith) ((exactly strict).0 e));
      }
