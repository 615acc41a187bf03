-- A packet is accepted exactly when its size is legal, its map has a nibble for each block, its parts are there, every block is taken, and all bytes are used up but for those
-- that may be left over: `accepted_exactly`, for both widths.
-- Assumes nothing.
use mathlib.Core.Path.{◌≡◌, refl, sym, ◌∙◌, subst}
use mathlib.Core.Bool.{Bool, true, false}
use mathlib.Core.List.{List}
use mathlib.Core.Logic.{⊎_elim, ◌≢◌}
use Prim.Native.Nat.{ℕ, zero, suc, ◌+◌, ◌-◌, ◌≤◌, ◌<◌, zero-le}
use native.Mathlib.Omega.{arith}
use native.Mathlib.Nat.{eq-or-lt_of_le}
use borrow.Author.Tests.{le-ltb, le-leb, eq-eqb, ltb-false, leb-true, eqb-true}
use lib.ListN.{length, length-drop}
use Rattle.words.proofs.Tests.{not_first, first}
use Rattle.refusal.specs.Number.{Verdict, accept, refuse}
use Rattle.motion.proofs.Vectors.{inside_each, inside_all}
use Rattle.block.specs.Block.{Kind, same, kept, copied, patterned, celled, dithered, refused, kind_of, data_length, offset_length, is_refused, copy_inside}
use Rattle.packet.specs.Packet.{Packet, packet_in, blocks, width, height, left, top, code, advanced, start_of, start, data_of, offsets_of, kind}
use Rattle.packet.specs.Verdict.{and_then, block_verdict, spare_first, end_verdict, verdict_from, blocks_verdict, map_fits, parts_fit, verdict_in}
use Rattle.packet.specs.Accepted.{CopyInside, Takes, Whole, PartsFit, Used, AcceptsIn}
use Rattle.block.proofs.Codes.{code_known, code_refused}
use Rattle.packet.proofs.Walk.{code_below}
use Rattle.packet.proofs.Sizes.{size_is, is_size}

refuses : (n k : ℕ) → refuse n k ≡ accept → ⊥
refuses n k e = let z : ◌≡◌ {A = ℕ} 0 1 = cc in omega arith

false_true : false ≡ true → ⊥
false_true e = let z : ◌≡◌ {A = ℕ} 0 1 = cc in omega arith

-- ---- a copy

pub copy_is : (κ : Kind) (w h x y : ℕ) → copy_inside κ w h x y ≡ true → CopyInside κ w h x y
unfolding copy_inside CopyInside
copy_is (same p) w h x y e = tt
copy_is kept w h x y e = tt
copy_is (copied p v n m) w h x y e = inside_each v w h x y e
copy_is (patterned f) w h x y e = tt
copy_is (celled c) w h x y e = tt
copy_is dithered w h x y e = tt
copy_is refused w h x y e = tt

pub is_copy : (κ : Kind) (w h x y : ℕ) → CopyInside κ w h x y → copy_inside κ w h x y ≡ true
unfolding copy_inside CopyInside
is_copy (same p) w h x y e = refl
is_copy kept w h x y e = refl
is_copy (copied p v n m) w h x y e = sym (inside_all v w h x y e)
is_copy (patterned f) w h x y e = refl
is_copy (celled c) w h x y e = refl
is_copy dithered w h x y e = refl
is_copy refused w h x y e = refl

-- ---- a block

-- the positions of a block's data lie in both parts
pub record Within (p : Packet) (k : ℕ) : Type 0 where
  pub first : (start p k).bytes ≤ length p.bytes
  pub second : (start p k).offsets ≤ length p.offsets

-- a code is refused where it is 6 and the film has no true colour
not_6 : (deep : Bool) (s o : List ℕ) (c : ℕ) → is_refused (kind_of deep c s o) ≡ false → deep ≡ false → c ≢ 6
not_6 false s o c e d q = false_true (sym e ∙ code_refused s o c q)
not_6 true s o c e d q = false_true (sym d)

module _ (p : Packet) (k : ℕ) (within : Within p k) where
  left_there : length (data_of p k) ≡ length p.bytes - (start p k).bytes
  left_there = length-drop (start p k).bytes p.bytes

  left_beside : length (offsets_of p k) ≡ length p.offsets - (start p k).offsets
  left_beside = length-drop (start p k).offsets p.offsets

  pub takes : block_verdict p k ≡ accept → Takes p k
  unfolding block_verdict
  takes e =
      let a = not_first _ _ _ _ (refuses 12 k) e in
      let b = not_first _ _ _ _ (refuses 13 k) a.1 in
      let c = not_first _ _ _ _ (refuses 13 k) b.1 in
      let d = first _ _ _ _ (refuses 14 k) c.1 in
      let l : data_length p.deep (kind p k) ≤ length (data_of p k) = ltb-false _ _ b.0 in
      let m : offset_length (kind p k) ≤ length (offsets_of p k) = ltb-false _ _ c.0 in
      record {
        known = not_6 p.deep (data_of p k) (offsets_of p k) (code p k) a.0;
        there = omega (arith, l, left_there, within.first);
        beside = omega (arith, m, left_beside, within.second);
        inside = copy_is (kind p k) (width p) (height p) (left p k) (top p k) d.0;
      }

  pub taken : Takes p k → block_verdict p k ≡ accept
  unfolding block_verdict
  taken t =
      let l : data_length p.deep (kind p k) ≤ length (data_of p k) = omega (arith, t.there, left_there) in
      let m : offset_length (kind p k) ≤ length (offsets_of p k) = omega (arith, t.beside, left_beside) in
      rw (
        code_known (data_of p k) (offsets_of p k) p.deep (code p k) (code_below p.map k) t.known,
        le-ltb _ _ l,
        le-ltb _ _ m,
        is_copy (kind p k) (width p) (height p) (left p k) (top p k) t.inside,
      )

next_within : (p : Packet) (k : ℕ) → Takes p k → Within p (suc k)
unfolding start_of advanced
next_within p k t = record { first = t.there; second = t.beside }

-- ---- the blocks in order

both : (v u : Verdict) → and_then v u ≡ accept → (v ≡ accept) × (u ≡ accept)
unfolding and_then
both accept u e = (refl, e)
both (refuse n k) u e = absurd (refuses n k e)

-- n blocks from block k on, and no more left over than may be
From : ℕ → Packet → ℕ → ℕ → Type 0
From spare p n k = ((j : ℕ) → k ≤ j → j < k + n → Takes p j) × Used spare p (k + n)

from_verdict : (spare : ℕ) (p : Packet) (n k : ℕ) → Within p k → verdict_from spare p n k ≡ accept → From spare p n k
unfolding verdict_from end_verdict From
from_verdict spare p zero k h e =
    let z : k + 0 ≡ k = omega arith in
    let a = first _ _ _ _ (refuses 15 0) e in
    let b = first _ _ _ _ (refuses 15 0) a.1 in
    let u : Used spare p k = record { first = leb-true _ _ a.0; second = leb-true _ _ b.0 } in
    (λ j a b. absurd (let y : ⊥ = omega arith in y), subst (Used spare p) (sym z) u)
from_verdict spare p (suc n) k h e =
    let s = both _ _ e in
    let t = takes p k h s.0 in
    let r = from_verdict spare p n (suc k) (next_within p k t) s.1 in
    let z : suc k + n ≡ k + suc n = omega arith in (
      λ j a b.
          ⊎_elim (λ (q : k ≡ j). subst (Takes p) q t) (λ (q : k < j). r.0 j q (omega arith)) (eq-or-lt_of_le a),
      subst (Used spare p) z r.1,
    )

verdict_from_lem : (spare : ℕ) (p : Packet) (n k : ℕ) → Within p k → From spare p n k → verdict_from spare p n k ≡ accept
unfolding verdict_from end_verdict From and_then
verdict_from_lem spare p zero k h f =
    let z : k + 0 ≡ k = omega arith in
    let q : Used spare p k = subst (Used spare p) z f.1 in
    rw (le-leb _ _ q.first, le-leb _ _ q.second)
verdict_from_lem spare p (suc n) k h f =
    let t = f.0 k (omega arith) (omega arith) in
    let z : k + suc n ≡ suc k + n = omega arith in
    let g : From spare p n (suc k) = (λ j a b. f.0 j (omega arith) (omega arith), subst (Used spare p) z f.1) in
    rw (taken p k h t) (verdict_from_lem spare p n (suc k) (next_within p k t) g)

start_within : (p : Packet) → Within p 0
unfolding start_of
start_within p = record { first = zero-le; second = zero-le }

module _ (spare : ℕ) (p : Packet) where
  pub whole_is : blocks_verdict spare p ≡ accept → Whole p × Used spare p (blocks p)
  unfolding blocks_verdict From
  whole_is e =
      let f = from_verdict spare p (blocks p) 0 (start_within p) e in
      let z : 0 + blocks p ≡ blocks p = omega arith in
      (λ k h. f.0 k zero-le (omega arith), subst (Used spare p) z f.1)

  pub is_whole : Whole p → Used spare p (blocks p) → blocks_verdict spare p ≡ accept
  unfolding blocks_verdict From
  is_whole w u =
      let z : blocks p ≡ 0 + blocks p = omega arith in
      verdict_from_lem spare p (blocks p) 0 (start_within p) (λ j a b. w j (omega arith), subst (Used spare p) z u)

-- ---- the parts

pub parts_are : (deep : Bool) (bytes : List ℕ) → parts_fit deep bytes ≡ true → PartsFit deep bytes
parts_are false bytes e = tt
parts_are true bytes e =
    let a = not_first _ _ _ _ false_true e in
    let b = not_first _ _ _ _ false_true a.1 in
    record { word = ltb-false _ _ a.0; behind = ltb-false _ _ b.0; inside = leb-true _ _ b.1 }

pub are_parts : (deep : Bool) (bytes : List ℕ) → PartsFit deep bytes → parts_fit deep bytes ≡ true
are_parts false bytes f = refl
are_parts true bytes f = rw (le-ltb _ _ f.word, le-ltb _ _ f.behind, le-leb _ _ f.inside)

-- ---- the whole check

pub accepted_exactly : (deep : Bool) (spare columns rows : ℕ) (map bytes : List ℕ)
    → (verdict_in deep spare columns rows map bytes ≡ accept → AcceptsIn deep spare columns rows map bytes)
    × (AcceptsIn deep spare columns rows map bytes → verdict_in deep spare columns rows map bytes ≡ accept)
unfolding verdict_in map_fits
accepted_exactly deep spare columns rows map bytes = (
  λ e.
      let a = first _ _ _ _ (refuses 6 0) e in
      let b = first _ _ _ _ (refuses 10 0) a.1 in
      let c = first _ _ _ _ (refuses 20 0) b.1 in
      let l = size_is columns rows a.0 in
      let w = whole_is spare (packet_in deep columns rows map bytes) c.1 in
      record {
        wide = l.0;
        high = l.1;
        mapped = eqb-true _ _ b.0;
        parts = parts_are deep bytes c.0;
        drawn = w.0;
        used = w.1;
      },
  λ a.
      rw (
        is_size columns rows a.wide a.high,
        eq-eqb _ _ a.mapped,
        are_parts deep bytes a.parts,
        is_whole spare (packet_in deep columns rows map bytes) a.drawn a.used,
      ),
)

-- what is accepted is accepted where more may be left over
more_first : (deep : Bool) (spare spare' : ℕ) → spare ≤ spare' → spare_first deep spare ≤ spare_first deep spare'
more_first false spare spare' h = h
more_first true spare spare' h = zero-le

pub accepts_more : (deep : Bool) (spare spare' columns rows : ℕ) (map bytes : List ℕ) → spare ≤ spare' → AcceptsIn deep spare columns rows map bytes → AcceptsIn deep spare' columns rows map bytes
accepts_more deep spare spare' columns rows map bytes h a =
    record {
      wide = a.wide;
      high = a.high;
      mapped = a.mapped;
      parts = a.parts;
      drawn = a.drawn;
      used = record { first = omega (arith, a.used.first, more_first deep spare spare' h); second = omega (arith, a.used.second, h) };
    }
