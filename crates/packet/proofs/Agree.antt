-- Bytes behind the last block's data are not read: of two packets with one size and one map that agree in the bytes that the blocks use, each block
-- has its data at one position, is of one kind, and gives each of its pixels one value; where the blocks of the one are taken, so are the other's.
-- Assumes nothing.
use mathlib.Core.Path.{◌≡◌, refl, sym, ap, ◌∙◌}
use mathlib.Core.List.{List}
use mathlib.Core.Logic.{⊎_elim}
use Prim.Native.Nat.{ℕ, zero, suc, ◌+◌, ◌≤◌, ◌<◌}
use native.Mathlib.Omega.{arith}
use native.Mathlib.Nat.{eq-or-lt_of_le}
use lib.ListN.{length, get_or}
use lib.Seq.{get_or-drop}
use Rattle.pattern.proofs.Agree.{Agree}
use Rattle.block.specs.Block.{Kind, data_length, offset_length, source, fetched}
use Rattle.block.proofs.Codes.{code_known}
use Rattle.block.proofs.Agree.{same_kind, same_fetched}
use Rattle.packet.specs.Packet.{Packet, parted, blocks, code, Position, advanced, start_of, start, data_of, offsets_of, kind}
use Rattle.packet.specs.Accepted.{Takes}
use Rattle.packet.proofs.Walk.{code_below}

-- the same size and map with other bytes of either part
abbrev pub with_bytes : Packet → List ℕ → List ℕ → Packet
with_bytes p bytes offsets = parted p.deep p.columns p.rows p.map bytes offsets

-- the data of a later block stands no earlier, in either part
pub start_rises : (p : Packet) (j k : ℕ) → j ≤ k → ((start p j).bytes ≤ (start p k).bytes) × ((start p j).offsets ≤ (start p k).offsets)
unfolding start_of advanced
start_rises p j zero l = let e : j ≡ 0 = omega arith in rw e (omega arith, omega arith)
start_rises p j (suc k) l =
    ⊎_elim
    (λ (e : j ≡ suc k). rw e (omega arith, omega arith))
    (λ (q : j < suc k). let r = start_rises p j k (omega arith) in (omega (arith, r.0), omega (arith, r.1)))
    (eq-or-lt_of_le l)

module _ (p : Packet) (bytes offsets : List ℕ) (same : Agree (start p (blocks p)).bytes p.bytes bytes) (beside : Agree (start p (blocks p)).offsets p.offsets offsets) where
  -- ---- block k, given that its data stands at one position in both

  data_at : (k : ℕ) → k < blocks p → start p k ≡ start (with_bytes p bytes offsets) k
      → Agree (data_length p.deep (kind p k)) (data_of p k) (data_of (with_bytes p bytes offsets) k)
  unfolding start_of advanced
  data_at k l e j h =
      get_or-drop (start p k).bytes p.bytes j 0
      ∙ same ((start p k).bytes + j) (omega (arith, (start_rises p (suc k) (blocks p) l).0))
      ∙ ap (λ (n : Position). get_or bytes (n.bytes + j) 0) e
      ∙ sym (get_or-drop (start (with_bytes p bytes offsets) k).bytes bytes j 0)

  offsets_at : (k : ℕ) → k < blocks p → start p k ≡ start (with_bytes p bytes offsets) k
      → Agree (offset_length (kind p k)) (offsets_of p k) (offsets_of (with_bytes p bytes offsets) k)
  unfolding start_of advanced
  offsets_at k l e j h =
      get_or-drop (start p k).offsets p.offsets j 0
      ∙ beside ((start p k).offsets + j) (omega (arith, (start_rises p (suc k) (blocks p) l).1))
      ∙ ap (λ (n : Position). get_or offsets (n.offsets + j) 0) e
      ∙ sym (get_or-drop (start (with_bytes p bytes offsets) k).offsets offsets j 0)

  kind_at : (k : ℕ) → k < blocks p → start p k ≡ start (with_bytes p bytes offsets) k → kind p k ≡ kind (with_bytes p bytes offsets) k
  kind_at k l e =
      same_kind (data_of p k) (data_of (with_bytes p bytes offsets) k) (offsets_of p k) (offsets_of (with_bytes p bytes offsets) k) p.deep (code p k) (code_below p.map k)
      (data_at k l e) (offsets_at k l e)

  -- ---- it does, for every block

  pub start_same : (k : ℕ) → k ≤ blocks p → start p k ≡ start (with_bytes p bytes offsets) k
  unfolding start_of
  start_same zero l = refl
  start_same (suc k) l =
      let e = start_same k (omega arith) in
      ap (λ (κ : Kind). advanced p.deep κ (start p k)) (kind_at k l e) ∙ ap (advanced p.deep (kind (with_bytes p bytes offsets) k)) e

  pub data_same : (k : ℕ) → k < blocks p → Agree (data_length p.deep (kind p k)) (data_of p k) (data_of (with_bytes p bytes offsets) k)
  data_same k l = data_at k l (start_same k (omega arith))

  pub kind_same : (k : ℕ) → k < blocks p → kind p k ≡ kind (with_bytes p bytes offsets) k
  kind_same k l = kind_at k l (start_same k (omega arith))

  -- ---- a block that is taken

  pub takes_same : length p.bytes ≡ length bytes → length p.offsets ≡ length offsets → (k : ℕ) → k < blocks p → Takes p k → Takes (with_bytes p bytes offsets) k
  takes_same n m k l t =
      record {
        known = t.known;
        there = rw (← kind_same k l, ← start_same k (omega arith), ← n) t.there;
        beside = rw (← kind_same k l, ← start_same k (omega arith), ← m) t.beside;
        inside = rw (← kind_same k l) t.inside;
      }

  pub fetched_same : (k : ℕ) → k < blocks p → Takes p k → (w x y i : ℕ) → i < 64 → (last new oldest : List ℕ)
      → fetched p.deep (source p.deep (kind p k) (data_of p k) w x y i) (data_of p k) last new oldest
      ≡ fetched p.deep (source p.deep (kind (with_bytes p bytes offsets) k) (data_of (with_bytes p bytes offsets) k) w x y i) (data_of (with_bytes p bytes offsets) k) last new oldest
  fetched_same k l t w x y i h last new oldest =
      let s = data_of p k in
      let s' = data_of (with_bytes p bytes offsets) k in
      same_fetched p.deep s s' w x y i h last new oldest (kind p k) (code_known s (offsets_of p k) p.deep (code p k) (code_below p.map k) t.known) (data_same k l)
      ∙ ap (λ (κ : Kind). fetched p.deep (source p.deep κ s' w x y i) s' last new oldest) (kind_same k l)
