-- The loop over blocks: after j stores memory is as the first j of those due leave it (`Made`), between blocks. A law for its start, each turn and its ends.
-- Assumes nothing.
use mathlib.Core.Path.{◌≡◌, refl, sym, ap, ◌∙◌}
use mathlib.Core.List.{List}
use Prim.Native.Nat.{ℕ, ◌+◌, ◌-◌, ◌≤◌, ◌<◌}
use native.Mathlib.Omega.{arith}
use lib.ListN.{length, drop, length-drop}
use Rattle.block.specs.Block.{kind_of, data_length, offset_length}
use Rattle.paint.specs.Value.{pixel_count, Older, block_plan}
use Rattle.paint.specs.Asked.{Canvas, Drawable}
use Rattle.packet.specs.Packet.{Packet, Position, position, blocks, width, height, left, top, code, start, data_of, offsets_of, kind}
use Rattle.packet.specs.Accepted.{Takes}
use Rattle.packet.proofs.Grid.{next_column, next_row, column_below, row_below}
use Rattle.packet.proofs.Walk.{code_below, position_next}
use Rattle.packet.proofs.Exactly.{is_copy}
use Rattle.stores.specs.Stores.{memory, first_pixels}
use Rattle.stores.specs.Loop.{Made, Called}
use Rattle.stores.proofs.Pixels.{first_agree}
use Rattle.stores.proofs.Loop.{made_none, made_length, made_over, made_part, made_block}
use Rattle.draw.specs.Drawing.{size_at, target_at, value_at, plan_over}
use Rattle.draw.specs.Asked.{Accepted}

-- ---- the loop

-- b₀, k₀: the picture and the place that the call found. b, place: as they are now. k: the next block, its data at at and aside, its corner x, y. l: the stores still allowed
pub record Going (p : Packet) (older : Older) (b₀ : List ℕ) (k₀ allowed : ℕ) (b : List ℕ) (place k at aside l x y : ℕ) : Type 0 where
  pub made : Made (plan_over p older) (memory b₀ k₀) (allowed - l) k 0 b
  pub stands : place ≡ k
  pub found : position at aside ≡ start p k
  pub below : k ≤ blocks p
  pub room : l ≤ allowed
  pub across : x ≡ left p k
  pub down : y ≡ top p k

pub going_start : (p : Packet) (older : Older) (b : List ℕ) (k at aside n f l : ℕ) → Accepted p f l k → position at aside ≡ start p k → Going p older b k n b k k at aside n (left p k) (top p k)
going_start p older b k at aside n f l a e =
    record {
      made = made_none (plan_over p older) (memory b k) (n - n) (omega arith);
      stands = refl;
      found = e;
      below = a.at;
      room = omega arith;
      across = refl;
      down = refl;
    }

module _ (p : Packet) (older : Older) (b₀ : List ℕ) (k₀ n : ℕ) (b : List ℕ) (place k at aside l x y : ℕ) (g : Going p older b₀ k₀ n b place k at aside l x y) where
  pub going_end : blocks p ≤ k → Called (plan_over p older) (memory b₀ k₀) n b place (n - l)
  going_end h = made_over (plan_over p older) (memory b₀ k₀) (n - l) k 0 b g.made n place (n - l) h (omega arith) g.stands refl

  pub going_length : length b ≡ length b₀
  going_length = made_length (plan_over p older) (memory b₀ k₀) (n - l) k 0 b g.made

  -- block k, its code and its data as code found them
  module _ (a : Accepted p (length older.last) (length b₀) k₀) (h : k < blocks p) (c : ℕ) (s o : List ℕ) (ec : c ≡ code p k) (es : s ≡ drop at p.bytes) (eo : o ≡ drop aside p.offsets) where
    data_is : s ≡ data_of p k
    data_is = es ∙ ap (λ (i : Position). drop i.bytes p.bytes) g.found

    offsets_are : o ≡ offsets_of p k
    offsets_are = eo ∙ ap (λ (i : Position). drop i.offsets p.offsets) g.found

    kind_is : kind_of p.deep c s o ≡ kind p k
    kind_is = rw (ec, data_is, offsets_are)

    takes : Takes p k
    takes = a.taken k h

    some : 0 < p.columns
    some = omega (arith, a.sized.some_columns)

    pub canvas : Canvas (width p) (height p) x y (length older.last) (length b)
    canvas =
        record {
          width = omega (arith, a.sized.columns);
          height = omega (arith, a.sized.rows);
          across = omega (arith, g.across, column_below p.columns k some);
          down = omega (arith, g.down, row_below p.columns p.rows k some h);
          front_room = a.front_room;
          back_room = rw going_length a.back_room;
        }

    there : data_length p.deep (kind_of p.deep c s o) ≤ length s
    there = rw (kind_is, data_is) (omega (arith, length_of, takes.there))
      where
        length_of : length (data_of p k) ≡ length p.bytes - (start p k).bytes
        length_of = length-drop (start p k).bytes p.bytes

    pub drawable : (m : ℕ) → m ≤ pixel_count (kind_of p.deep c s o) → Drawable p.deep c s o (width p) (height p) x y m
    drawable m q =
        record {
          known = rw ec (code_below p.map k);
          taken = λ d e. takes.known d (sym ec ∙ e);
          there = there;
          inside = rw (kind_is, g.across, g.down) (is_copy (kind p k) (width p) (height p) (left p k) (top p k) takes.inside);
          count = q;
        }

    -- the corner of the next block, in this row or the next
    pub right : (x + 8 ≡ width p → ⊥) → (x + 8 ≡ left p (k + 1)) × (y ≡ top p (k + 1))
    right r =
        let m = next_column p.columns k (omega (arith, g.across, column_below p.columns k some, r)) in
        (omega (arith, m.0, g.across), omega (arith, m.1, g.down))

    pub below : x + 8 ≡ width p → (0 ≡ left p (k + 1)) × (y + 8 ≡ top p (k + 1))
    below r =
        let m = next_row p.columns k some (omega (arith, g.across, r)) in
        (omega (arith, m.0), omega (arith, m.1, g.down))

    -- the block's own plan is the packet's at block k
    painted : (m : ℕ) (b' : List ℕ) → b' ≡ first_pixels (block_plan p.deep (kind_of p.deep c s o) s (width p) x y older) 0 b m → b' ≡ first_pixels (plan_over p older) k b m
    unfolding target_at value_at
    painted m b' e =
        (rw (kind_is, data_is, g.across, g.down) at e)
        ∙ first_agree (block_plan p.deep (kind p k) (data_of p k) (width p) (left p k) (top p k) older) (plan_over p older) 0 k b m (λ i q. refl) (λ i q c e. refl)

    size_is : size_at p k ≡ pixel_count (kind_of p.deep c s o)
    unfolding size_at
    size_is = rw kind_is

    -- stopped within the block, or before its place
    pub going_stop : (u : ℕ) (b' : List ℕ) → u ≡ pixel_count (kind_of p.deep c s o) → l ≤ u
        → b' ≡ first_pixels (block_plan p.deep (kind_of p.deep c s o) s (width p) x y older) 0 b l → Called (plan_over p older) (memory b₀ k₀) n b' place n
    going_stop u b' eu q e =
        made_part (plan_over p older) (memory b₀ k₀) (n - l) k b g.made h l b' (omega (arith, size_is, eu)) (painted l b' e) n place n
        (omega (arith, g.room)) g.stands (omega (arith, g.room))

    -- the whole block, and then its place
    pub going_block : (u z m : ℕ) (b' : List ℕ) (place' : ℕ) → u ≡ pixel_count (kind_of p.deep c s o) → z ≡ data_length p.deep (kind_of p.deep c s o) → m ≡ offset_length (kind_of p.deep c s o) → u < l
        → b' ≡ first_pixels (block_plan p.deep (kind_of p.deep c s o) s (width p) x y older) 0 b (pixel_count (kind_of p.deep c s o)) → place' ≡ k + 1
        → (x' y' : ℕ) → (x' ≡ left p (k + 1)) × (y' ≡ top p (k + 1)) → Going p older b₀ k₀ n b' place' (k + 1) (at + z) (aside + m) (l - (u + 1)) x' y'
    going_block u z m b' place' eu ez em q e ep x' y' corner =
        let su : u ≡ size_at p k = omega (arith, size_is, eu) in
        record {
          made = made_block (plan_over p older) (memory b₀ k₀) (n - l) k b g.made h u b' su (painted u b' (rw eu e)) (n - (l - (u + 1))) (k + 1) (omega (arith, g.room)) refl;
          stands = ep;
          found = position_next p.deep p.map p.bytes p.offsets s o k at aside c z m g.found ec es eo ez em;
          below = omega arith;
          room = omega (arith, g.room);
          across = corner.0;
          down = corner.1;
        }
