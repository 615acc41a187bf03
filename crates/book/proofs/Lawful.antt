-- The drawing of an accepted packet has at most 312,000 stores, and is lawful, for both widths: no two pixels have one target, each target is inside the picture, and no block
-- reads a pixel of its own, the older pictures being fixed.
-- Assumes nothing.
use mathlib.Core.Path.{◌≡◌, refl, sym, ap, ◌∙◌, subst}
use mathlib.Core.Logic.{⊎_elim, ◌≢◌}
use mathlib.Core.Bool.{Bool, true, false, cond}
use Prim.Native.Nat.{ℕ, ◌+◌, ◌-◌, ◌*◌, ◌/◌, ◌%◌, ◌≤◌, ◌<◌}
use native.Mathlib.Omega.{arith}
use native.Mathlib.Nat.{mul-le-mul_right}
use lib.ListN.{length}
use Rattle.motion.specs.declared.Vector.{Vector}
use Rattle.motion.specs.Motion.{PointsInside, raster_index, copied_index}
use Rattle.block.specs.declared.Picture.{Picture}
use Rattle.block.specs.declared.Picture.TheVariants.{Last, New, Oldest}
use Rattle.block.specs.declared.Source.{Source}
use Rattle.block.specs.declared.Source.TheVariants.{Data, Copied}
use Rattle.block.specs.Block.{Kind, kept, source, stored, fetched}
use Rattle.paint.proofs.Painting.{square_below}
use Rattle.paint.specs.Value.{pixel_count, Older, pixel_value}
use Rattle.paint.proofs.Counts.{count_few}
use Rattle.packet.specs.Packet.{Packet, blocks, width, height, left, top, data_of, kind, block_of}
use Rattle.packet.specs.Asked.{Sized}
use Rattle.packet.specs.Accepted.{Whole}
use Rattle.packet.proofs.Grid.{column_below, row_below, raster_row, raster_column, own_block}
use Rattle.packet.proofs.Apart.{DrawnOn, reads_no_own}
use Rattle.packet.proofs.Walk.{blocks_few}
use Rattle.stores.specs.Stores.{due, Off, Own, Lawful}
use Rattle.stores.proofs.Steps.{due_few}
use Rattle.draw.specs.Drawing.{size_at, target_at, value_at, plan_over}

-- the 8x8 at x, y stands in a picture w by h, which is no larger than any
pub record Framed (w h x y : ℕ) : Type 0 where
  pub width : w ≤ 640
  pub height : h ≤ 480
  pub across : x + 8 ≤ w
  pub down : y + 8 ≤ h

-- so each of its pixels is one of the picture's
pub raster_below : (w h x y i : ℕ) → Framed w h x y → i < 64 → raster_index w x y i < h * w
raster_below w h x y i f hi =
    square_below w x y (h * w) i
    (record { width = f.width; across = f.across; down = omega (arith, f.down, f.height); room = mul-le-mul_right w f.down })
    hi (raster_index w x y i) refl

-- and each pixel that a copy inside the picture is read from
pub copied_below : (w h x y i : ℕ) → Framed w h x y → i < 64 → (v : Vector) → PointsInside v w h x y → copied_index v w x y i < h * w
unfolding copied_index
copied_below w h x y i f hi v c =
    raster_below w h (x + v.right - v.left) (y + v.down - v.up) i
    (record { width = f.width; height = f.height; across = omega (arith, c.left, c.right); down = omega (arith, c.up, c.down) })
    hi

module _ (p : Packet) (z : Sized p) where
  some : 0 < p.columns
  some = omega (arith, z.some_columns)

  pub few : (k i : ℕ) → i < size_at p k → i < 64
  unfolding size_at
  few k i h = omega (arith, count_few (kind p k))

  -- at most 312,000 stores a picture: 65 a block, 4800 blocks
  pub stores_few : (older : Older) (k : ℕ) → k ≤ blocks p → length (due (plan_over p older) k) ≤ 312000
  unfolding size_at
  stores_few older k h =
      let e : k + (blocks p - k) ≡ blocks p = omega arith in
      omega (arith, due_few (plan_over p older) 64 (λ j l. count_few (kind p j)) (blocks p - k) k e, blocks_few p z)

  -- pixel i of block k stands in block k
  pub target_block : (k i : ℕ) → i < 64 → block_of p.columns (target_at p k i) ≡ k
  unfolding target_at
  target_block k i h = own_block p.columns some k i h

  -- two pixels of a block at one index are one
  same_pixel : (k i i' : ℕ) → i < 64 → i' < 64 → target_at p k i ≡ target_at p k i' → i ≡ i'
  unfolding target_at
  same_pixel k i i' h h' e =
      let in-x : left p k + 8 ≤ width p = omega (arith, column_below p.columns k some) in
      let r = ap (λ (n : ℕ). n / width p) e in
      let c = ap (λ (n : ℕ). n % width p) e in
      let y : top p k + i / 8 ≡ top p k + i' / 8 =
      sym (raster_row (width p) (left p k) (top p k) i in-x) ∙ r ∙ raster_row (width p) (left p k) (top p k) i' in-x in
      let x : left p k + i % 8 ≡ left p k + i' % 8 =
      sym (raster_column (width p) (left p k) (top p k) i in-x) ∙ c ∙ raster_column (width p) (left p k) (top p k) i' in-x in
      omega arith

  pub distinct : (k k' i i' : ℕ) → i < 64 → i' < 64 → target_at p k i ≡ target_at p k' i' → (k ≡ k') × (i ≡ i')
  distinct k k' i i' h h' e =
      let q : k ≡ k' = sym (target_block k i h) ∙ ap (block_of p.columns) e ∙ target_block k' i' h' in
      (q, same_pixel k i i' h h' (e ∙ ap (λ (n : ℕ). target_at p n i') (sym q)))

  -- the corner of a block, and the picture, in pixels
  pub framed : (k : ℕ) → k < blocks p → Framed (width p) (height p) (left p k) (top p k)
  framed k h =
      record {
        width = omega (arith, z.columns);
        height = omega (arith, z.rows);
        across = omega (arith, column_below p.columns k some);
        down = omega (arith, row_below p.columns p.rows k some h);
      }

  pub inside : (k i : ℕ) → k < blocks p → i < 64 → target_at p k i < height p * width p
  unfolding target_at
  inside k i h hi = raster_below (width p) (height p) (left p k) (top p k) i (framed k h) hi

  module _ (w : Whole p) (older : Older) (n : ℕ) where
    -- a source in the picture that is drawn on is no pixel of the block, in a block that is drawn
    off : (k i : ℕ) (q : Picture) (j : ℕ) → k < blocks p → i < size_at p k → DrawnOn p.deep q
        → source p.deep (kind p k) (data_of p k) (width p) (left p k) (top p k) i ≡ Copied q j → Off (plan_over p older) k j
    unfolding size_at pixel_count
    off k i q j h hi d e m hm f =
        ⊎_elim
        (λ (x : kind p k ≡ kept). none_kept x)
        (λ (x : block_of p.columns j ≢ k). x (ap (block_of p.columns) f ∙ target_block k m (few k m hm)))
        (reads_no_own p some k i (few k i hi) (w k h).inside q j d e)
      where
        none_kept : kind p k ≡ kept → ⊥
        none_kept x = let l : i < 0 = subst (λ (κ : Kind). i < pixel_count κ) x hi in omega arith

    own : (k : ℕ) → k < blocks p → Own (plan_over p older) n k
    unfolding value_at pixel_value fetched
    own k h i hi a b la lb agree = by p.deep refl (source p.deep (kind p k) (data_of p k) (width p) (left p k) (top p k) i) refl
      where
        by : (deep : Bool) → p.deep ≡ deep → (u : Source) → source p.deep (kind p k) (data_of p k) (width p) (left p k) (top p k) i ≡ u
            → fetched deep u (data_of p k) older.last a (cond deep older.oldest a) ≡ fetched deep u (data_of p k) older.last b (cond deep older.oldest b)
        by deep g (Data j) e = refl
        by deep g (Copied Last j) e = refl
        by deep g (Copied New j) e = ap (stored deep) (agree j (off k i New j h hi tt e))
        by false g (Copied Oldest j) e = agree j (off k i Oldest j h hi (subst (λ (d : Bool). DrawnOn d Oldest) (sym g) tt) e)
        by true g (Copied Oldest j) e = refl

    pub plan_lawful : height p * width p ≤ n → Lawful (plan_over p older) n
    plan_lawful long =
        record {
          distinct = λ k k' i i' h h' hi hi' e. distinct k k' i i' (few k i hi) (few k' i' hi') e;
          inside = λ k i h hi. omega (arith, inside k i h (few k i hi));
          own = own;
        }
