-- The pixel at x, y of a picture: where its block and it stand, what the rules ask to read it, and that its source is there.
-- Assumes nothing.
use mathlib.Core.Path.{◌≡◌, sym, ap, ◌∙◌}
use mathlib.Core.Bool.{Bool, true, false}
use mathlib.Core.List.{List}
use Prim.Native.Nat.{ℕ, ◌+◌, ◌-◌, ◌*◌, ◌/◌, ◌%◌, ◌≤◌, ◌<◌}
use native.Mathlib.Omega.{arith}
use lib.ListN.{length, drop, length-drop}
use Rattle.motion.specs.Motion.{raster_index}
use Rattle.block.specs.declared.Source.{Source}
use Rattle.block.specs.declared.Source.TheVariants.{Data}
use Rattle.block.specs.Block.{kind_of, data_length, source}
use Rattle.block.proofs.Agree.{no_second}
use Rattle.pattern.specs.Form.{bytes}
use Rattle.block.specs.Asked.{Readable, Among}
use Rattle.pixel.proofs.Sources.{source_among}
use Rattle.packet.specs.Packet.{Packet, blocks, width, height, left, top, code, start, data_of, offsets_of, kind}
use Rattle.packet.specs.Accepted.{Takes}
use Rattle.packet.proofs.Walk.{code_below}
use Rattle.packet.proofs.Exactly.{is_copy}
use Rattle.book.specs.Picture.{source_at}
use Rattle.book.proofs.Picture as grid
use Rattle.origin.specs.Trace.{block_at, pixel_at}
use Rattle.origin.specs.Asked.{Traceable}

-- ---- where it stands

pub pixel_few : (x y : ℕ) → pixel_at x y < 64
unfolding pixel_at
pixel_few x y = omega arith

module _ (columns rows x y : ℕ) (across : x < 8 * columns) (down : y < 8 * rows) where
  pub column_is : block_at columns x y % columns ≡ x / 8
  unfolding block_at
  column_is = grid.column_is columns rows x y across down

  pub row_is : block_at columns x y / columns ≡ y / 8
  unfolding block_at
  row_is = grid.row_is columns rows x y across down

  pub block_below : block_at columns x y < columns * rows
  unfolding block_at
  block_below = grid.block_below columns rows x y across down

  -- its index, counted from its block's corner
  pub index_is : raster_index (8 * columns) (8 * (block_at columns x y % columns)) (8 * (block_at columns x y / columns)) (pixel_at x y) ≡ y * (8 * columns) + x
  unfolding block_at pixel_at
  index_is = grid.index_is columns rows x y across down

-- ---- what is asked to read it

second_unread : (deep : Bool) → deep ≡ false → (c : ℕ) (s o o' : List ℕ) → kind_of deep c s o ≡ kind_of deep c s o'
second_unread false d c s o o' = no_second c s o o'
second_unread true d c s o o' = absurd (let z : ◌≡◌ {A = ℕ} 0 1 = cc in let y : ⊥ = omega arith in y)

-- a colour that is there begins with a byte that is
pub byte_below : (deep : Bool) (j long : ℕ) → j + bytes deep ≤ long → j < long
byte_below false j long l = omega arith
byte_below true j long l = omega arith

module _ (p : Packet) (x y : ℕ) (t : Traceable p x y) where
  pub inside : block_at p.columns x y < blocks p
  inside = block_below p.columns p.rows x y t.across t.down

  takes : Takes p (block_at p.columns x y)
  takes = t.taken (block_at p.columns x y) inside

  -- the code, the position and the data of its block, as code found them; what stands for the second part is not read
  module _ (c at : ℕ) (s o : List ℕ) (ec : c ≡ code p (block_at p.columns x y)) (ea : at ≡ (start p (block_at p.columns x y)).bytes) (es : s ≡ drop at p.bytes) where
    data_is : s ≡ data_of p (block_at p.columns x y)
    data_is = es ∙ ap (λ (n : ℕ). drop n p.bytes) ea

    kind_is : kind_of p.deep c s o ≡ kind p (block_at p.columns x y)
    kind_is = second_unread p.deep t.flat c s o (offsets_of p (block_at p.columns x y)) ∙ rw (ec, data_is)

    long_is : length s ≡ length p.bytes - at
    long_is = ap length es ∙ length-drop at p.bytes

    pub readable : Readable p.deep c s o (width p) (height p) (8 * (x / 8)) (8 * (y / 8)) (pixel_at x y)
    readable =
        let l : data_length p.deep (kind_of p.deep c s o) ≡ data_length p.deep (kind p (block_at p.columns x y)) = ap (data_length p.deep) kind_is in
        record {
          known = rw ec (code_below p.map (block_at p.columns x y));
          there = omega (arith, l, long_is, ea, takes.there);
          inside =
              rw (kind_is, ← column_is p.columns p.rows x y t.across t.down, ← row_is p.columns p.rows x y t.across t.down)
              (is_copy (kind p (block_at p.columns x y)) (width p) (height p) (left p (block_at p.columns x y)) (top p (block_at p.columns x y)) takes.inside);
          at =
              record {
                width = omega (arith, t.sized.columns);
                across = omega (arith, t.across);
                down = omega (arith, t.down, t.sized.rows);
                pixel = omega (arith, pixel_few x y);
              };
          high = omega (arith, t.sized.rows);
        }

    module _ (u : Source) (eu : u ≡ source p.deep (kind_of p.deep c s o) s (width p) (8 * (x / 8)) (8 * (y / 8)) (pixel_at x y)) where
      pub source_is : u ≡ source_at p (block_at p.columns x y) (pixel_at x y)
      source_is = eu ∙ rw (kind_is, data_is, column_is p.columns p.rows x y t.across t.down, row_is p.columns p.rows x y t.across t.down)

      pub among : Among p.deep u (length s) (height p * width p) (height p * width p) (height p * width p)
      among =
          source_among p.deep s (width p) (height p) (8 * (x / 8)) (8 * (y / 8)) (pixel_at x y) (height p * width p) (height p * width p) (height p * width p)
          (omega (arith, t.across)) (omega (arith, t.down)) (pixel_few x y) (record { in_last = omega arith; in_new = omega arith; in_oldest = omega arith }) o c u readable
          (λ d q. takes.known d (sym ec ∙ q)) eu

      -- a byte of its block's data is one of the packet's
      pub byte_there : (j : ℕ) → u ≡ Data j → at + j < length p.bytes
      byte_there j e =
          let g : Among p.deep (Data j) (length s) (height p * width p) (height p * width p) (height p * width p) = rw e at among in
          omega (arith, byte_below p.deep j (length s) g, long_is)
