-- The loop over a block's eight rows: r of them stand, and the next begins at index to. A law for its start, each turn and its end, and for what a row asks.
-- Assumes nothing.
use mathlib.Core.Path.{◌≡◌, refl, sym, ap, ◌∙◌}
use mathlib.Core.List.{List}
use Prim.Native.Nat.{ℕ, ◌+◌, ◌*◌, ◌%◌, ◌≤◌, ◌<◌}
use native.Mathlib.Omega.{arith}
use lib.ListN.{length, get_or}
use Rattle.motion.specs.Motion.{raster_index}
use Rattle.stores.specs.Stores.{Plan, first_pixels, further}
use Rattle.stores.specs.Loop.{Begun}
use Rattle.stores.proofs.Order.{further_off}
use Rattle.paint.specs.Asked.{Square}
use Rattle.rows.specs.Row.{Block, Beside, Disjoint}
use Rattle.rows.proofs.Rows.{Rows, rows_start, rows_begun, rows_more, rows_end, rows_length, row_below, row_low, row_target, row_inside, square_kept}

-- row r of the 8x8 at x, y begins at index to
pub record Place (w x y to r : ℕ) : Type 0 where
  pub index : to ≡ raster_index w x y (8 * r)

pub place_start : {w x y to : ℕ} → to ≡ raster_index w x y 0 → Place w x y to 0
place_start e = record { index = e }

module _ {w x y to r : ℕ} (k : Place w x y to r) where
  -- the index of the row below
  pub place_next : Place w x y (to + w) (r + 1)
  place_next =
      let m : 8 * r + 8 ≡ 8 * (r + 1) = omega arith in
      record { index = row_below w x y (8 * r) to k.index ∙ ap (raster_index w x y) m }

  -- stays small, below the block too
  pub place_low : {n : ℕ} → Square w x y n → r < 8 → to + w ≤ 320000
  place_low q h = row_low w x y (8 * r) to k.index q (omega arith)

  -- the row stands in the picture
  pub place_inside : {n : ℕ} → Square w x y n → r < 8 → to + 8 ≤ n
  place_inside q h = row_inside w x y (8 * r) to (omega arith) k.index q (omega arith)

  pub place_pixel : (i : ℕ) → i < 8 → to + i ≡ raster_index w x y (8 * r + i)
  place_pixel i h = row_target w x y (8 * r) to (omega arith) k.index i (8 * r + i) h refl

-- what a row of a block asks: its values are the block's; new is the picture as the row's first i pixels leave it
pub row_asks : {d : Plan} {w x y : ℕ} {value : ℕ → List ℕ → ℕ} → Block d w x y value → {p to : ℕ} → p % 8 ≡ 0 → p < 64 → to ≡ raster_index w x y p
    → {b : List ℕ} → Square w x y (length b) → Begun d 0 p b → (v : ℕ → ℕ) → ((i : ℕ) → i < 8 → (new : List ℕ) → new ≡ further d 0 b p i → v i ≡ value (p + i) new) → Beside d p 8 b to v
row_asks {d} {w} {x} {y} k {p} {to} z h e {b} q g v vs =
    record {
      begun = g;
      listed = omega (arith, k.all);
      targets = λ i m. row_target w x y p to z e i (p + i) m refl ∙ k.targets (p + i) (omega arith);
      values = λ i m. vs i m (further d 0 b p i) refl ∙ k.values (p + i) (omega arith) (further d 0 b p i);
      inside = row_inside w x y p to z e q h;
    }

pub record Standing (d : Plan) (w x y : ℕ) (b₀ b : List ℕ) (to r : ℕ) : Type 0 where
  pub place : Place w x y to r
  pub rows : Rows d b₀ b (8 * r)

pub standing_start : (d : Plan) {w x y : ℕ} (b : List ℕ) {to : ℕ} → to ≡ raster_index w x y 0 → Standing d w x y b b to 0
standing_start d b e = record { place = place_start e; rows = rows_start d b }

module _ {d : Plan} {w x y : ℕ} {b₀ b : List ℕ} {to r : ℕ} (s : Standing d w x y b₀ b to r) where
  pub standing_next : r < 8 → {b' : List ℕ} → b' ≡ further d 0 b (8 * r) 8 → Standing d w x y b₀ b' (to + w) (r + 1)
  standing_next h {b'} e =
      let k : 8 * r + 8 ≡ 8 * (r + 1) = omega arith in
      record { place = place_next s.place; rows = rw k at (rows_more s.rows (omega arith) e) }

  pub standing_end : 8 ≤ r → b ≡ first_pixels d 0 b₀ 64
  standing_end h = rows_end s.rows (omega arith)

  module _ {n : ℕ} (q : Square w x y n) (long : length b₀ ≡ n) (h : r < 8) where
    -- its values are the block's; new is the picture as the row's first i pixels leave it
    pub standing_beside : {value : ℕ → List ℕ → ℕ} → Block d w x y value → (v : ℕ → ℕ)
        → ((i : ℕ) → i < 8 → (new : List ℕ) → new ≡ further d 0 b (8 * r) i → v i ≡ value (8 * r + i) new) → Beside d (8 * r) 8 b to v
    standing_beside k = row_asks k (omega arith) (omega arith) s.place.index (square_kept q (rows_length s.rows ∙ long)) (rows_begun s.rows)

    -- of a copy: f n is what stands at index n of a picture that no store changes
    pub standing_copied : (f : ℕ → ℕ) (sx sy : ℕ) {from : ℕ} → Block d w x y (λ i new. f (raster_index w sx sy i)) → Place w sx sy from r
        → Beside d (8 * r) 8 b to (λ i. f (from + i))
    standing_copied f sx sy {from} k e =
        standing_beside k (λ i. f (from + i)) (λ i m new _. ap f (place_pixel e i m))

    -- of a copy of the picture that is drawn on: the pixels stored before one is read are none that is read
    pub standing_drawn : (f : ℕ → ℕ) (sx sy : ℕ) {from : ℕ} → Block d w x y (λ i new. f (get_or new (raster_index w sx sy i) 0)) → Place w sx sy from r
        → Disjoint (raster_index w sx sy 0) (raster_index w x y 0) → Beside d (8 * r) 8 b to (λ i. f (get_or b (from + i) 0))
    unfolding raster_index
    standing_drawn f sx sy {from} k e apart = standing_beside k (λ i. f (get_or b (from + i) 0)) (λ i m new n. ap f (read i m new n))
      where
        past : (i : ℕ) → i < 8 → (j : ℕ) → j < i → from + i ≡ to + j → ⊥
        past i m j l v = omega (arith, e.index, s.place.index, apart, v)

        at : (j : ℕ) → j < 8 → to + j ≡ d.target 0 (8 * r + j)
        at j l = place_pixel s.place j l ∙ k.targets (8 * r + j) (omega arith)

        read : (i : ℕ) → i < 8 → (new : List ℕ) → new ≡ further d 0 b (8 * r) i → get_or b (from + i) 0 ≡ get_or new (raster_index w sx sy (8 * r + i)) 0
        read i m new n =
            sym (further_off d 0 b (8 * r) i (from + i) (λ j l v. past i m j l (v ∙ sym (at j (omega arith)))))
            ∙ ap (λ (u : List ℕ). get_or u (from + i) 0) (sym n)
            ∙ ap (λ (z : ℕ). get_or new z 0) (place_pixel e i m)
