-- The loop over a block's rows: after each the picture is as the pixel stores up to there leave it. A law for its start, each turn and its end,
-- and for what a row asks.
-- Assumes nothing.
use mathlib.Core.Path.{◌≡◌, refl, sym, ap, subst, ◌∙◌}
use mathlib.Core.List.{List}
use Prim.Native.Nat.{ℕ, ◌+◌, ◌*◌, ◌/◌, ◌%◌, ◌≤◌, ◌<◌}
use native.Mathlib.Nat.{mul-le-mul, zero-add}
use native.Mathlib.Omega.{arith}
use lib.ListN.{length}
use Rattle.motion.specs.Motion.{raster_index}
use Rattle.motion.proofs.Vectors.{row_small}
use Rattle.stores.specs.Stores.{Plan, first_pixels, further}
use Rattle.stores.specs.Loop.{Begun}
use Rattle.stores.proofs.Order.{further_first, begun_none}
use Rattle.paint.specs.Asked.{Square}
use Rattle.paint.proofs.Painting.{Painting, painting_start, painting_by, painting_end, painting_length, painting_begun, square_inside, square_below}

-- ---- a row a turn

-- p is the first pixel of a row
pub record Rows (d : Plan) (b₀ : List ℕ) (b : List ℕ) (p : ℕ) : Type 0 where
  pub whole : p % 8 ≡ 0
  pub painting : Painting d 0 b₀ 64 b p

pub rows_start : (d : Plan) (b : List ℕ) → Rows d b b 0
rows_start d b = record { whole = refl; painting = painting_start d 0 b 64 }

module _ {d : Plan} {b₀ b : List ℕ} {p : ℕ} (r : Rows d b₀ b p) where
  -- the pixels before the row stand
  pub rows_begun : Begun d 0 p b
  rows_begun = rw zero-add at (painting_begun d 0 b₀ 64 b p r.painting (begun_none d 0 b₀))

  -- m pixels more, in rows
  pub rows_by : (m : ℕ) → m % 8 ≡ 0 → p + m ≤ 64 → {b' : List ℕ} → b' ≡ further d 0 b p m → Rows d b₀ b' (p + m)
  rows_by m z h {b'} e =
      record {
        whole = omega (arith, r.whole);
        painting = painting_by d 0 b₀ 64 b p r.painting m h b' (e ∙ ap (λ (n : ℕ). further d 0 b n m) (sym (zero-add p)));
      }

  pub rows_more : p < 64 → {b' : List ℕ} → b' ≡ further d 0 b p 8 → Rows d b₀ b' (p + 8)
  rows_more h e = rows_by 8 refl (omega (arith, r.whole)) e

  pub rows_end : 64 ≤ p → b ≡ first_pixels d 0 b₀ 64
  rows_end h = painting_end d 0 b₀ 64 b p r.painting h ∙ further_first d 0 b₀ 64

  pub rows_length : length b ≡ length b₀
  rows_length = painting_length d 0 b₀ 64 b p r.painting

-- pixel j of the row that begins at pixel p
pub in_row : (p j : ℕ) → p + 8 ≤ 64 → j < 8 → p + j < 64
in_row p j h l = omega arith

-- an 8x8 stands in every picture of the same length
pub square_kept : {w x y long long' : ℕ} → Square w x y long → long' ≡ long → Square w x y long'
square_kept {w} {x} {y} q e = subst (Square w x y) (sym e) q

-- ---- from row to row

module _ (w x y p to : ℕ) (e : to ≡ raster_index w x y p) where
  pub rows_below : (n : ℕ) → to + n * w ≡ raster_index w x y (p + 8 * n)
  unfolding raster_index
  rows_below n =
      let a : (p + 8 * n) / 8 ≡ p / 8 + n = omega arith in
      let b : (p + 8 * n) % 8 ≡ p % 8 = omega arith in
      rw (a, b) (omega (arith, e))

  pub row_below : to + w ≡ raster_index w x y (p + 8)
  row_below = omega (arith, rows_below 1)

  -- the sums that make these, below the block too, stay small
  pub rows_low : {long : ℕ} (n : ℕ) → Square w x y long → p < 64 → n ≤ 8 → to + n * w ≤ 320000
  unfolding raster_index
  rows_low {long} n q h l =
      omega (arith, e, q.across, q.width, row_small w x y p (square_inside w x y long p q h), mul-le-mul l q.width)

  pub row_low : {long : ℕ} → Square w x y long → p < 64 → to + w ≤ 320000
  row_low q h = omega (arith, rows_low 1 q h (omega arith))

-- ---- a row side by side

module _ (w x y p to : ℕ) (z : p % 8 ≡ 0) (e : to ≡ raster_index w x y p) where
  -- pixel j of the 8x8, which is the row's pixel i
  pub row_target : (i j : ℕ) → i < 8 → j ≡ p + i → to + i ≡ raster_index w x y j
  unfolding raster_index
  row_target i j h f =
      let a : j / 8 ≡ p / 8 = omega (arith, z, f) in
      rw a (omega (arith, e, z, f))

  pub row_inside : {long : ℕ} → Square w x y long → p < 64 → to + 8 ≤ long
  row_inside {long} q h =
      omega (arith, square_below w x y long (p + 7) q (omega (arith, z)) (to + 7) (row_target 7 (p + 7) (omega arith) refl))
