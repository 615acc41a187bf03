-- Codes C to E: the loop over the rows of pixels that a row of cells gives. at: where row r begins.
-- Assumes nothing.
use mathlib.Core.Path.{◌≡◌, refl, ap, ◌∙◌}
use mathlib.Core.List.{List, ◌++◌}
use Prim.Native.Nat.{ℕ, ◌+◌, ◌*◌, ◌/◌, ◌%◌, ◌≤◌, ◌<◌}
use native.Mathlib.Omega.{arith}
use lib.ListN.{get_or}
use Rattle.motion.specs.Motion.{raster_index}
use Rattle.block.specs.Block.{cell_source}
use Rattle.stores.specs.Stores.{Plan, further}
use Rattle.paint.proofs.Painting.{Painting, painting_start, painting_by, painting_end, painting_length, painting_begun}
use Rattle.rows.specs.Row.{colours, Beside, CellBand}
use Rattle.rows.proofs.Rows.{rows_below, row_low, square_kept}
use Rattle.rows.proofs.Beside.{eight_read}
use Rattle.rows.proofs.Colours.{band_room, band_cell}
use Rattle.rows.proofs.Standing.{row_asks}

-- the colours of a band: those of pixels 0, 2, 4 and 6 of its first row
pub record Read (of : ℕ → ℕ) (side p a b c d : ℕ) : Type 0 where
  pub first : a ≡ of (cell_source side p)
  pub second : b ≡ of (cell_source side (p + 2))
  pub third : c ≡ of (cell_source side (p + 4))
  pub fourth : d ≡ of (cell_source side (p + 6))

-- r rows of the band are stored
pub record Rowed (d : Plan) (w p side : ℕ) (b₀ b : List ℕ) (to at r : ℕ) : Type 0 where
  pub place : at ≡ to + r * w
  pub painting : Painting d p b₀ (8 * side) b (8 * r)

pub rowed_start : (d : Plan) (w p side : ℕ) (b : List ℕ) (to : ℕ) → Rowed d w p side b b to to 0
rowed_start d w p side b to = record { place = omega arith; painting = painting_start d p b (8 * side) }

module _ {d : Plan} {of : ℕ → ℕ} {w side p : ℕ} {b₀ : List ℕ} {to : ℕ} (k : CellBand d of w side p b₀ to) where
  pub band_small : p + 8 * side ≤ 64
  band_small = (band_room k.band).room

  module _ {b : List ℕ} {at r : ℕ} (g : Rowed d w p side b₀ b to at r) where
    pub rowed_end : side ≤ r → b ≡ further d 0 b₀ p (8 * side)
    rowed_end h = painting_end d p b₀ (8 * side) b (8 * r) g.painting (omega arith)

    module _ (l : r < side) where
      place : at ≡ raster_index w k.x k.y (p + 8 * r)
      place = g.place ∙ rows_below w k.x k.y p to k.place r

      pub rowed_low : at + w ≤ 320000
      rowed_low = row_low w k.x k.y (p + 8 * r) at place k.room (omega (arith, band_small))

      pub rowed_more : {b' : List ℕ} → b' ≡ further d 0 b (p + 8 * r) 8 → Rowed d w p side b₀ b' to (at + w) (r + 1)
      rowed_more {b'} e =
          let m : 8 * r + 8 ≡ 8 * (r + 1) = omega arith in
          record {
            place = omega (arith, g.place);
            painting = rw m at (painting_by d p b₀ (8 * side) b (8 * r) g.painting 8 (omega arith) b' e);
          }

      -- pixels 2 j and 2 j + 1 of each of its rows have one cell
      cell_at : (i j u : ℕ) → i < 8 → j ≡ p + i / 2 % 4 * 2 → u ≡ of (cell_source side j) → u ≡ of (cell_source side ((p + 8 * r) + i))
      cell_at i j u h e q =
          let f : p + (8 * r + i) ≡ (p + 8 * r) + i = omega arith in
          q ∙ ap (λ (n : ℕ). of (cell_source side n)) e ∙ ap of (band_cell k.band (8 * r) i (omega arith) (omega arith) h) ∙ ap (λ (n : ℕ). of (cell_source side n)) f

      pub rowed_beside : {u₁ u₂ u₃ u₄ : ℕ} → Read of side p u₁ u₂ u₃ u₄ → Beside d (p + 8 * r) 8 b at (λ i. get_or (colours u₁ u₁ u₂ u₂ ++ colours u₃ u₃ u₄ u₄) i 0)
      rowed_beside q =
          eight_read (λ i. of (cell_source side ((p + 8 * r) + i)))
          (record {
            first = cell_at 0 p _ (omega arith) (omega arith) q.first;
            second = cell_at 1 p _ (omega arith) (omega arith) q.first;
            third = cell_at 2 (p + 2) _ (omega arith) (omega arith) q.second;
            fourth = cell_at 3 (p + 2) _ (omega arith) (omega arith) q.second;
            fifth = cell_at 4 (p + 4) _ (omega arith) (omega arith) q.third;
            sixth = cell_at 5 (p + 4) _ (omega arith) (omega arith) q.third;
            seventh = cell_at 6 (p + 6) _ (omega arith) (omega arith) q.fourth;
            eighth = cell_at 7 (p + 6) _ (omega arith) (omega arith) q.fourth;
          })
          (row_asks k.block (omega (arith, (band_room k.band).row)) (omega (arith, band_small)) place (square_kept k.room (painting_length d p b₀ (8 * side) b (8 * r) g.painting)) (painting_begun d p b₀ (8 * side) b (8 * r) g.painting k.begun) (λ i. of (cell_source side ((p + 8 * r) + i))) (λ i m new n. refl))
