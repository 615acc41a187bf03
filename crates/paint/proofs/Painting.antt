-- The loop over pixels of a block, from pixel p on: after i turns the picture is as i pixel stores more leave it. A law for its start, each turn and its end.
-- Assumes nothing.
use mathlib.Core.Path.{◌≡◌, sym, ap, ◌∙◌}
use mathlib.Core.List.{List}
use Prim.Native.Nat.{ℕ, ◌+◌, ◌*◌, ◌/◌, ◌≤◌, ◌<◌, zero-le}
use native.Mathlib.Omega.{arith}
use lib.ListN.{length, set}
use Rattle.motion.specs.Motion.{raster_index, Inside}
use Rattle.block.specs.Block.{cell_source}
use Rattle.block.specs.Asked.{Sided}
use Rattle.block.proofs.Codes.{cell}
use Rattle.pattern.specs.declared.Shape.{Shape}
use Rattle.pattern.specs.Pattern.{Shaped, pattern_length, pattern_source}
use Rattle.pattern.proofs.Bounds.{small, source_inside}
use Rattle.pixel.proofs.Sources.{raster_below}
use Rattle.stores.specs.Stores.{Plan, further}
use Rattle.stores.specs.Loop.{Begun}
use Rattle.stores.proofs.Order.{further_none, further_long, further_add, further_more, begun_further}
use Rattle.paint.specs.Asked.{Square}

-- ---- the loop

pub record Painting (d : Plan) (p : ℕ) (b₀ : List ℕ) (n : ℕ) (b : List ℕ) (i : ℕ) : Type 0 where
  pub within : i ≤ n
  pub made : b ≡ further d 0 b₀ p i

pub painting_start : (d : Plan) (p : ℕ) (b : List ℕ) (n : ℕ) → Painting d p b n b 0
painting_start d p b n = record { within = zero-le; made = sym (further_none d 0 b p) }

module _ (d : Plan) (p : ℕ) (b₀ : List ℕ) (n : ℕ) (b : List ℕ) (i : ℕ) (g : Painting d p b₀ n b i) where
  -- a turn that stores one pixel
  pub painting_more : i < n → (b' : List ℕ) (t v : ℕ) → t ≡ d.target 0 (p + i) → v ≡ d.value 0 (p + i) b → b' ≡ set b t v → Painting d p b₀ n b' (i + 1)
  painting_more h b' t v et ev e = record { within = omega arith; made = further_more d 0 b₀ p i b b' t v g.made et ev e }

  -- a turn that stores m pixels
  pub painting_by : (m : ℕ) → i + m ≤ n → (b' : List ℕ) → b' ≡ further d 0 b (p + i) m → Painting d p b₀ n b' (i + m)
  painting_by m h b' e = record { within = h; made = e ∙ ap (λ (c : List ℕ). further d 0 c (p + i) m) g.made ∙ sym (further_add d 0 b₀ p i m) }

  pub painting_end : n ≤ i → b ≡ further d 0 b₀ p n
  painting_end h = let e : i ≡ n = omega (arith, g.within) in g.made ∙ ap (further d 0 b₀ p) e

  pub painting_length : length b ≡ length b₀
  painting_length = ap length g.made ∙ further_long d 0 b₀ p i

  -- what the next store asks of those before it
  pub painting_begun : Begun d 0 p b₀ → Begun d 0 (p + i) b
  painting_begun h = begun_further d 0 p i b₀ b h g.made

-- ---- the pixels' places

module _ (w x y long i : ℕ) (q : Square w x y long) (h : i < 64) where
  pub square_inside : Inside w x y i
  square_inside = record { width = q.width; across = q.across; down = q.down; pixel = omega arith }

  pub square_below : (r : ℕ) → r ≡ raster_index w x y i → r < long
  square_below r e =
      omega (arith, e, q.room, raster_below w (y + 8) x y i q.across (omega arith) h)

-- ---- their bytes

-- the byte that gives a pixel is one of the block's
pub cell_inside : (side i j long : ℕ) → Sided side → i < 64 → 8 / side * (8 / side) ≤ long → j ≡ cell_source side i → j < long
unfolding cell_source
cell_inside side i j long z h l e = omega (arith, cell side i z h, e)

pub pattern_inside : (q : Shape) (s : List ℕ) (i j long : ℕ) → Shaped q → i < 64 → pattern_length q ≤ long → j ≡ pattern_source q s i → j < long
pattern_inside q s i j long z h l e = omega (arith, source_inside q s i z h, (small z).colour_some, e)
