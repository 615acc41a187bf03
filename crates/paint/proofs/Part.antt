-- What each turn of the loop over a block's first pixels asks.
-- Assumes nothing.
use mathlib.Core.Path.{◌≡◌, sym, ap, ◌∙◌}
use mathlib.Core.Bool.{Bool, true, false, cond}
use mathlib.Core.List.{List}
use Prim.Native.Nat.{ℕ, ◌+◌, ◌<◌}
use Rattle.std.proofs.Common.{add-one}
use native.Mathlib.Omega.{arith}
use lib.ListN.{length, set}
use Rattle.motion.specs.Motion.{raster_index}
use Rattle.block.specs.declared.Source.{Source}
use Rattle.block.specs.Block.{kind_of, source, fetched}
use Rattle.block.specs.Asked.{Readable, Among}
use Rattle.pixel.proofs.Sources.{raster_below, source_among}
use Rattle.stores.specs.Stores.{Plan, first_pixels}
use Rattle.stores.specs.Loop.{Next}
use Rattle.stores.proofs.Pixels.{first_suc}
use Rattle.paint.specs.Value.{Older, pixel_value, block_plan}
use Rattle.paint.specs.Asked.{Drawable, WordCanvas}
use Rattle.paint.proofs.Counts.{count_few}

-- of the one that is chosen
pub chosen : {A B : Type 0} (f : A → B) (deep : Bool) (a b r : A) → r ≡ cond deep a b → f r ≡ cond deep (f a) (f b)
chosen f true a b r e = ap f e
chosen f false a b r e = ap f e

-- a store that is the list's next makes one pixel more
pub first_next : (d : Plan) (b₀ b b' : List ℕ) (i t v : ℕ) → b ≡ first_pixels d 0 b₀ i → Next d 0 i b t v → b' ≡ set b t v → b' ≡ first_pixels d 0 b₀ (i + 1)
first_next d b₀ b b' i t v made x e = rw (e, x.value, x.target, made, add-one) (sym (first_suc d 0 b₀ i))

module _ (deep : Bool) (code : ℕ) (s o : List ℕ) (w h x y n i last new oldest : ℕ) (d : Drawable deep code s o w h x y n) (c : WordCanvas w h x y last new oldest) (l : i < n) where
  pixel_64 : i < 64
  pixel_64 = omega (arith, d.count, count_few (kind_of deep code s o))

  pub part_readable : Readable deep code s o w h x y i
  part_readable =
      record {
        known = d.known;
        there = d.there;
        inside = d.inside;
        at = record { width = c.width; across = c.across; down = omega (arith, c.down, c.height); pixel = omega (arith, pixel_64) };
        high = c.height;
      }

  -- its source is there
  pub part_among : (q new' oldest' : ℕ) → oldest ≡ cond deep q new → new' ≡ new → oldest' ≡ cond deep q new' → (u : Source) → u ≡ source deep (kind_of deep code s o) s w x y i → Among deep u (length s) last new' oldest'
  part_among q new' oldest' f e f' u =
      let g : oldest' ≡ oldest = f' ∙ ap (cond deep q) e ∙ sym f in
      source_among deep s w h x y i last new' oldest' c.across c.down pixel_64
      (record { in_last = c.last_room; in_new = omega (arith, e, c.new_room); in_oldest = omega (arith, g, c.oldest_room) }) o code u part_readable d.taken

  -- its store is the list's next. b: the picture as it is now. u: its source. v: what stands there. t: where it is stored
  pub part_next : (p : Plan) (older : Older) (b₀ b b' : List ℕ) (u : Source) (v t : ℕ) → p ≡ block_plan deep (kind_of deep code s o) s w x y older → length b ≡ new
      → b ≡ first_pixels p 0 b₀ i → u ≡ source deep (kind_of deep code s o) s w x y i → b' ≡ cond deep older.oldest b → v ≡ fetched deep u s older.last b b' → t ≡ raster_index w x y i → Next p 0 i b t v
  unfolding pixel_value
  part_next p older b₀ b b' u v t e long made eu eb ev et =
      rw e
      (record {
        begun = record { found = b₀; made = made ∙ ap (λ (q : Plan). first_pixels q 0 b₀ i) e };
        listed = omega (arith, d.count);
        target = et;
        value = ev ∙ ap (λ (z : List ℕ). fetched deep u s older.last b z) eb ∙ ap (λ (z : Source). fetched deep z s older.last b (cond deep older.oldest b)) eu;
        inside = omega (arith, et, long, raster_below w h x y i c.across c.down pixel_64, c.new_room);
      })
