-- A block of code 1 stores no pixel, one of any other code 64.
-- Assumes nothing.
use mathlib.Core.Path.{◌≡◌, sym, ap, ◌∙◌, subst}
use mathlib.Core.List.{List}
use Prim.Native.Nat.{ℕ, ◌<◌}
use Rattle.block.specs.Block.{byte_kind}
use Rattle.stores.specs.Stores.{Plan, first_pixels}
use Rattle.stores.proofs.Pixels.{first_none}
use Rattle.paint.specs.Value.{pixel_count}
use Rattle.paint.specs.Asked.{ByteDrawable}
use Rattle.paint.proofs.Counts.{count_0, count_64}

module _ (code : ℕ) (s : List ℕ) where
  pub none_painted : code ≡ 1 → (d : Plan) (b : List ℕ) → b ≡ first_pixels d 0 b (pixel_count (byte_kind code s))
  none_painted e d b = sym (first_none d 0 b) ∙ ap (first_pixels d 0 b) (count_0 s code e)

  pub all_drawable : (w h x y : ℕ) → ByteDrawable code s w h x y (pixel_count (byte_kind code s)) → (code ≡ 1 → ⊥) → ByteDrawable code s w h x y 64
  all_drawable w h x y d n = subst (ByteDrawable code s w h x y) (sym (count_64 s code d.known n)) d

  pub all_painted : code < 16 → (code ≡ 1 → ⊥) → (d : Plan) (b b' : List ℕ) → b' ≡ first_pixels d 0 b 64 → b' ≡ first_pixels d 0 b (pixel_count (byte_kind code s))
  all_painted l n d b b' e = e ∙ ap (first_pixels d 0 b) (count_64 s code l n)

-- as many pixels as the plan says
pub as_many : {d e : Plan} (b b' : List ℕ) → d ≡ e → b' ≡ first_pixels d 0 b (e.size 0) → b' ≡ first_pixels d 0 b (d.size 0)
as_many {d} b b' p k = k ∙ ap (first_pixels d 0 b) (sym (ap (λ (q : Plan). q.size 0) p))
