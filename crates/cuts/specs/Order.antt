-- The order of palette bytes in the list of a step (document 02, W11): by rising entry, red, green, blue, which is by rising index, since the bytes of entry e stand at
-- 3·e, 3·e + 1 and 3·e + 2. In 0B red and blue come first, and an entry that both gradients have comes twice. `proofs/Order.palette_order`: of every body.
-- Assumes nothing.
use Rattle.std.specs.Prelude.{◌≡◌, List, [], ◌∷◌, ◌++◌, ℕ, suc, ◌≤◌}
use Rattle.listed.specs.Store.{Store}
use Rattle.palette.specs.Gradient.{gradient_stores, red_blue, red_green, create_gradient}
use Rattle.palette.specs.Entries.{set_palette}
use Rattle.palette.specs.Mask.{set_palette_compressed}

-- the indices of a list rise, from low on
unfoldable pub Rises : ℕ → List Store → Type 0
Rises low [] = Unit
Rises low (s ∷ l) = (low ≤ s.index) × Rises (suc s.index) l

pub record PaletteOrder (body : List ℕ) : Type 0 where
  pub gradients : (create_gradient body).stores ≡ gradient_stores (red_blue body) ++ gradient_stores (red_green body)
  pub red_blue_rises : Rises 0 (gradient_stores (red_blue body))
  pub red_green_rises : Rises 0 (gradient_stores (red_green body))
  pub entries : Rises 0 (set_palette body).stores
  pub masks : Rises 0 (set_palette_compressed body).stores
