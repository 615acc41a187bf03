-- What the functions below the opcodes ask of their callers.
-- Assumes nothing.
use Rattle.std.specs.Prelude.{List, ℕ, ◌+◌, ◌-◌, ◌*◌, ◌≤◌, ◌<◌, min, length, take}
use Rattle.listed.specs.Store.{Store}
use Rattle.listed.specs.Order.{Due}
use Rattle.palette.specs.Gradient.{Gradient}
use Rattle.palette.specs.Mask.{ones}

-- ---- the order of stores

-- some stores of a list are made, from the first on, and those of the part come next
abbrev pub Ready : List Store → List Store → List ℕ → Type 0
Ready list part palette = (made : ℕ) × Due list made part palette

-- the stores of a list that come before a part are made, as far as they are allowed, and those of the part that are allowed come next. The longest list
-- that is taken is 0B's, of two whole palettes
pub record Next (list : List Store) (allowed before : ℕ) (part : List Store) (palette : List ℕ) : Type 0 where
  pub due : Due list (min before allowed) (take (allowed - before) part) palette
  pub few : before + length part ≤ 1536

-- ---- numbers

-- a gradient of three bytes
pub record Small (g : Gradient) : Type 0 where
  pub base : g.base < 256
  pub rows : g.rows < 256
  pub columns : g.columns < 256

-- the bytes of a body from at on, which a mask gives to 8 entries of a palette
pub record Group (body palette : List ℕ) (mask at entry : ℕ) : Type 0 where
  pub byte : mask < 256
  pub there : at + 3 * ones mask 8 ≤ length body
  pub room : 3 * (entry + 8) ≤ length palette
