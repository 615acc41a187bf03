-- What the functions that draw patterned blocks of words ask of their callers.
-- Assumes nothing.
use Rattle.std.specs.Prelude.{◌≡◌, ◌⊎◌, true, List, ℕ, ◌+◌, ◌*◌, ◌≤◌, ◌<◌, length}
use Rattle.pattern.specs.declared.Form.{Form}
use Rattle.pattern.specs.Form.{shape}
use Rattle.pattern.specs.Pattern.{pattern_length, pattern_source}
use Rattle.motion.specs.Motion.{raster_index}
use Rattle.block.specs.Block.{colour_at, stored}
use Rattle.stores.specs.Stores.{Plan, further}
use Rattle.stores.specs.Loop.{Begun}
use Rattle.paint.specs.Asked.{Square}
use Rattle.rows.specs.Row.{Beside, Fixed}
use Rattle.word_fields.specs.declared.Layout.{Layout}
use Rattle.word_fields.specs.Layout.{layout}

-- The next rows of a block, one or two, are alike: those from pixel p on, the first stored from index to on. Column i of each becomes value i.
pub record AlikeRows (d : Plan) (w p high : ℕ) (b : List ℕ) (to : ℕ) (value : ℕ → ℕ) : Type 0 where
  pub rows : (high ≡ 1) ⊎ (high ≡ 2)
  pub first : Beside d p 8 b to value
  pub second : high ≡ 2 → {b' : List ℕ} → b' ≡ further d 0 b p 8 → Beside d (p + 8) 8 b' (to + w) value

-- the plan of a block at x, y whose data s has this form
pub record Patterned (d : Plan) (s : List ℕ) (form : Form) (w x y : ℕ) : Type 0 where
  pub block : Fixed d w x y (λ i. stored true (colour_at true s (pattern_source (shape true form) s i)))
  pub there : pattern_length (shape true form) ≤ length s

-- pixel p is the first of a band of a form that is laid out as l says. The band's left part begins at byte part. Its fields begin at byte fields, counted from the end of the
-- colours of the block's first part
pub record BandAt (form : Form) (l : Layout) (p part fields : ℕ) : Type 0 where
  pub lays : l ≡ layout form
  -- the number of the band
  pub band : ℕ
  pub below : p < 64
  pub pixels : p ≡ 8 * l.rows * band
  pub begins : part ≡ l.part * band
  pub behind : fields ≡ l.fields * band

-- it is the next of a block with the data s, and begins at index to of the picture b, which is w pixels wide
pub record FormBand (d : Plan) (s : List ℕ) (w : ℕ) (l : Layout) (p part fields : ℕ) (b : List ℕ) (to : ℕ) : Type 0 where
  pub form : Form
  pub x : ℕ
  pub y : ℕ
  pub block : Patterned d s form w x y
  pub band : BandAt form l p part fields
  pub room : Square w x y (length b)
  pub begun : Begun d 0 p b
  pub place : to ≡ raster_index w x y p
