-- What the functions over a block ask of their callers, and what they tell them.
-- Assumes nothing.
use Rattle.std.specs.Prelude.{◌≡◌, ◌⊎◌, Bool, true, false, cond, List, ℕ, ◌+◌, ◌≤◌, ◌<◌, eqb, ltb, length, get_or}
use Rattle.pattern.specs.Form.{bytes}
use Rattle.motion.specs.declared.Vector.{Vector}
use Rattle.motion.specs.Motion.{ahead_vector, negated, near_vector, far_vector, Inside}
use Rattle.block.specs.declared.Source.{Source}
use Rattle.block.specs.declared.Source.TheVariants.{Data, Copied}
use Rattle.block.specs.Block.{Side, pixels, kind_of, data_length, copy_inside, pictured}

-- a code whose number of data bytes does not depend on them: every one but 7 to A
abbrev pub Fixed : ℕ → Type 0
Fixed code = (code < 7) ⊎ (10 < code)

-- the last code that is copied by a vector
abbrev pub last_copied : Bool → ℕ
last_copied deep = cond deep 6 5

-- the first byte of a copied block's offsets: those of codes 2 to 4 stand in the second part o in a film with true colour, else in the block's data s
unfoldable pub first_offset : Bool → ℕ → List ℕ → List ℕ → ℕ
first_offset deep code s o = cond (cond deep (ltb code 5) false) (get_or o 0 0) (get_or s 0 0)

-- the vector of a block of codes 2 to 6
unfoldable pub vector_at : Bool → ℕ → List ℕ → List ℕ → Vector
vector_at deep code s o =
    cond (ltb code 4) (cond (eqb code 3) (negated (ahead_vector (first_offset deep code s o))) (ahead_vector (first_offset deep code s o)))
    (cond (eqb code 4) (near_vector (first_offset deep code s o)) (far_vector (first_offset deep code s o) (get_or s 1 0)))

-- the side of a cell
abbrev pub Sided : ℕ → Type 0
Sided n = (c : Side) × (pixels c ≡ n)

-- a block of this code at x, y of the picture w by h has its data, and the 8x8 that it is copied from lies inside; i is one of its pixels
pub record Readable (deep : Bool) (code : ℕ) (s o : List ℕ) (w h x y i : ℕ) : Type 0 where
  pub known : code < 16
  pub there : data_length deep (kind_of deep code s o) ≤ length s
  pub inside : copy_inside (kind_of deep code s o) w h x y ≡ true
  pub at : Inside w x y i
  pub high : h ≤ 480

-- a source is one of so many bytes or pixels
abbrev pub Among : Bool → Source → ℕ → ℕ → ℕ → ℕ → Type 0
Among deep (Data j) s last new oldest = j + bytes deep ≤ s
Among deep (Copied p j) s last new oldest = j < pictured p last new oldest
