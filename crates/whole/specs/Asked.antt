-- What the functions that copy a block ask of their callers.
-- Assumes nothing.
use Rattle.std.specs.Prelude.{◌≡◌, ◌⊎◌, true, ℕ, ◌+◌, ◌-◌, ◌≤◌}
use Rattle.motion.specs.declared.Vector.{Vector}
use Rattle.motion.specs.Motion.{negated, points_inside, Short, Onward}
use Rattle.paint.specs.Asked.{Square}

-- a vector that points inside
pub record Pointed (v : Vector) (w h x y : ℕ) : Type 0 where
  pub short : Short v
  pub inside : points_inside v w h x y ≡ true

-- the 8x8 that v points at from x, y stands in a picture w pixels wide that is from pixels long, and the one at x, y in a picture that is to pixels long
pub record Reached (v : Vector) (w x y from to : ℕ) : Type 0 where
  pub short : Short v
  pub right : v.left ≤ x + v.right
  pub down : v.up ≤ y + v.down
  pub source : Square w (x + v.right - v.left) (y + v.down - v.up) from
  pub room : Square w x y to

-- a vector that leads on or back, as those of codes 2 and 3 do: where it points inside, no row overlaps the one that it is copied to
abbrev pub Clear : Vector → Type 0
Clear v = Onward v ⊎ Onward (negated v)
