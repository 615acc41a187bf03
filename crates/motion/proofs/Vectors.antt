-- Laws of motion vectors: their two cases, their size, where that of code 2 leads, and the test of pointing inside as a statement.
-- Assumes nothing.
use mathlib.Core.Path.{◌≡◌, refl}
use mathlib.Core.Logic.{inl, inr, ⊎_elim}
use mathlib.Core.Bool.{Bool, true, false, cond}
use Prim.Native.Nat.{ℕ, ◌+◌, ◌-◌, ◌*◌, ◌/◌, ◌%◌, ◌≤◌, ◌<◌}
use native.Mathlib.Omega.{arith}
use native.Mathlib.Nat.{mul-le-mul, mul-le-mul_right}
use lib.Dec.{ltb}
use borrow.Author.Tests.{lt-ltb, le-ltb, ltb-false}
use Rattle.words.proofs.Tests.{not_first}
use Rattle.motion.specs.declared.Vector.{Vector}
use Rattle.motion.specs.Motion.{vector, ahead_vector, negated, near_vector, far_vector, points_inside, PointsInside, raster_index, Short, Onward, Inside}

-- ---- the vectors

-- the quotients by 7 and by 29, and what they leave, from products
by_7 : (v : ℕ) → v < 56 → v * 37 / 256 ≡ v / 7
by_7 v h = omega arith

over_7 : (v : ℕ) → v - 7 * (v / 7) ≡ v % 7
over_7 v = omega arith

by_29 : (u : ℕ) → u < 200 → u * 283 / 8192 ≡ u / 29
by_29 u h = omega arith

over_29 : (u : ℕ) → u - 29 * (u / 29) ≡ u % 29
over_29 u = omega arith

pub ahead_low : (b v : ℕ) → v ≡ b → v < 56 → vector (8 + (v - 7 * (v * 37 / 256))) 0 (v * 37 / 256) 0 ≡ ahead_vector b
unfolding ahead_vector
ahead_low b v e h = rw (by_7 v h, over_7 v, ← e, lt-ltb v 56 h)

pub ahead_high : (b v : ℕ) → v ≡ b → v < 256 → 56 ≤ v → vector (v - 56 - 29 * ((v - 56) * 283 / 8192)) 14 (8 + (v - 56) * 283 / 8192) 0 ≡ ahead_vector b
unfolding ahead_vector
ahead_high b v e l h = rw (by_29 (v - 56) (omega arith), over_29 (v - 56), ← e, le-ltb v 56 h)

-- ---- none is long

ahead_short_by : (b : ℕ) (t : Bool) → b < 256 → ltb b 56 ≡ t → Short (cond t (vector (8 + b % 7) 0 (b / 7) 0) (vector ((b - 56) % 29) 14 (8 + (b - 56) / 29) 0))
ahead_short_by b true h e = omega arith
ahead_short_by b false h e = omega arith

pub ahead_short : (b : ℕ) → b < 256 → Short (ahead_vector b)
unfolding ahead_vector
ahead_short b h = ahead_short_by b (ltb b 56) h refl

pub negated_short : (v : Vector) → Short v → Short (negated v)
unfolding negated
negated_short v s = record { right = s.left; left = s.right; down = s.up; up = s.down }

pub near_short : (b : ℕ) → b < 256 → Short (near_vector b)
unfolding near_vector
near_short b h = omega arith

pub far_short : (x y : ℕ) → Short (far_vector x y)
unfolding far_vector
far_short x y = omega arith

-- ---- that of code 2 leads on

onward_by : (b : ℕ) (t : Bool) → Onward (cond t (vector (8 + b % 7) 0 (b / 7) 0) (vector ((b - 56) % 29) 14 (8 + (b - 56) / 29) 0))
onward_by b true = record { far = inl (omega arith); never_up = refl }
onward_by b false = record { far = inr (omega arith); never_up = refl }

pub ahead_onward : (b : ℕ) → Onward (ahead_vector b)
unfolding ahead_vector
ahead_onward b = onward_by b (ltb b 56)

pub negated_twice : (v : Vector) → negated (negated v) ≡ v
unfolding negated
negated_twice v = refl

-- ---- pointing inside

module _ (v : Vector) (w h x y : ℕ) where
  pub inside_all : PointsInside v w h x y → true ≡ points_inside v w h x y
  unfolding points_inside
  inside_all i = rw (le-ltb _ _ i.left, le-ltb _ _ i.right, le-ltb _ _ i.up, le-ltb _ _ i.down)

  false_true : false ≡ true → ⊥
  false_true e = let z : ◌≡◌ {A = ℕ} 0 1 = cc in omega arith

  pub inside_each : points_inside v w h x y ≡ true → PointsInside v w h x y
  unfolding points_inside
  inside_each e =
      let a = not_first _ _ _ _ false_true e in
      let b = not_first _ _ _ _ false_true a.1 in
      let c = not_first _ _ _ _ false_true b.1 in
      let d = not_first _ _ _ _ false_true c.1 in
      record { left = ltb-false _ _ a.0; right = ltb-false _ _ b.0; up = ltb-false _ _ c.0; down = ltb-false _ _ d.0 }

-- ---- indices

-- the sums that make an index stay small
pub row_small : (w x y i : ℕ) → Inside w x y i → (y + i / 8) * w ≤ 307200
row_small w x y i l = let h : y + i / 8 ≤ 480 = omega (arith, l.down, l.pixel) in mul-le-mul h l.width

-- the 8x8 that an onward vector points at begins past the first row of the one that it leads from
pub onward_past : (w x y x' y' : ℕ) (v : Vector) → Onward v → x + 8 ≤ w → x' + v.left ≡ x + v.right → y' + v.up ≡ y + v.down
    → raster_index w x y 0 + 8 ≤ raster_index w x' y' 0
unfolding raster_index
onward_past w x y x' y' v on h e f =
    ⊎_elim
    (λ right.
    let a : y ≤ y' = omega (arith, on.never_up) in
    omega (arith, mul-le-mul_right w a))
    (λ down.
    let a : y + 8 ≤ y' = omega (arith, on.never_up) in
    omega (arith, mul-le-mul_right w a))
    on.far
