-- A block amid the picture: the vectors of codes 2 to 4 lead at most 14 pixels away, so that one that stands 16 from each edge is copied from inside.
-- Assumes nothing.
use mathlib.Core.Path.{◌≡◌, refl}
use mathlib.Core.Bool.{Bool, true, false, false≢true, cond}
use mathlib.Core.List.{List}
use Prim.Native.Nat.{ℕ, ◌+◌, ◌-◌, ◌/◌, ◌%◌, ◌≤◌, ◌<◌}
use native.Mathlib.Omega.{arith}
use borrow.Author.Tests.{ltb-true, ltb-false, leb-true}
use lib.Dec.{ltb}
use lib.ListN.{get_or}
use Rattle.words.proofs.Tests.{not_first}
use Rattle.motion.specs.declared.Vector.{Vector}
use Rattle.motion.specs.Motion.{vector, ahead_vector, negated, near_vector, points_inside}
use Rattle.motion.proofs.Vectors.{inside_all}
use Rattle.block.specs.Block.{kinds, kind_of, offset_length, copy_inside}
use Rattle.block.proofs.Codes.{each_code}
use Rattle.word_packet.specs.Amid.{is_amid}

-- v leads at most 14 pixels away
record Close (v : Vector) : Type 0 where
  right : v.right ≤ v.left + 14
  left : v.left ≤ v.right + 14
  down : v.down ≤ v.up + 14
  up : v.up ≤ v.down + 14

ahead_by : (b : ℕ) (t : Bool) → b < 256 → ltb b 56 ≡ t → Close (cond t (vector (8 + b % 7) 0 (b / 7) 0) (vector ((b - 56) % 29) 14 (8 + (b - 56) / 29) 0))
ahead_by b true h e = omega (arith, ltb-true b 56 e)
ahead_by b false h e = omega arith

ahead_close : (b : ℕ) → b < 256 → Close (ahead_vector b)
unfolding ahead_vector
ahead_close b h = ahead_by b (ltb b 56) h refl

negated_close : (v : Vector) → Close v → Close (negated v)
unfolding negated
negated_close v s = record { right = s.left; left = s.right; down = s.up; up = s.down }

near_close : (b : ℕ) → b < 256 → Close (near_vector b)
unfolding near_vector
near_close b h = omega arith

module _ (w h x y : ℕ) (a : is_amid w h x y ≡ true) where
  close_inside : (v : Vector) → Close v → true ≡ points_inside v w h x y
  unfolding is_amid
  close_inside v s =
      let p = not_first _ _ _ _ false≢true a in
      let q = not_first _ _ _ _ false≢true p.1 in
      let r = not_first _ _ _ _ false≢true q.1 in
      inside_all v w h x y (omega (arith, ltb-false x 16 p.0, ltb-false w (x + 24) q.0, ltb-false y 16 r.0, leb-true (y + 24) h r.1))

  -- of the codes that take n bytes of the second part o
  module _ (s o : List ℕ) (l : get_or o 0 0 < 256) (n : ℕ) (some : 0 < n) where
    none : {A : Type 0} → n ≡ 0 → A
    none e = absurd (let z : ⊥ = omega arith in z)

    pub amid_inside : (c : ℕ) → c < 16 → n ≡ offset_length (kind_of true c s o) → true ≡ copy_inside (kind_of true c s o) w h x y
    unfolding kind_of kinds offset_length copy_inside
    amid_inside =
        each_code (λ (c : ℕ). n ≡ offset_length (kind_of true c s o) → true ≡ copy_inside (kind_of true c s o) w h x y) none none
        (λ _. close_inside _ (ahead_close _ l)) (λ _. close_inside _ (negated_close _ (ahead_close _ l))) (λ _. close_inside _ (near_close _ l))
        none none none none none none none none none none none
