-- The codes of a film with true colour that copy one of the two older pictures: which picture, and the vector.
-- Assumes nothing.
use Rattle.std.specs.Prelude.{Bool, true, false, cond, List, ℕ, ◌/◌, eqb, ltb}
use Rattle.motion.specs.declared.Vector.{Vector}
use Rattle.motion.specs.Motion.{vector}
use Rattle.block.specs.Asked.{vector_at}

-- 0 to 6 and F, but for 3, which copies the picture that is drawn on
unfoldable pub is_older : ℕ → Bool
is_older code = cond (eqb code 3) false (cond (eqb code 15) true (ltb code 7))

-- 0, 4 and 5 copy the last, the others the oldest
unfoldable pub older_picture : List ℕ → List ℕ → ℕ → List ℕ
older_picture last oldest code = cond (eqb code 0) last (cond (eqb (code / 2) 2) last oldest)

-- 0, 1 and F copy the same block
unfoldable pub older_vector : ℕ → List ℕ → List ℕ → Vector
older_vector code s o = cond (ltb code 2) (vector 0 0 0 0) (cond (ltb 6 code) (vector 0 0 0 0) (vector_at true code s o))
