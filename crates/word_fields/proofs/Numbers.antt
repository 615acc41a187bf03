-- Laws of the code's own: the word that begins at a byte, and bytes read as one number.
-- Assumes nothing.
use mathlib.Core.Path.{◌≡◌}
use mathlib.Core.Logic.{◌⊎◌, inl, inr, ⊎_elim}
use mathlib.Core.Bool.{true}
use mathlib.Core.List.{List}
use Prim.Native.Nat.{ℕ, zero, suc, ◌+◌, ◌-◌, ◌*◌, ◌≤◌, ◌<◌}
use native.Mathlib.Omega.{arith}
use lib.ListN.{get_or}
use Rattle.words.specs.Word.{word_at}
use Rattle.block.specs.Block.{colour_at}
use Rattle.word_fields.specs.Layout.{little_endian, AreBytes, FieldBytes}

-- ---- bytes read as one number

-- a, b: the two bytes, as code found them
pub word_is : (s : List ℕ) (j a b : ℕ) → a ≡ get_or s j 0 → b ≡ get_or s (j + 1) 0 → a + 256 * b ≡ colour_at true s j
unfolding word_at
word_is s j a b e f = rw (e, f)

two_of : (s : List ℕ) (q : ℕ) → get_or s q 0 < 256 → get_or s (q + 1) 0 < 256 → AreBytes s q 2
two_of s q f g zero h = let e : q + 0 ≡ q = omega arith in rw e f
two_of s q f g (suc zero) h = g
two_of s q f g (suc (suc k)) h = absurd (let z : ⊥ = omega arith in z)

pub two_is : (s : List ℕ) (q a b : ℕ) → (a ≡ get_or s q 0) × (a < 256) → (b ≡ get_or s (q + 1) 0) × (b < 256) → (a + 256 * b ≡ little_endian s q 2) × AreBytes s q 2 × (a + 256 * b < 65536)
unfolding little_endian
two_is s q a b (e, l) (f, m) = (omega arith, two_of s q (omega arith) (omega arith), omega arith)

pub below_or : (k m : ℕ) → (k < m) ⊎ (m ≤ k)
below_or k zero = inr (omega arith)
below_or zero (suc m) = inl (omega arith)
below_or (suc k) (suc m) = ⊎_elim (λ (l : k < m). inl (omega arith)) (λ (l : m ≤ k). inr (omega arith)) (below_or k m)

-- two ranges of bytes, one behind the other
bytes_joined : (s : List ℕ) (q m n : ℕ) → AreBytes s q m → AreBytes s (q + m) n → AreBytes s q (m + n)
bytes_joined s q m n f g k h =
    ⊎_elim (f k) (λ (l : m ≤ k). let e : (q + m) + (k - m) ≡ q + k = omega arith in rw e at (g (k - m) (omega arith))) (below_or k m)

after_two : (s : List ℕ) (q n : ℕ) → little_endian s q (suc (suc n)) ≡ little_endian s q 2 + 65536 * little_endian s (q + 2) n
unfolding little_endian
after_two s q n = let e : (q + 1) + 1 ≡ q + 2 = omega arith in rw e (omega arith)

after_four : (s : List ℕ) (q n : ℕ) → little_endian s q (suc (suc (suc (suc n)))) ≡ little_endian s q 4 + 4294967296 * little_endian s (q + 4) n
unfolding little_endian
after_four s q n = let e : (((q + 1) + 1) + 1) + 1 ≡ q + 4 = omega arith in rw e (omega arith)

-- a, b: the two halves, as code found them
pub four_is : (s : List ℕ) (q a b : ℕ) → (a ≡ little_endian s q 2) × AreBytes s q 2 × (a < 65536) → (b ≡ little_endian s (q + 2) 2) × AreBytes s (q + 2) 2 × (b < 65536)
    → (a + 65536 * b ≡ little_endian s q 4) × AreBytes s q 4 × (a + 65536 * b < 4294967296)
four_is s q a b (e, f, l) (g, h, m) = (omega (arith, after_two s q 2), bytes_joined s q 2 2 f h, omega arith)

pub eight_is : (s : List ℕ) (q a b : ℕ) → (a ≡ little_endian s q 4) × AreBytes s q 4 × (a < 4294967296) → (b ≡ little_endian s (q + 4) 4) × AreBytes s (q + 4) 4 × (b < 4294967296)
    → (a + 4294967296 * b ≡ little_endian s q 8) × AreBytes s q 8
eight_is s q a b (e, f, l) (g, h, m) = (omega (arith, after_four s q 4), bytes_joined s q 4 4 f h)

-- the least count is what is left
pub last_count : (n : ℕ) → FieldBytes n → (n ≡ 8 → ⊥) → (n ≡ 4 → ⊥) → n ≡ 2
last_count n (inl e) f g = e
last_count n (inr (inl e)) f g = absurd (g e)
last_count n (inr (inr e)) f g = absurd (f e)

pub counted : (s : List ℕ) (q m n r : ℕ) → n ≡ m → r ≡ little_endian s q m → AreBytes s q m → (r ≡ little_endian s q n) × AreBytes s q n
counted s q m n r e f g = rw e (f, g)
