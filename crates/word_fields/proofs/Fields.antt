-- A field of a few bits is read off the number that the bytes around it make.
-- Assumes nothing.
use mathlib.Core.Path.{◌≡◌, sym, ap, ◌∙◌}
use mathlib.Core.Logic.{◌⊎◌, inl, inr}
use mathlib.Core.List.{List}
use Prim.Native.Nat.{ℕ, zero, suc, ◌+◌, ◌-◌, ◌*◌, ◌/◌, ◌%◌, ◌^◌, ◌≤◌, ◌<◌}
use native.Mathlib.Nat.{pow-succ', one-le-pow, mul_assoc, mod-add-div, div-div-eq-div-mul, add-mul-div_left, add-mul-mod_self_left}
use native.Mathlib.Omega.{arith}
use lib.ListN.{get_or}
use Rattle.pattern.specs.Pattern.{field_at}
use Rattle.word_fields.specs.Layout.{little_endian, AreBytes}

-- ---- powers of two

pub pow_add : (a b : ℕ) → 2 ^ (a + b) ≡ 2 ^ a * 2 ^ b
pow_add zero b = let e : 0 + b ≡ b = omega arith in rw e (omega arith)
pow_add (suc a) b = let e : suc a + b ≡ suc (a + b) = omega arith in rw (e, pow-succ' 2 (a + b), pow-succ' 2 a, pow_add a b, mul_assoc 2 (2 ^ a) (2 ^ b))

pub pow_some : (a : ℕ) → 0 < 2 ^ a
pow_some a = one-le-pow a 2 (omega arith)

-- what stands above w bits does not change b bits below them
pub above : (x c w t b : ℕ) → t + b ≤ w → (x + 2 ^ w * c) / 2 ^ t % 2 ^ b ≡ x / 2 ^ t % 2 ^ b
above x c w t b h =
    let e : w ≡ t + (b + (w - (t + b))) = omega arith in
    let p : 2 ^ w * c ≡ 2 ^ t * (2 ^ b * (2 ^ (w - (t + b)) * c)) =
    ap (λ (z : ℕ). 2 ^ z * c) e ∙ rw (pow_add t, pow_add b, mul_assoc, mul_assoc)
    in
    rw (p, add-mul-div_left x (2 ^ b * (2 ^ (w - (t + b)) * c)) (pow_some t), add-mul-mod_self_left)

pub low_bits : (v bit t b : ℕ) → t + b ≤ 16 → v / 2 ^ bit % 65536 / 2 ^ t % 2 ^ b ≡ v / 2 ^ (bit + t) % 2 ^ b
low_bits v bit t b h =
    let x = v / 2 ^ bit in
    sym (above (x % 65536) (x / 65536) 16 t b h) ∙ ap (λ (z : ℕ). z / 2 ^ t % 2 ^ b) (mod-add-div x 65536)
    ∙ ap (λ (z : ℕ). z % 2 ^ b) (div-div-eq-div-mul v (2 ^ bit) (2 ^ t) ∙ ap (λ (z : ℕ). v / z) (sym (pow_add bit t)))

-- ---- bytes

-- b bits from bit t of byte k on
byte_bits : (s : List ℕ) (n k q t b : ℕ) → AreBytes s q n → k < n → t + b ≤ 8 → little_endian s q n / 2 ^ (8 * k + t) % 2 ^ b ≡ get_or s (q + k) 0 / 2 ^ t % 2 ^ b
unfolding little_endian
byte_bits s zero k q t b h l r = absurd (let z : ⊥ = omega arith in z)
byte_bits s (suc n) zero q t b h l r =
    let e : q + 0 ≡ q = omega arith in
    let f : 8 * 0 + t ≡ t = omega arith in
    rw (e, f) (above (get_or s q 0) (little_endian s (q + 1) n) 8 t b r)
byte_bits s (suc n) (suc k) q t b h l r =
    let e : (q + 1) + k ≡ q + suc k = omega arith in
    let f : 8 * suc k + t ≡ 8 + (8 * k + t) = omega arith in
    let d : q + 0 ≡ q = omega arith in
    let a : get_or s q 0 < 256 = rw d at (h 0 (omega arith)) in
    let g : (get_or s q 0 + 256 * little_endian s (q + 1) n) / 256 ≡ little_endian s (q + 1) n = omega arith in
    let i : (get_or s q 0 + 256 * little_endian s (q + 1) n) / 2 ^ (8 * suc k + t) ≡ little_endian s (q + 1) n / 2 ^ (8 * k + t) =
    ap (λ (z : ℕ). (get_or s q 0 + 256 * little_endian s (q + 1) n) / z) (ap (λ (z : ℕ). 2 ^ z) f ∙ pow_add 8 (8 * k + t))
    ∙ sym (div-div-eq-div-mul _ 256 (2 ^ (8 * k + t))) ∙ ap (λ (z : ℕ). z / 2 ^ (8 * k + t)) g
    in
    ap (λ (z : ℕ). z % 2 ^ b) i ∙ byte_bits s n k (q + 1) t b (behind h) (omega arith) r ∙ ap (λ (z : ℕ). get_or s z 0 / 2 ^ t % 2 ^ b) e
  where
    behind : AreBytes s q (suc n) → AreBytes s (q + 1) n
    behind g j m = let e : q + suc j ≡ (q + 1) + j = omega arith in rw e at (g (suc j) (omega arith))

-- field m of b bits in the bytes from f on is at bit shift of the number from q on
record Parted (q n f b m shift : ℕ) : Type 0 where
  byte : f + m * b / 8 ≡ q + shift / 8
  bit : m * b % 8 ≡ shift % 8
  room : shift % 8 + b ≤ 8
  below : shift / 8 < n

parted : (q n f b m shift : ℕ) → (b ≡ 1) ⊎ (b ≡ 2) → 8 * f + m * b ≡ 8 * q + shift → shift + b ≤ 8 * n → Parted q n f b m shift
parted q n f b m shift (inl d) e l = record { byte = omega arith; bit = omega arith; room = omega arith; below = omega arith }
parted q n f b m shift (inr d) e l =
    let g : m * b ≡ m * 2 = rw d in
    record { byte = omega arith; bit = omega arith; room = omega arith; below = omega arith }

pub field_of_number : (s : List ℕ) (q n f b m shift : ℕ) → AreBytes s q n → (b ≡ 1) ⊎ (b ≡ 2) → 8 * f + m * b ≡ 8 * q + shift → shift + b ≤ 8 * n
    → field_at s f b m ≡ little_endian s q n / 2 ^ shift % 2 ^ b
unfolding field_at
field_of_number s q n f b m shift h d e l =
    let p = parted q n f b m shift d e l in
    let i : 8 * (shift / 8) + shift % 8 ≡ shift = omega arith in
    rw (p.byte, p.bit) (sym (byte_bits s n (shift / 8) q (shift % 8) b h p.below p.room) ∙ ap (λ (z : ℕ). little_endian s q n / 2 ^ z % 2 ^ b) i)
