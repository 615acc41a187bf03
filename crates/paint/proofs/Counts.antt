-- How many pixels a block stores: none of code 1 of an 8-bit film, 64 of any other.
-- Assumes nothing.
use mathlib.Core.Path.{◌≡◌, refl}
use mathlib.Core.Bool.{true}
use mathlib.Core.List.{List}
use Prim.Native.Nat.{ℕ, ◌≤◌, ◌<◌}
use native.Mathlib.Omega.{arith}
use Rattle.block.specs.Block.{Kind, same, kept, copied, patterned, celled, dithered, refused, kinds, kind_of, byte_kind}
use Rattle.block.proofs.Codes.{each_code}
use Rattle.paint.specs.Value.{pixel_count}

Counted : List ℕ → ℕ → Type 0
Counted s c = (c ≡ 1 → ⊥) → 64 ≡ pixel_count (byte_kind c s)

pub count_64 : (s : List ℕ) (c : ℕ) → c < 16 → (c ≡ 1 → ⊥) → 64 ≡ pixel_count (byte_kind c s)
unfolding Counted kind_of kinds pixel_count
count_64 s =
    each_code (Counted s) (λ n. refl) (λ n. absurd (n refl)) (λ n. refl) (λ n. refl) (λ n. refl) (λ n. refl) (λ n. refl) (λ n. refl)
    (λ n. refl) (λ n. refl) (λ n. refl) (λ n. refl) (λ n. refl) (λ n. refl) (λ n. refl) (λ n. refl)

pub count_0 : (s : List ℕ) (c : ℕ) → c ≡ 1 → 0 ≡ pixel_count (byte_kind c s)
unfolding kind_of kinds pixel_count
count_0 s c e = rw e

pub count_few : (κ : Kind) → pixel_count κ ≤ 64
unfolding pixel_count
count_few (same p) = omega arith
count_few kept = omega arith
count_few (copied p v n m) = omega arith
count_few (patterned f) = omega arith
count_few (celled c) = omega arith
count_few dithered = omega arith
count_few refused = omega arith

-- every block of a film with true colour stores 64
pub count_deep : (s o : List ℕ) (c : ℕ) → c < 16 → 64 ≡ pixel_count (kind_of true c s o)
unfolding kind_of kinds pixel_count
count_deep s o =
    each_code (λ c. 64 ≡ pixel_count (kind_of true c s o)) refl refl refl refl refl refl refl refl refl refl refl refl refl refl refl refl
