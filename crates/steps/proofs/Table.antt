-- The rules of the whole table, by one test over all of its entries.
-- Assumes nothing.
use mathlib.Core.Path.{◌≡◌, refl}
use mathlib.Core.Bool.{Bool, true, false, cond}
use mathlib.Core.Logic.{⊎_elim}
use Prim.Native.Nat.{ℕ, zero, suc, ◌+◌, ◌-◌, ◌%◌, ◌≤◌, ◌<◌, zero-le}
use native.Mathlib.Omega.{arith}
use native.Mathlib.Nat.{not-suc-le-zero, le_of_suc-le-suc, eq-or-lt_of_le}
use borrow.Author.Tests.{lt-ltb, ne_eqb}
use lib.Dec.{T, eqb, ltb, eqb→eq, ltb→lt}
use lib.ListN.{length, get_or}
use Rattle.steps.specs.Steps.{steps, Mirrored, Rising}
use Rattle.steps.proofs.Every.{left, right, every, at}

pub steps_length : length steps ≡ 256
unfolding steps
steps_length = refl

-- entry k cancels entry 256 - k
mirrors : ℕ → ℕ → Bool
mirrors k step = cond (eqb k 0) true (cond (eqb k 128) (eqb step 1) (eqb ((step + get_or steps (256 - k) 0) % 65536) 0))

-- entry k is below the next one
rises : ℕ → ℕ → Bool
rises k step = cond (ltb k 119) (ltb step (get_or steps (suc k) 0)) true

tested : ℕ → ℕ → Bool
tested k step = cond (mirrors k step) (rises k step) false

all : T (every tested 0 steps)
unfolding tested mirrors rises steps
all = tt

at_entry : (k : ℕ) → k < 256 → T (tested k (get_or steps k 0))
at_entry k h = at tested steps all k (omega (arith, steps_length))

pub steps_cancel : Mirrored
unfolding tested mirrors
steps_cancel =
    record {
      cancel =
          λ i low high other.
          let a : i < 256 = omega arith in
          let z : i ≡ 0 → ⊥ = λ e. omega arith in
          eqb→eq _ _ (rw (ne_eqb i 0 z, ne_eqb i 128 other) at (left (mirrors i (get_or steps i 0)) (rises i (get_or steps i 0)) (at_entry i a)));
      middle = eqb→eq _ _ (left (mirrors 128 (get_or steps 128 0)) (rises 128 (get_or steps 128 0)) (at_entry 128 (omega arith)));
    }

next_rises : (k : ℕ) → k < 119 → get_or steps k 0 < get_or steps (suc k) 0
unfolding tested rises
next_rises k h =
    let a : k < 256 = omega arith in
    ltb→lt _ _ (rw (lt-ltb k 119 h) at (right (mirrors k (get_or steps k 0)) (rises k (get_or steps k 0)) (at_entry k a)))

pub steps_rise : Rising
steps_rise i zero h g = absurd (not-suc-le-zero h)
steps_rise i (suc j) h g =
    let b : j < 119 = omega arith in
    let n = next_rises j b in
    ⊎_elim (λ (e : i ≡ j). rw e n) (λ (l : i < j). let m : get_or steps i 0 < get_or steps j 0 = steps_rise i j l (omega arith) in omega (arith, n, m))
    (eq-or-lt_of_le (le_of_suc-le-suc h))

-- ---- a choice by number

-- b is none of the numbers below n, as the last arm of a `match` knows it
unfoldable pub NoneOf : Type 0 → ℕ → ℕ → Type 0
NoneOf B zero b = B
NoneOf B (suc n) b = NoneOf B n b × (b ≡ n → ⊥)

pub at_least : (B : Type 0) (n b : ℕ) → NoneOf B n b → n ≤ b
unfolding NoneOf
at_least B zero b h = zero-le
at_least B (suc n) b h = let l = at_least B n b h.0 in let m = h.1 in omega (arith, l, m)
