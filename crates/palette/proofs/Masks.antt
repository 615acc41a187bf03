-- The bits of a mask, and the loop over them that stores a group's entries: a law for its start, each turn and its end.
-- Assumes nothing.
use mathlib.Core.Path.{◌≡◌, sym, ap, ◌∙◌}
use mathlib.Core.List.{List}
use mathlib.Core.Logic.{⊎_elim}
use Prim.Native.Nat.{ℕ, zero, suc, ◌+◌, ◌-◌, ◌*◌, ◌/◌, ◌%◌, ◌^◌, ◌≤◌, ◌<◌, zero-le}
use native.Mathlib.Omega.{arith}
use native.Mathlib.Numerals.{add-one}
use native.Mathlib.Nat.{le_refl, div-one, div-div-eq-div-mul, pow-suc, eq-or-lt_of_le, le_of_suc-le-suc}
use lib.ListN.{length, take}
use Rattle.listed.specs.Store.{Store, applied, each, bytes, from}
use Rattle.listed.proofs.Lists.{bytes_length}
use Rattle.palette.specs.Mask.{bit, ones, masked}
use Rattle.palette.specs.Asked.{Next, Group}
use Rattle.palette.proofs.Allowing.{Allowing, allowing_start, allowing_more}
use Rattle.palette.proofs.Order.{next_turn, count_more}

-- ---- bits

pub bit_most : (mask i : ℕ) → bit mask i ≤ 1
unfolding bit
bit_most mask i = omega arith

ones_more : (mask i : ℕ) → ones mask (i + 1) ≡ ones mask i + bit mask i
unfolding ones
ones_more mask i = rw (add-one i)

pub ones_most : (mask i : ℕ) → ones mask i ≤ i
unfolding ones
ones_most mask zero = zero-le
ones_most mask (suc i) = omega (arith, ones_most mask i, bit_most mask i)

-- a rising position does not pass its last
pub rising : (f : ℕ → ℕ) → ((i : ℕ) → f i ≤ f (suc i)) → (i n : ℕ) → i ≤ n → f i ≤ f n
rising f up i zero h = let e : i ≡ 0 = omega arith in rw e (le_refl _)
rising f up i (suc n) h =
    ⊎_elim
    (λ (e : i ≡ suc n). rw e (le_refl _))
    (λ (l : i < suc n). omega (arith, rising f up i n (le_of_suc-le-suc l), up n))
    (eq-or-lt_of_le h)

ones_below : (mask i n : ℕ) → i ≤ n → ones mask i ≤ ones mask n
unfolding ones
ones_below mask i n h = rising (ones mask) (λ j. omega arith) i n h

-- the bits from i on, shifted down
bits_none : (mask : ℕ) → mask ≡ mask / 2 ^ 0
bits_none mask = sym (div-one mask)

bits_more : (mask i bits : ℕ) → bits ≡ mask / 2 ^ i → bits / 2 ≡ mask / 2 ^ (i + 1)
bits_more mask i bits e = rw (e, add-one i, pow-suc) (div-div-eq-div-mul mask (2 ^ i) 2)

bit_is : (mask i bits : ℕ) → bits ≡ mask / 2 ^ i → bits % 2 ≡ bit mask i
unfolding bit
bit_is mask i bits e = rw e

-- ---- the loop over the bits

-- entry i is next: its bit is the lowest of bits, and its bytes, if it has any, stand at position next. then: the stores that come before
pub record Masking (body p₀ : List ℕ) (allowed before entry mask at : ℕ) (p : List ℕ) (then bits next i : ℕ) : Type 0 where
  pub stored : Allowing (masked body mask at entry) p₀ (allowed - before) 8 p i
  pub counted : then ≡ before + length (each (masked body mask at entry) i)
  pub shifted : bits ≡ mask / 2 ^ i
  pub behind : next ≡ at + 3 * ones mask i

pub masking_start : (body p : List ℕ) (allowed before entry mask at : ℕ) → Masking body p allowed before entry mask at p before mask at 0
unfolding ones each
masking_start body p allowed before entry mask at =
    record { stored = allowing_start _ p (allowed - before) 8; counted = omega arith; shifted = bits_none mask; behind = omega arith }

module _ (body p₀ : List ℕ) (allowed before entry mask at : ℕ) (p : List ℕ) (then bits next i : ℕ) (m : Masking body p₀ allowed before entry mask at p then bits next i) (h : i < 8) where
  own : bits % 2 ≡ bit mask i
  own = bit_is mask i bits m.shifted

  pub masking_next : (list : List Store) → Next list allowed before (each (masked body mask at entry) 8) p₀
      → Next list allowed then (bytes (3 * (entry + i)) (from body next) (3 * (bits % 2))) p
  masking_next list d = rw (own, m.behind) (next_turn list allowed before (masked body mask at entry) 8 p₀ d p i m.stored h then m.counted)

  pub masking_there : Group body p₀ mask at entry → next + 3 * (bits % 2) ≤ length body
  masking_there g =
      let l : i + 1 ≤ 8 = omega arith in
      omega (arith, own, m.behind, ones_more mask i, ones_below mask (i + 1) 8 l, g.there)

  pub masking_more : (q : List ℕ) → q ≡ applied (take (allowed - then) (bytes (3 * (entry + i)) (from body next) (3 * (bits % 2)))) p → (r : ℕ) → r ≡ then + 3 * (bits % 2)
      → Masking body p₀ allowed before entry mask at q r (bits / 2) (next + 3 * (bits % 2)) (i + 1)
  masking_more q e r c =
      let n : 3 * (bits % 2) ≡ length (masked body mask at entry i) = ap (λ (x : ℕ). 3 * x) own ∙ sym (bytes_length (3 * (entry + i)) (from body (at + 3 * ones mask i)) (3 * bit mask i)) in
      let z : allowed - then ≡ allowed - before - length (each (masked body mask at entry) i) = omega (arith, m.counted) in
      record {
        stored = allowing_more _ p₀ (allowed - before) 8 p i m.stored h q (rw (← z, ← own, ← m.behind) e);
        counted = count_more (masked body mask at entry) before i then (3 * (bits % 2)) r m.counted n c;
        shifted = bits_more mask i bits m.shifted;
        behind = omega (arith, own, m.behind, ones_more mask i);
      }
