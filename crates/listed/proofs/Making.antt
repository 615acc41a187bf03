-- The loops that make the stores of a list: a law for the start, each turn and the end.
-- Assumes nothing.
use mathlib.Core.Path.{◌≡◌, refl, sym, ap, ◌∙◌}
use mathlib.Core.List.{List}
use Prim.Native.Nat.{ℕ, ◌+◌, ◌≤◌, ◌<◌, zero-le}
use native.Mathlib.Omega.{arith}
use lib.ListN.{length}
use Rattle.listed.specs.Store.{Store, applied, each}
use Rattle.listed.proofs.Lists.{applied_append, applied_length, each_more}

-- a loop whose turn i makes the stores f i, for i below n: those of the turns below i are made on b₀
pub record Making (f : ℕ → List Store) (b₀ : List ℕ) (n : ℕ) (b : List ℕ) (i : ℕ) : Type 0 where
  pub within : i ≤ n
  pub now : b ≡ applied (each f i) b₀

pub making_start : (f : ℕ → List Store) (b : List ℕ) (n : ℕ) → Making f b n b 0
unfolding each applied
making_start f b n = record { within = zero-le; now = refl }

module _ (f : ℕ → List Store) (b₀ : List ℕ) (n : ℕ) (b : List ℕ) (i : ℕ) (m : Making f b₀ n b i) where
  pub making_more : i < n → (b' : List ℕ) → b' ≡ applied (f i) b → Making f b₀ n b' (i + 1)
  making_more h b' e =
      record {
        within = omega arith;
        now = e ∙ ap (applied (f i)) m.now ∙ sym (applied_append (each f i) (f i) b₀) ∙ ap (λ (l : List Store). applied l b₀) (sym (each_more f i));
      }

  pub making_end : n ≤ i → b ≡ applied (each f n) b₀
  making_end h = let e : i ≡ n = omega (arith, m.within) in m.now ∙ ap (λ (k : ℕ). applied (each f k) b₀) e

  pub making_length : length b ≡ length b₀
  making_length = ap length m.now ∙ applied_length (each f i) b₀
