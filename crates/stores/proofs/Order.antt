-- Laws of `further`, the picture after some pixels more of a block, and of `Begun`. In the laws for code numbers go up by `+ 1`, and each value that
-- code has found is a variable with an equation.
use mathlib.Core.Path.{◌≡◌, refl, sym, ap, ◌∙◌}
use mathlib.Core.Logic.{◌≢◌}
use mathlib.Core.List.{List}
use Prim.Native.Nat.{ℕ, zero, suc, ◌+◌, ◌<◌}
use native.Mathlib.Nat.{zero-add}
use native.Mathlib.Numerals.{add-one}
use native.Mathlib.Omega.{arith}
use lib.ListN.{length, get_or, set}
use lib.Seq.{get_or-set_other}
use Rattle.stores.specs.Stores.{Plan, Store, pixels, Memory, memory, apply, run, first_pixels, further}
use Rattle.stores.specs.Loop.{Begun}
use Rattle.stores.proofs.Steps.{run_append, run_length, run_pixels, pixels_add}
use Rattle.stores.proofs.Pixels.{first_none}

module _ (d : Plan) (k : ℕ) where
  pub further_none : (b : List ℕ) (i : ℕ) → further d k b i 0 ≡ b
  unfolding further pixels run
  further_none b i = refl

  -- the first pixels are those from pixel 0 on
  pub further_first : (b : List ℕ) (n : ℕ) → further d k b 0 n ≡ first_pixels d k b n
  unfolding further first_pixels
  further_first b n = refl

  -- the picture keeps its length
  pub further_long : (b : List ℕ) (i n : ℕ) → length (further d k b i n) ≡ length b
  unfolding further
  further_long b i n = run_length d (memory b k) (pixels k i n)

  pub further_memory : (b : List ℕ) (i n : ℕ) → run d (memory b k) (pixels k i n) ≡ memory (further d k b i n) k
  unfolding further
  further_memory b i n = ap (memory (run d (memory b k) (pixels k i n)).picture) (run_pixels d (memory b k) k i n)

  -- n pixels, and then m
  pub further_add : (b : List ℕ) (i n m : ℕ) → further d k b i (n + m) ≡ further d k (further d k b i n) (i + n) m
  unfolding further
  further_add b i n m =
      ap (λ (l : List Store). (run d (memory b k) l).picture) (pixels_add k i n m)
      ∙ ap (λ (x : Memory). x.picture) (run_append d (memory b k) (pixels k i n) (pixels k (i + n) m))
      ∙ ap (λ (x : Memory). (run d x (pixels k (i + n) m)).picture) (further_memory b i n)

  -- one pixel more
  further_suc : (b : List ℕ) (i n : ℕ)
      → further d k b i (n + 1) ≡ set (further d k b i n) (d.target k (i + n)) (d.value k (i + n) (further d k b i n))
  unfolding further pixels run apply
  further_suc b i n = further_add b i n 1

  -- a turn that stores at t the value v on the picture c
  pub further_more : (b : List ℕ) (i n : ℕ) (c b' : List ℕ) (t v : ℕ) → c ≡ further d k b i n → t ≡ d.target k (i + n) → v ≡ d.value k (i + n) c
      → b' ≡ set c t v → b' ≡ further d k b i (n + 1)
  further_more b i n c b' t v ec et ev e = rw (e, ev, et, ec) (sym (further_suc b i n))

  -- an element that is none of these pixels is left as it was
  pub further_off : (b : List ℕ) (i n t : ℕ) → ((j : ℕ) → j < n → t ≢ d.target k (i + j)) → get_or (further d k b i n) t 0 ≡ get_or b t 0
  further_off b i zero t f = ap (λ (c : List ℕ). get_or c t 0) (further_none b i)
  further_off b i (suc n) t f =
      let c = further d k b i n in
      ap (λ (l : List ℕ). get_or l t 0) (ap (further d k b i) (sym (add-one n)) ∙ further_suc b i n)
      ∙ get_or-set_other c (d.target k (i + n)) t (d.value k (i + n) c) 0 (f n (omega arith))
      ∙ further_off b i n t (λ j h. f j (omega arith))

  -- the first i pixels, and then n
  pub first_further : (b₀ : List ℕ) (i n : ℕ) (b b' : List ℕ) → b ≡ first_pixels d k b₀ i → b' ≡ further d k b i n → b' ≡ first_pixels d k b₀ (i + n)
  first_further b₀ i n b b' e f =
      f ∙ ap (λ (c : List ℕ). further d k c i n) (e ∙ sym (further_first b₀ i))
      ∙ ap (λ (x : ℕ). further d k (further d k b₀ 0 i) x n) (sym (zero-add i))
      ∙ sym (further_add b₀ 0 i n)
      ∙ further_first b₀ (i + n)

  pub begun_none : (b : List ℕ) → Begun d k 0 b
  begun_none b = record { found = b; made = sym (first_none d k b) }

  pub begun_further : (i n : ℕ) (b b' : List ℕ) → Begun d k i b → b' ≡ further d k b i n → Begun d k (i + n) b'
  begun_further i n b b' g e = record { found = g.found; made = first_further g.found i n b b' g.made e }
