-- `palette_order`: palette bytes are listed by rising index.
-- Assumes nothing.
use mathlib.Core.Path.{refl}
use mathlib.Core.List.{List, [], ◌∷◌, ◌++◌}
use Prim.Native.Nat.{ℕ, zero, suc, ◌+◌, ◌*◌, ◌≤◌}
use native.Mathlib.Omega.{arith}
use lib.ListN.{get_or}
use Rattle.listed.specs.Store.{Store, each, byte, bytes, from}
use Rattle.palette.specs.Gradient.{gradient, component, gradient_stores, red_blue, red_green}
use Rattle.palette.specs.Entries.{start, count}
use Rattle.palette.specs.Mask.{bit, ones, group_at, masked, group_stores}
use Rattle.palette.proofs.Masks.{bit_most}
use Rattle.cuts.specs.Order.{Rises, PaletteOrder}

-- they rise, and stay below high
unfoldable Between : ℕ → ℕ → List Store → Type 0
Between low high [] = low ≤ high
Between low high (s ∷ l) = (low ≤ s.index) × Between (suc s.index) high l

rises : (low high : ℕ) (l : List Store) → Between low high l → Rises 0 l
unfolding Rises Between
rises low high l b = on 0 low high l (omega arith) b
  where
    on : (a low high : ℕ) (l : List Store) → a ≤ low → Between low high l → Rises a l
    on a low high [] h b = tt
    on a low high (s ∷ l) h b = (omega (arith, b.0), on (suc s.index) (suc s.index) high l (omega arith) b.1)

lower : (a b c : ℕ) (l : List Store) → a ≤ b → Between b c l → Between a c l
unfolding Between
lower a b c [] h m = omega arith
lower a b c (s ∷ l) h m = (omega (arith, m.0), m.1)

raise : (a b c : ℕ) (l : List Store) → b ≤ c → Between a b l → Between a c l
unfolding Between
raise a b c [] h m = omega arith
raise a b c (s ∷ l) h m = (m.0, raise (suc s.index) b c l h m.1)

join : (a b c : ℕ) (l m : List Store) → Between a b l → Between b c m → Between a c (l ++ m)
unfolding Between
join a b c [] m x y = lower a b c m x y
join a b c (s ∷ l) m x y = (x.0, join (suc s.index) b c l m x.1 y)

-- turns of a loop, each between two numbers
turns : (f : ℕ → List Store) (at : ℕ → ℕ) → ((i : ℕ) → Between (at i) (at (suc i)) (f i)) → (n : ℕ) → Between (at 0) (at n) (each f n)
unfolding each Between
turns f at h zero = omega arith
turns f at h (suc n) = join (at 0) (at n) (at (suc n)) (each f n) (f n) (turns f at h n) (h n)

side_by_side : (first : ℕ) (value : ℕ → ℕ) (n : ℕ) → Between (first + 0) (first + n) (bytes first value n)
unfolding byte Between
side_by_side first value n = turns (byte first value) (λ i. first + i) (λ i. (omega arith, omega arith)) n

entry : (body : List ℕ) (mask at first i : ℕ) → Between (3 * (first + i)) (3 * (first + suc i)) (masked body mask at first i)
entry body mask at first i =
    let n = 3 * bit mask i in
    lower (3 * (first + i)) (3 * (first + i) + 0) (3 * (first + suc i)) _ (omega arith)
    (raise (3 * (first + i) + 0) (3 * (first + i) + n) (3 * (first + suc i)) _ (omega (arith, bit_most mask i))
    (side_by_side (3 * (first + i)) (from body (at + 3 * ones mask i)) n))

group : (body : List ℕ) (k : ℕ) → Between (24 * k) (24 * suc k) (group_stores body k)
unfolding group_stores
group body k =
    lower (24 * k) (3 * (8 * k + 0)) (24 * suc k) _ (omega arith)
    (raise (3 * (8 * k + 0)) (3 * (8 * k + 8)) (24 * suc k) _ (omega arith)
    (turns (masked body (get_or body (group_at body k) 0) (group_at body k + 1) (8 * k)) (λ i. 3 * (8 * k + i)) (λ i. entry body (get_or body (group_at body k) 0) (group_at body k + 1) (8 * k) i) 8))

of_gradient : (base rows columns second : ℕ) → Rises 0 (gradient_stores (gradient base rows columns second))
of_gradient base rows columns second = rises _ _ (gradient_stores (gradient base rows columns second)) (side_by_side (3 * base) (component rows columns second) _)

pub palette_order : (body : List ℕ) → PaletteOrder body
palette_order body =
    record {
      gradients = refl;
      red_blue_rises = let g = red_blue body in of_gradient g.base g.rows g.columns g.second;
      red_green_rises = let g = red_green body in of_gradient g.base g.rows g.columns g.second;
      entries = rises _ _ _ (side_by_side (3 * start body) (from body 4) (3 * count body));
      masks = rises _ _ _ (turns (group_stores body) (λ k. 24 * k) (group body) 32);
    }
