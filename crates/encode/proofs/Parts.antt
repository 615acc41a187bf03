-- The data of an 8x8, written byte by byte: bytes that are pixels, and a pair of colours with marks.
-- Assumes nothing.
use mathlib.Core.Path.{◌≡◌, refl, sym, ap, ◌∙◌}
use mathlib.Core.List.{List, [], ◌∷◌, ◌++◌}
use Prim.Native.Nat.{ℕ, zero, suc, ◌+◌, ◌-◌, ◌*◌, ◌/◌, ◌%◌, ◌^◌, ◌≤◌, ◌<◌}
use native.Mathlib.Nat.{pow-suc}
use native.Mathlib.Omega.{arith}
use lib.ListN.{length, get_or, set, take}
use borrow.Author.Tests.{eq-eqb, ne_eqb}
use Rattle.room.specs.Room.{written}
use Rattle.room.proofs.Written.{Writing, writing_more, take_more}
use Rattle.choice.specs.declared.Way.{Way}
use Rattle.choice.specs.declared.Way.TheVariants.{Coarse, Fine}
use Rattle.choice.specs.Choice.{data_by, cell_first, mark, marks, bits, lower, higher, fine_data, coarse_data, cell_data}
use Rattle.choice.specs.Asked.{Cells}
use Rattle.choice.proofs.First.{listed_length, listed_from}
use Rattle.choice.proofs.Colours.{mark_few}
use Rattle.encode.specs.Asked.{pair_byte, pair_data}
use Rattle.encode.proofs.Blocks.{written_all}

-- ---- the first pixel of a cell

module _ (e side n : ℕ) (c : Cells e side) (h : n < 8 / side * (8 / side)) where
  -- the side that a shift says
  module _ (k : ℕ) (q : e ≡ k) where
    side_is : side ≡ 2 ^ k
    side_is = c.power ∙ ap (λ (x : ℕ). 2 ^ x) q

    few_is : n < 8 / 2 ^ k * (8 / 2 ^ k)
    few_is = rw side_is at h

  pub first_1 : e ≡ 0 → (n ≡ cell_first side n) × (n < 64)
  unfolding cell_first
  first_1 q = let l = few_is 0 q in rw (side_is 0 q) (omega arith, omega arith)

  pub first_2 : e ≡ 1 → (n / 4 * 16 + n % 4 * 2 ≡ cell_first side n) × (n / 4 * 16 + n % 4 * 2 < 64)
  unfolding cell_first
  first_2 q = let l = few_is 1 q in rw (side_is 1 q) (omega arith, omega arith)

  pub first_4 : e ≡ 2 → (n / 2 * 32 + n % 2 * 4 ≡ cell_first side n) × (n / 2 * 32 + n % 2 * 4 < 64)
  unfolding cell_first
  first_4 q = let l = few_is 2 q in rw (side_is 2 q) (omega arith, omega arith)

  pub first_8 : 3 ≤ e → (0 ≡ cell_first side n) × (0 < 64)
  unfolding cell_first
  first_8 h = let q : e ≡ 3 = omega (arith, c.few) in let l = few_is 3 q in rw (side_is 3 q) (omega arith, omega arith)

-- ---- eight marks

pub marks_small : (f : ℕ → ℕ) (u n c k : ℕ) → n ≤ k → marks f u n c < 2 ^ k
unfolding marks
marks_small f u zero c zero h = omega arith
marks_small f u zero c (suc k) h = rw (pow-suc 2 k) (omega (arith, marks_small f u zero c k (omega arith)))
marks_small f u (suc n) c zero h = absurd (let z : ⊥ = omega arith in z)
marks_small f u (suc n) c (suc k) h = rw (pow-suc 2 k) (omega (arith, marks_small f u n (suc c) k (omega arith), mark_few (f c) u))

pub marks_more : (f : ℕ → ℕ) (u c d v v' : ℕ) → 0 < c → c ≤ 8 → d ≡ c - 1 → v ≡ marks f u (8 - c) c → v' ≡ mark (f d) u + 2 * v → v' ≡ marks f u (8 - d) d
unfolding marks
marks_more f u c d v v' a b g h e =
    let p : 8 - d ≡ suc (8 - c) = omega arith in
    let q : suc d ≡ c = omega arith in
    rw (p, q, ← h) e

pub marked_one : (f : ℕ → ℕ) (u c d v p : ℕ) → 0 < c → c ≤ 8 → d ≡ c - 1 → v ≡ marks f u (8 - c) c → p ≡ f d → p ≡ u → 2 * v + 1 ≡ marks f u (8 - d) d
unfolding mark
marked_one f u c d v p a b g h q e =
    marks_more f u c d v (2 * v + 1) a b g h (rw (eq-eqb (f d) u (sym q ∙ e)) (omega arith))

pub marked_none : (f : ℕ → ℕ) (u c d v p : ℕ) → 0 < c → c ≤ 8 → d ≡ c - 1 → v ≡ marks f u (8 - c) c → p ≡ f d → (p ≡ u → ⊥) → 2 * v ≡ marks f u (8 - d) d
unfolding mark
marked_none f u c d v p a b g h q n =
    marks_more f u c d v (2 * v) a b g h (rw (ne_eqb (f d) u (λ e. n (q ∙ e))) (omega arith))

-- ---- bytes that are pixels

module _ (f : ℕ → ℕ) (side : ℕ) where
  cells_long : length (cell_data side f) ≡ 8 / side * (8 / side)
  unfolding cell_data
  cells_long = listed_length (8 / side * (8 / side)) _ 0

  cell_byte : (j : ℕ) → j < 8 / side * (8 / side) → get_or (cell_data side f) j 0 ≡ f (cell_first side j)
  unfolding cell_data
  cell_byte j h = listed_from (8 / side * (8 / side)) (λ m. f (cell_first side m)) j h

  pub cells_more : (room₀ room room' : List ℕ) (n j t v : ℕ) → n ≡ 8 / side * (8 / side) → Writing room₀ (take j (cell_data side f)) j room → j < n → n ≤ length room₀
      → t ≡ cell_first side j → v ≡ f t → room' ≡ set room j v → Writing room₀ (take (j + 1) (cell_data side f)) (j + 1) room'
  cells_more room₀ room room' n j t v q m h l et ev r =
      let s = cell_data side f in
      let e : v ≡ get_or s j 0 = ev ∙ ap f et ∙ sym (cell_byte j (omega (arith, q))) in
      writing_more room₀ (take j s) j room m (omega arith) (take (j + 1) s) room' v
      (take_more s j (omega (arith, cells_long, q)) ∙ ap (λ (x : ℕ). take j s ++ (x ∷ [])) (sym e)) r

  pub cells_all : (room₀ room : List ℕ) (n j : ℕ) → n ≡ 8 / side * (8 / side) → Writing room₀ (take j (cell_data side f)) j room → n ≤ j → room ≡ written (cell_data side f) room₀
  cells_all room₀ room n j q m h = written_all room₀ (cell_data side f) j room m (omega (arith, cells_long, q))

pub two_written : (room : List ℕ) (a b : ℕ) → 2 ≤ length room → set (set room 0 a) 1 b ≡ written (a ∷ b ∷ []) room
unfolding written
two_written [] a b h = absurd (let z : ⊥ = omega arith in z)
two_written (x ∷ []) a b h = absurd (let z : ⊥ = omega arith in z)
two_written (x ∷ (y ∷ l)) a b h = refl

-- ---- a pair of colours and marks

pair_at : (f : ℕ → ℕ) (side a b n j : ℕ) → j < n + 2 → pair_byte f side a b j ≡ get_or (pair_data f side a b n) j 0
unfolding pair_byte pair_data
pair_at f side a b n zero h = refl
pair_at f side a b n (suc zero) h = refl
pair_at f side a b n (suc (suc j)) h =
    let z : suc (suc j) ≡ 0 → ⊥ = λ (e : suc (suc j) ≡ 0). (let y : ⊥ = omega arith in y) in
    let o : suc (suc j) ≡ 1 → ⊥ = λ (e : suc (suc j) ≡ 1). (let y : ⊥ = omega arith in y) in
    let s : suc (suc j) - 2 ≡ j = omega arith in
    rw (ne_eqb (suc (suc j)) 0 z, ne_eqb (suc (suc j)) 1 o, s)
    (sym (listed_from n (λ r. bits (λ c. f (cell_first side (8 * r + c))) b) j (omega arith)))

module _ (f : ℕ → ℕ) (side a b n : ℕ) where
  pub pair_long : length (pair_data f side a b n) ≡ n + 2
  unfolding pair_data
  pair_long = omega (arith, listed_length n (λ r. bits (λ c. f (cell_first side (8 * r + c))) b) 0)

  pub pair_more : (room₀ room room' : List ℕ) (j v : ℕ) → Writing room₀ (take j (pair_data f side a b n)) j room → j < n + 2 → n + 2 ≤ length room₀
      → v ≡ pair_byte f side a b j → room' ≡ set room j v → Writing room₀ (take (j + 1) (pair_data f side a b n)) (j + 1) room'
  pair_more room₀ room room' j v m h l ev q =
      let s = pair_data f side a b n in
      let e : v ≡ get_or s j 0 = ev ∙ pair_at f side a b n j h in
      writing_more room₀ (take j s) j room m (omega arith) (take (j + 1) s) room' v
      (take_more s j (omega (arith, pair_long)) ∙ ap (λ (x : ℕ). take j s ++ (x ∷ [])) (sym e)) q

  pub pair_all : (room₀ room : List ℕ) (j : ℕ) → Writing room₀ (take j (pair_data f side a b n)) j room → n + 2 ≤ j → room ≡ written (pair_data f side a b n) room₀
  pair_all room₀ room j m h = written_all room₀ (pair_data f side a b n) j room m (omega (arith, pair_long))

-- the two colours as code finds them
module _ (f : ℕ → ℕ) (low high : ℕ) (el : low ≡ lower f) (eh : high ≡ higher f) (way : Way) (room room' : List ℕ) where
  pub coarse_put : way ≡ Coarse → room' ≡ written (pair_data f 2 high low 2) room → room' ≡ written (data_by way f) room
  unfolding data_by coarse_data pair_data
  coarse_put e q = rw (e, ← el, ← eh) q

  pub fine_put : way ≡ Fine → room' ≡ written (pair_data f 1 low high 8) room → room' ≡ written (data_by way f) room
  unfolding data_by fine_data pair_data
  fine_put e q = rw (e, ← el, ← eh) q
