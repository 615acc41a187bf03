-- Laws of the tests of 64 pixels: what the first that fails says, and lists of values.
-- Assumes nothing.
use mathlib.Core.Path.{◌≡◌, refl, sym, ap, ◌∙◌}
use mathlib.Core.Bool.{Bool, true, false, cond}
use mathlib.Core.Logic.{◌⊎◌, inl, inr, ⊎_elim}
use mathlib.Core.List.{List, [], ◌∷◌}
use Prim.Native.Nat.{ℕ, zero, suc, ◌+◌, ◌*◌, ◌/◌, ◌%◌, ◌≤◌, ◌<◌}
use native.Mathlib.Nat.{zero-add, add_assoc, not-suc-le-zero, eq-or-lt_of_le}
use native.Mathlib.Omega.{arith}
use lib.Dec.{eqb}
use lib.ListN.{length, get_or}
use borrow.Author.Tests.{eqb-true, eqb-false, eq-eqb, ne_eqb}
use Rattle.motion.specs.Motion.{raster_index}
use Rattle.block.specs.Block.{cell_source, dither_source}
use Rattle.choice.specs.Choice.{first_of, first_differing, same_to, same_all, cell_first, by_cells, by_dither, celled_by, dithered_by, listed, cell_data}

-- ---- the first that fails

-- a test that is true or false
pub by_bool : (P : Bool → Type 0) (b : Bool) → (b ≡ true → P true) → (b ≡ false → P false) → P b
by_bool P true h g = h refl
by_bool P false h g = g refl

-- r is the first of the numbers from i to n - 1 that fails, n where none does
pub record First (test : ℕ → Bool) (i n r : ℕ) : Type 0 where
  pub most : r ≤ n
  pub least : i ≤ r
  pub clear : (j : ℕ) → i ≤ j → j < r → test j ≡ true
  pub fails : r < n → test r ≡ false

pub first : (n : ℕ) (test : ℕ → Bool) (i : ℕ) → First test i (i + n) (first_of n test i)
unfolding first_of
first zero test i =
    record {
      most = omega arith;
      least = omega arith;
      clear = λ j l h. absurd (let z : ⊥ = omega arith in z);
      fails = λ h. absurd (let z : ⊥ = omega arith in z);
    }
first (suc n) test i =
    by_bool (λ b. First test i (i + suc n) (cond b (first_of n test (suc i)) i)) (test i)
    (λ e.
    let r = first n test (suc i) in
    record {
      most = omega (arith, r.most);
      least = omega (arith, r.least);
      clear = λ j l h. ⊎_elim (λ (q : i ≡ j). ap test (sym q) ∙ e) (λ (q : i < j). r.clear j q h) (eq-or-lt_of_le l);
      fails = λ h. r.fails (omega arith);
    })
    (λ e.
    record {
      most = omega arith;
      least = omega arith;
      clear = λ j l h. absurd (let z : ⊥ = omega arith in z);
      fails = λ h. e;
    })

-- there is only one
pub first_one : (test : ℕ → Bool) (i n r r' : ℕ) → First test i n r → First test i n r' → r ≡ r'
first_one test i n r r' a b = omega (arith, before r r' a b, before r' r b a)
  where
    two_ways : (x : Bool) → x ≡ true → x ≡ false → ⊥
    two_ways x p q = let z : ◌≡◌ {A = ℕ} 0 1 = (let y : true ≡ false = sym p ∙ q in cc) in omega arith

    before : (r r' : ℕ) → First test i n r → First test i n r' → r ≤ r'
    before r r' a b = ⊎_elim (λ (l : r ≤ r'). l) (λ (l : r' < r). absurd (two_ways (test r') (a.clear r' b.least l) (b.fails (omega (arith, a.most))))) (le_or r r')
      where
        le_or : (m n : ℕ) → (m ≤ n) ⊎ (n < m)
        le_or zero n = inl (omega arith)
        le_or (suc m) zero = inr (omega arith)
        le_or (suc m) (suc n) = ⊎_elim (λ (l : m ≤ n). inl (omega arith)) (λ (l : n < m). inr (omega arith)) (le_or m n)

-- from 0 on
first_from : (n : ℕ) (test : ℕ → Bool) → First test 0 n (first_of n test 0)
first_from n test = rw zero-add at (first n test 0)

-- ---- pixels that are the same

-- the first n are
pub record Alike (f g : ℕ → ℕ) (n : ℕ) : Type 0 where
  pub at : (j : ℕ) → j < n → f j ≡ g j

module _ (f g : ℕ → ℕ) where
  pub alike_more : (n n' : ℕ) → Alike f g n → n' ≡ suc n → f n ≡ g n → Alike f g n'
  alike_more n n' h e q =
      record { at = λ j l. ⊎_elim (λ (z : suc j ≡ n'). let y : j ≡ n = omega arith in rw y q) (λ z. h.at j (omega arith)) (eq-or-lt_of_le l) }

  module _ (n : ℕ) where
    pub to_at : same_to n f g ≡ true → (i : ℕ) → i < n → f i ≡ g i
    unfolding same_to
    to_at e i h =
        let r = first_from n (λ i. eqb (f i) (g i)) in
        let q : first_of n (λ i. eqb (f i) (g i)) 0 ≡ n = eqb-true _ _ e in
        eqb-true (f i) (g i) (r.clear i (omega arith) (omega arith))

    pub to_is : Alike f g n → same_to n f g ≡ true
    unfolding same_to
    to_is h =
        let r = first_from n (λ i. eqb (f i) (g i)) in
        ⊎_elim (λ q. eq-eqb _ _ q) (λ q. absurd (eqb-false _ _ (r.fails q) (h.at _ q))) (eq-or-lt_of_le r.most)

    pub to_not : (i : ℕ) → i < n → (f i ≡ g i → ⊥) → same_to n f g ≡ false
    unfolding same_to
    to_not i h d =
        let r = first_from n (λ i. eqb (f i) (g i)) in
        ne_eqb _ _ (λ (e : first_of n (λ i. eqb (f i) (g i)) 0 ≡ n). d (eqb-true _ _ (r.clear i (omega arith) (omega arith))))

    pub to_some : same_to n f g ≡ false → (i : ℕ) × (i < n) × (f i ≡ g i → ⊥)
    unfolding same_to
    to_some e =
        let r = first_from n (λ i. eqb (f i) (g i)) in
        let l : first_of n (λ i. eqb (f i) (g i)) 0 < n = ⊎_elim (λ q. absurd (eqb-false _ _ e q)) (λ q. q) (eq-or-lt_of_le r.most) in
        (first_of n (λ i. eqb (f i) (g i)) 0, l, eqb-false _ _ (r.fails l))

-- ---- two 8x8

-- the first pixel in which they differ
pub record Differs (f g : ℕ → ℕ) (r : ℕ) : Type 0 where
  pub most : r ≤ 64
  pub before : (j : ℕ) → j < r → f j ≡ g j
  pub there : r < 64 → f r ≡ g r → ⊥

module _ (f g : ℕ → ℕ) where
  pub differs : Differs f g (first_differing f g)
  unfolding first_differing
  differs =
      let r = first 64 (λ i. eqb (f i) (g i)) 0 in
      record {
        most = r.most;
        before = λ j h. eqb-true (f j) (g j) (r.clear j (omega arith) h);
        there = λ h. eqb-false _ _ (r.fails h);
      }

  pub same_at : same_all f g ≡ true → (i : ℕ) → i < 64 → f i ≡ g i
  same_at e i h = to_at f g 64 e i h

  pub same_is : ((i : ℕ) → i < 64 → f i ≡ g i) → same_all f g ≡ true
  same_is h = to_is f g 64 (record { at = h })

  pub differ_at : (n : ℕ) → Alike f g n → n < 64 → (f n ≡ g n → ⊥) → n ≡ first_differing f g
  unfolding first_differing
  differ_at n h l q =
      first_one (λ i. eqb (f i) (g i)) 0 64 n (first_differing f g)
      (record { most = omega arith; least = omega arith; clear = λ j _ z. eq-eqb _ _ (h.at j z); fails = λ _. ne_eqb _ _ q })
      (first 64 (λ i. eqb (f i) (g i)) 0)

  pub differ_none : (n : ℕ) → Alike f g n → 64 ≤ n → 64 ≡ first_differing f g
  unfolding first_differing
  differ_none n h l =
      first_one (λ i. eqb (f i) (g i)) 0 64 64 (first_differing f g)
      (record { most = omega arith; least = omega arith; clear = λ j _ z. eq-eqb _ _ (h.at j (omega arith)); fails = λ z. absurd (let y : ⊥ = omega arith in y) })
      (first 64 (λ i. eqb (f i) (g i)) 0)

-- where row r, column c of the 8x8 at x, y stands
pub raster_at : (w x y r c from n : ℕ) → c < 8 → from ≡ (y + r) * w + x → n ≡ 8 * r + c → from + c ≡ raster_index w x y n
unfolding raster_index
raster_at w x y r c from n h e q =
    let a : n / 8 ≡ r = omega arith in
    let b : n % 8 ≡ c = omega arith in
    rw (e, a, b) (add_assoc ((y + r) * w) x c)

-- ---- lists of values

pub listed_length : (n : ℕ) (f : ℕ → ℕ) (i : ℕ) → length (listed n f i) ≡ n
unfolding listed
listed_length zero f i = refl
listed_length (suc n) f i = ap suc (listed_length n f (suc i))

pub listed_at : (n : ℕ) (f : ℕ → ℕ) (i j : ℕ) → j < n → get_or (listed n f i) j 0 ≡ f (i + j)
unfolding listed
listed_at zero f i j h = absurd (not-suc-le-zero h)
listed_at (suc n) f i zero h = let e : i + 0 ≡ i = omega arith in rw e
listed_at (suc n) f i (suc j) h = let e : i + suc j ≡ suc i + j = omega arith in rw e (listed_at n f (suc i) j (omega arith))

pub listed_from : (n : ℕ) (f : ℕ → ℕ) (j : ℕ) → j < n → get_or (listed n f 0) j 0 ≡ f j
listed_from n f j h = listed_at n f 0 j h ∙ ap f (zero-add j)

-- ---- cells

-- of side c: the first pixel of pixel i's cell is a pixel of that cell
pub record Celled (c i : ℕ) : Type 0 where
  pub number : cell_source c i < 8 / c * (8 / c)
  pub inside : cell_first c (cell_source c i) < 64
  pub own : cell_source c (cell_first c (cell_source c i)) ≡ cell_source c i

pub celled_1 : (i : ℕ) → i < 64 → Celled 1 i × (cell_first 1 (cell_source 1 i) ≡ i)
unfolding cell_source cell_first
celled_1 i h = (omega arith, omega arith)

pub celled_2 : (i : ℕ) → i < 64 → Celled 2 i
unfolding cell_source cell_first
celled_2 i h = omega arith

pub celled_4 : (i : ℕ) → i < 64 → Celled 4 i
unfolding cell_source cell_first
celled_4 i h = omega arith

pub celled_8 : (i : ℕ) → i < 64 → Celled 8 i
unfolding cell_source cell_first
celled_8 i h = omega arith

-- a cell of side 1 is its pixel
pub pixel_cell : (i : ℕ) → i < 64 → cell_first 1 i ≡ i
unfolding cell_first
pixel_cell i h = omega arith

-- the one cell of side 8 begins at pixel 0
pub one_cell : (i : ℕ) → i < 64 → cell_first 8 (cell_source 8 i) ≡ 0
unfolding cell_source cell_first
one_cell i h = omega arith

module _ (c : ℕ) (cells : (i : ℕ) → i < 64 → Celled c i) (f : ℕ → ℕ) where
  -- a byte a cell that gives every pixel: the pixels of a cell are alike
  pub cells_alike : (s : List ℕ) → ((i : ℕ) → i < 64 → get_or s (cell_source c i) 0 ≡ f i) → celled_by c f ≡ true
  unfolding celled_by by_cells
  cells_alike s v =
      same_is f _
      (λ i h.
      let k = cells i h in
      sym (v i h) ∙ ap (λ (n : ℕ). get_or s n 0) (sym k.own) ∙ v (cell_first c (cell_source c i)) k.inside)

  -- and where they are alike the first of each does
  pub cells_give : celled_by c f ≡ true → (i : ℕ) → i < 64 → get_or (cell_data c f) (cell_source c i) 0 ≡ f i
  unfolding celled_by by_cells cell_data
  cells_give e i h =
      listed_from (8 / c * (8 / c)) (λ n. f (cell_first c n)) (cell_source c i) (cells i h).number ∙ sym (same_at f _ e i h)

  pub cells_long : length (cell_data c f) ≡ 8 / c * (8 / c)
  unfolding cell_data
  cells_long = listed_length _ _ 0

-- ---- two in turn

pub dither_alike : (f : ℕ → ℕ) (s : List ℕ) → ((i : ℕ) → i < 64 → get_or s (dither_source i) 0 ≡ f i) → dithered_by f ≡ true
unfolding dithered_by by_dither dither_source
dither_alike f s v =
    same_is f _
    (λ i h.
    let n = (i / 8 + i % 8) % 2 in
    sym (v i h) ∙ ap (λ (m : ℕ). get_or s m 0) (sym (in_turn n (omega arith))) ∙ v n (omega arith))
  where
    in_turn : (n : ℕ) → n < 2 → (n / 8 + n % 8) % 2 ≡ n
    in_turn zero h = refl
    in_turn (suc zero) h = refl
    in_turn (suc (suc n)) h = absurd (let z : ⊥ = omega arith in z)

pub dither_gives : (f : ℕ → ℕ) → dithered_by f ≡ true → (i : ℕ) → i < 64 → get_or (f 0 ∷ f 1 ∷ []) (dither_source i) 0 ≡ f i
unfolding dithered_by by_dither dither_source
dither_gives f e i h = pair ((i / 8 + i % 8) % 2) (omega arith) ∙ sym (same_at f _ e i h)
  where
    pair : (n : ℕ) → n < 2 → get_or (f 0 ∷ f 1 ∷ []) n 0 ≡ f n
    pair zero l = refl
    pair (suc zero) l = refl
    pair (suc (suc n)) l = absurd (let z : ⊥ = omega arith in z)
