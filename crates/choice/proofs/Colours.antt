-- Code 7: two colours, and the fields that name them.
-- Assumes nothing.
use mathlib.Core.Path.{◌≡◌, sym, ap, ◌∙◌}
use mathlib.Core.Bool.{Bool, true, false, cond}
use mathlib.Core.Logic.{◌⊎◌, inl, inr, ⊎_elim}
use mathlib.Core.List.{List, ◌∷◌}
use Prim.Native.Nat.{ℕ, zero, suc, ◌+◌, ◌*◌, ◌/◌, ◌%◌, ◌^◌, ◌<◌}
use native.Mathlib.Nat.{zero-add, one-mul, eq-or-lt_of_le}
use native.Mathlib.Omega.{arith}
use lib.Dec.{eqb, ltb}
use lib.ListN.{length, get_or, drop}
use borrow.Author.Tests.{eqb-true, eqb-false, ne_eqb, ltb-true, ltb-false, lt-ltb, le-ltb}
use Rattle.pattern.specs.declared.Form.TheVariants.{Two1x1, Two2x2}
use Rattle.pattern.specs.Form.{shape, falling, form7}
use Rattle.pattern.specs.Pattern.{colours, cells, part_length, part_start, field_number, field_at, pattern_source}
use Rattle.block.specs.Block.{cell_source}
use Rattle.choice.specs.Choice.{first_differing, cell_first, by_cells, celled_by, other, two_colours, mark, marks, bits, lower, higher, listed, fine_data, coarse_data}
use Rattle.choice.proofs.First.{differs, same_at, same_is, to_some, listed_length, by_bool, one_cell, celled_2, listed_from, pixel_cell}

-- ---- two colours

module _ (f : ℕ → ℕ) where
  -- the other colour is one of the block, where there is one
  record Other : Type 0 where
    at : ℕ
    inside : at < 64
    is : other f ≡ f at
    not_0 : f at ≡ f 0 → ⊥

  -- pixel i has not pixel 0's colour
  some_other : (i : ℕ) → i < 64 → (f i ≡ f 0 → ⊥) → Other
  unfolding other
  some_other i h n =
      let d = differs f (λ j. f 0) in
      let r = first_differing f (λ j. f 0) in
      ⊎_elim
      (λ (q : r ≡ 64). absurd (n (d.before i (omega arith))))
      (λ (q : r < 64).
      let ne : r ≡ 64 → ⊥ = λ (e : r ≡ 64). (let z : ⊥ = omega arith in z) in
      record { at = r; inside = q; is = rw (ne_eqb r 64 ne); not_0 = d.there q })
      (eq-or-lt_of_le d.most)

  -- a block of two colours at most
  pub two_is : (a b : ℕ) → ((i : ℕ) → i < 64 → (f i ≡ a) ⊎ (f i ≡ b)) → two_colours f ≡ true
  unfolding two_colours
  two_is a b v =
      same_is f _
      (λ i h.
      by_bool (λ t. f i ≡ cond t (f 0) (other f)) (eqb (f i) (f 0))
      (λ e. eqb-true _ _ e)
      (λ e.
      let n = eqb-false _ _ e in
      let o = some_other i h n in
      third (f 0) (f i) (f o.at) (v 0 (omega arith)) (v i h) (v o.at o.inside) n o.not_0 ∙ sym o.is))
    where
      third : (x y z : ℕ) → (x ≡ a) ⊎ (x ≡ b) → (y ≡ a) ⊎ (y ≡ b) → (z ≡ a) ⊎ (z ≡ b) → (y ≡ x → ⊥) → (z ≡ x → ⊥) → y ≡ z
      third x y z (inl p) (inl q) r n m = absurd (n (q ∙ sym p))
      third x y z (inl p) (inr q) (inl r) n m = absurd (m (r ∙ sym p))
      third x y z (inl p) (inr q) (inr r) n m = q ∙ sym r
      third x y z (inr p) (inl q) (inl r) n m = q ∙ sym r
      third x y z (inr p) (inl q) (inr r) n m = absurd (m (r ∙ sym p))
      third x y z (inr p) (inr q) r n m = absurd (n (q ∙ sym p))

  -- each pixel has the lower or the higher colour
  two_at : two_colours f ≡ true → (i : ℕ) → i < 64 → (f i ≡ lower f) ⊎ (f i ≡ higher f)
  unfolding two_colours lower higher
  two_at e i h =
      let q = same_at f _ e i h in
      by_bool (λ t. (f i ≡ cond t (f 0) (other f)) ⊎ (f i ≡ cond t (other f) (f 0))) (ltb (f 0) (other f))
      (λ _. either (eqb (f i) (f 0)) q) (λ _. swap (either (eqb (f i) (f 0)) q))
    where
      either : (t : Bool) → f i ≡ cond t (f 0) (other f) → (f i ≡ f 0) ⊎ (f i ≡ other f)
      either true q = inl q
      either false q = inr q

      swap : (f i ≡ f 0) ⊎ (f i ≡ other f) → (f i ≡ other f) ⊎ (f i ≡ f 0)
      swap (inl q) = inr q
      swap (inr q) = inl q

  -- a block of more than one colour has two
  ordered : celled_by 8 f ≡ false → lower f < higher f
  unfolding celled_by by_cells lower higher
  ordered e =
      let d = to_some f _ 64 e in
      let n : f d.0 ≡ f 0 → ⊥ = λ q. d.2 (q ∙ ap f (sym (one_cell d.0 d.1))) in
      let o = some_other d.0 d.1 n in
      let m : other f ≡ f 0 → ⊥ = λ q. o.not_0 (sym o.is ∙ q) in
      by_bool (λ t. cond t (f 0) (other f) < cond t (other f) (f 0)) (ltb (f 0) (other f))
      (λ q. ltb-true _ _ q)
      (λ q. ⊎_elim (λ s. absurd (m s)) (λ s. s) (eq-or-lt_of_le (ltb-false _ _ q)))

-- ---- a byte of eight bits

pub mark_few : (v u : ℕ) → mark v u < 2
unfolding mark
mark_few v u = by_bool (λ t. cond t 1 0 < 2) (eqb v u) (λ _. omega arith) (λ _. omega arith)

bits_at : (f : ℕ → ℕ) (u c : ℕ) → c < 8 → bits f u / 2 ^ c % 2 ≡ mark (f c) u
unfolding marks
bits_at f u c h = by c h (mark_few (f 0) u) (mark_few (f 1) u) (mark_few (f 2) u) (mark_few (f 3) u) (mark_few (f 4) u) (mark_few (f 5) u) (mark_few (f 6) u) (mark_few (f 7) u)
  where
    sum : ℕ
    sum = mark (f 0) u + 2 * (mark (f 1) u + 2 * (mark (f 2) u + 2 * (mark (f 3) u + 2 * (mark (f 4) u + 2 * (mark (f 5) u + 2 * (mark (f 6) u + 2 * (mark (f 7) u + 2 * 0)))))))

    by : (c : ℕ) → c < 8 → mark (f 0) u < 2 → mark (f 1) u < 2 → mark (f 2) u < 2 → mark (f 3) u < 2 → mark (f 4) u < 2 → mark (f 5) u < 2 → mark (f 6) u < 2 → mark (f 7) u < 2
        → sum / 2 ^ c % 2 ≡ mark (f c) u
    by zero h a b c d e f g i = omega arith
    by (suc zero) h a b c d e f g i = omega arith
    by (suc (suc zero)) h a b c d e f g i = omega arith
    by (suc (suc (suc zero))) h a b c d e f g i = omega arith
    by (suc (suc (suc (suc zero)))) h a b c d e f g i = omega arith
    by (suc (suc (suc (suc (suc zero))))) h a b c d e f g i = omega arith
    by (suc (suc (suc (suc (suc (suc zero)))))) h a b c d e f g i = omega arith
    by (suc (suc (suc (suc (suc (suc (suc zero))))))) h a b c d e f g i = omega arith
    by (suc (suc (suc (suc (suc (suc (suc (suc c)))))))) h a b c' d e f g i = absurd (let z : ⊥ = omega arith in z)

-- ---- the fields of code 7

fine_source : (s : List ℕ) (i : ℕ) → i < 64 → pattern_source (shape false Two1x1) s i ≡ field_at s 2 1 i
unfolding pattern_source part_start part_length colours cells field_number
fine_source s i h =
    let e : (i % 8 / 8 * 1 + i / 8 / 8) * 10 ≡ 0 = omega arith in
    let n : i / 8 % 8 / 1 * 8 + i % 8 % 8 / 1 ≡ i = omega arith in
    rw (e, n) (zero-add _ ∙ one-mul _)

coarse_source : (s : List ℕ) (i : ℕ) → i < 64 → pattern_source (shape false Two2x2) s i ≡ field_at s 2 1 (cell_source 2 i)
unfolding pattern_source part_start part_length colours cells field_number cell_source
coarse_source s i h =
    let e : (i % 8 / 8 * 1 + i / 8 / 8) * 4 ≡ 0 = omega arith in
    let a : i / 8 % 8 ≡ i / 8 = omega arith in
    let b : i % 8 % 8 ≡ i % 8 = omega arith in
    rw (e, a, b) (zero-add _ ∙ one-mul _)

field_few : (s : List ℕ) (n : ℕ) → field_at s 2 1 n < 2
unfolding field_at
field_few s n = omega arith

-- a pixel of code 7 is one of its first two bytes
pub of_two : (s : List ℕ) (n v : ℕ) → get_or s (field_at s 2 1 n) 0 ≡ v → (v ≡ get_or s 0 0) ⊎ (v ≡ get_or s 1 0)
of_two s n v e = by (field_at s 2 1 n) (field_few s n) e
  where
    by : (b : ℕ) → b < 2 → get_or s b 0 ≡ v → (v ≡ get_or s 0 0) ⊎ (v ≡ get_or s 1 0)
    by zero h e = inl (sym e)
    by (suc zero) h e = inr (sym e)
    by (suc (suc b)) h e = absurd (let z : ⊥ = omega arith in z)

-- a field of data whose bytes behind the two colours are these
field_bits : (a b n : ℕ) (F : ℕ → ℕ → ℕ) (u i : ℕ) → i < 8 * n → field_at (a ∷ b ∷ listed n (λ r. bits (F r) u) 0) 2 1 i ≡ mark (F (i / 8) (i % 8)) u
unfolding field_at
field_bits a b n F u i h =
    let e : i * 1 ≡ i = omega arith in
    let p : 2 + i / 8 ≡ suc (suc (i / 8)) = omega arith in
    rw (e, p)
    (ap (λ (x : ℕ). x / 2 ^ (i % 8) % 2) (listed_from n (λ r. bits (F r) u) (i / 8) (omega arith))
    ∙ bits_at (F (i / 8)) u (i % 8) (omega arith))

-- the byte that a mark names: the second where the colour is the second
named : (a b v : ℕ) (l : List ℕ) → (v ≡ a) ⊎ (v ≡ b) → get_or (a ∷ b ∷ l) (mark v b) 0 ≡ v
unfolding mark
named a b v l o =
    by_bool (λ t. get_or (a ∷ b ∷ l) (cond t 1 0) 0 ≡ v) (eqb v b) (λ e. sym (eqb-true _ _ e))
    (λ e. ⊎_elim (λ q. sym q) (λ q. absurd (eqb-false _ _ e q)) o)

-- ---- what the data of the choice gives

module _ (f : ℕ → ℕ) (more : celled_by 8 f ≡ false) (two : two_colours f ≡ true) where
  pub fine_form : form7 false (fine_data f) ≡ Two1x1
  unfolding form7 falling fine_data
  fine_form = let l = ordered f more in rw (le-ltb (higher f) (lower f) (omega arith))

  pub coarse_form : form7 false (coarse_data f) ≡ Two2x2
  unfolding form7 falling coarse_data
  coarse_form = rw (lt-ltb (lower f) (higher f) (ordered f more))

  pub fine_gives : (i : ℕ) → i < 64 → get_or (fine_data f) (pattern_source (shape false Two1x1) (fine_data f) i) 0 ≡ f i
  unfolding fine_data
  fine_gives i h =
      let e : 8 * (i / 8) + i % 8 ≡ i = omega arith in
      rw (fine_source (fine_data f) i h, field_bits (lower f) (higher f) 8 (λ r c. f (cell_first 1 (8 * r + c))) (higher f) i (omega arith), e, pixel_cell i h)
      (named (lower f) (higher f) (f i) (drop 2 (fine_data f)) (two_at f two i h))

  pub coarse_gives : celled_by 2 f ≡ true → (i : ℕ) → i < 64 → get_or (coarse_data f) (pattern_source (shape false Two2x2) (coarse_data f) i) 0 ≡ f i
  unfolding coarse_data celled_by by_cells
  coarse_gives cells i h =
      let n = cell_source 2 i in
      let k = celled_2 i h in
      let e : 8 * (n / 8) + n % 8 ≡ n = omega arith in
      rw (coarse_source (coarse_data f) i h, field_bits (higher f) (lower f) 2 (λ r c. f (cell_first 2 (8 * r + c))) (lower f) n k.number, e)
      (named (higher f) (lower f) (f (cell_first 2 n)) (drop 2 (coarse_data f)) (swap (two_at f two (cell_first 2 n) k.inside))
      ∙ sym (same_at f _ cells i h))
    where
      swap : {A B : Type 0} → A ⊎ B → B ⊎ A
      swap (inl a) = inr a
      swap (inr b) = inl b

pub fine_long : (f : ℕ → ℕ) → length (fine_data f) ≡ 10
unfolding fine_data
fine_long f = ap (λ (n : ℕ). suc (suc n)) (listed_length 8 _ 0)

pub coarse_long : (f : ℕ → ℕ) → length (coarse_data f) ≡ 4
unfolding coarse_data
coarse_long f = ap (λ (n : ℕ). suc (suc n)) (listed_length 2 _ 0)

-- ---- what data that gives the pixels says of them

pub fine_says : (f : ℕ → ℕ) (s : List ℕ) → ((i : ℕ) → i < 64 → get_or s (pattern_source (shape false Two1x1) s i) 0 ≡ f i) → two_colours f ≡ true
fine_says f s v = two_is f (get_or s 0 0) (get_or s 1 0) (λ i h. of_two s i (f i) (rw (← fine_source s i h) (v i h)))

pub coarse_says : (f : ℕ → ℕ) (s : List ℕ) → ((i : ℕ) → i < 64 → get_or s (pattern_source (shape false Two2x2) s i) 0 ≡ f i) → (celled_by 2 f ≡ true) × (two_colours f ≡ true)
unfolding celled_by by_cells
coarse_says f s v = (
  same_is f _
      (λ i h.
      let k = celled_2 i h in
      let j = cell_first 2 (cell_source 2 i) in
      sym (rw (coarse_source s i h) at (v i h))
      ∙ ap (λ (n : ℕ). get_or s (field_at s 2 1 n) 0) (sym k.own)
      ∙ (rw (coarse_source s j k.inside) at (v j k.inside))),
  two_is f (get_or s 0 0) (get_or s 1 0) (λ i h. of_two s (cell_source 2 i) (f i) (rw (← coarse_source s i h) (v i h))),
)
