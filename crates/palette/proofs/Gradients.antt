-- The numbers of a gradient: they fit their types, its components are 0 to 63, and its entries stand where document 01 says.
-- Assumes nothing.
use mathlib.Core.Path.{◌≡◌, refl, sym, ap, ◌∙◌}
use mathlib.Core.Bool.{Bool, true, false, cond}
use mathlib.Core.List.{List}
use Prim.Native.Nat.{ℕ, zero, suc, ◌+◌, ◌-◌, ◌*◌, ◌/◌, ◌%◌, ◌≤◌, ◌<◌, zero-le, min}
use native.Mathlib.Omega.{arith}
use native.Mathlib.Nat.{mul-le-mul_left, mul_comm, mul-zero, mod-lt, div-lt_iff_lt-mul, div-le_of_le-mul}
use borrow.Author.Tests.{eq-eqb, ne_eqb, leb-true}
use lib.Arith.{digits_div, digits_mod}
use lib.Dec.{eqb, ltb}
use lib.ListN.{length, take, length-append, length-take}
use Rattle.words.proofs.Tests.{first}
use Rattle.refusal.specs.Number.{accept, refuse}
use Rattle.listed.specs.Store.{Store, applied, Within}
use Rattle.palette.specs.Update.{legal, verdict, verdict_for}
use Rattle.listed.proofs.Lists.{applied_append, bytes_length, within_append, within_bytes}
use Rattle.palette.proofs.Allowing.{take_both, due_part, due_rest}
use Rattle.palette.proofs.Judging.{legal_both, legal_each, byte_legal}
use Rattle.palette.proofs.Outcome.{refuses_range, accepts, accepted, taken_on}
use Rattle.palette.specs.Gradient.{Gradient, entries, fits, gradient_fits, level, component, gradient_stores, red_blue, red_green, create_gradient}
use Rattle.palette.specs.Asked.{Next}

-- ---- numbers

quotient_most : (most i n : ℕ) → i < n → most * i / (n - 1) ≤ most
quotient_most most i n h =
    let l : i ≤ n - 1 = omega arith in
    div-le_of_le-mul (n - 1) (omega (arith, mul-le-mul_left most l, mul_comm most (n - 1)))

-- ---- byte i of the entries

columns_some : (rows columns i : ℕ) → i < 3 * (rows * columns) → 0 < columns
columns_some rows zero i h = absurd (let z : ⊥ = omega (arith, mul-zero rows) in z)
columns_some rows (suc n) i h = omega arith

module _ (rows columns i : ℕ) (h : i < 3 * (rows * columns)) where
  row_below : i / 3 / columns < rows
  row_below =
      let l : i / 3 < rows * columns = omega arith in
      (div-lt_iff_lt-mul {x = i / 3} {y = rows} (columns_some rows columns i h)).1 l

  column_below : i / 3 % columns < columns
  column_below = mod-lt (i / 3) (columns_some rows columns i h)

-- ---- entries are among the 256

fits_is : (base n : ℕ) → fits base n ≡ true → (n ≡ 0 → ⊥) → base + n ≤ 256
unfolding fits
fits_is base n e z = leb-true _ _ (rw (ne_eqb _ _ z) at e)

-- behind a gradient's stores
pub count_at : (g : Gradient) (before : ℕ) → before + 3 * entries g ≡ before + length (gradient_stores g)
count_at g before = omega (arith, bytes_length (3 * g.base) (component g.rows g.columns g.second) (3 * entries g))

-- component k of the entry in row i and column j
pub entry_is : (rows columns second i j k : ℕ) → j < columns → k < 3
    → component rows columns second (3 * (i * columns + j) + k) ≡ cond (eqb k 0) (level 63 i rows) (cond (eqb k second) (level 39 j columns) 0)
unfolding component
entry_is rows columns second i j k h l =
    let n = i * columns + j in
    let a : (3 * n + k) % 3 ≡ k = omega arith in
    let b : (3 * n + k) / 3 ≡ n = omega arith in
    rw (a, b, digits_div i h, digits_mod i h)

-- ---- components are 0 to 63

either_most : (b : Bool) (x y most : ℕ) → x ≤ most → y ≤ most → cond b x y ≤ most
either_most true x y most h l = h
either_most false x y most h l = l

level_most : (most i n : ℕ) → i < n → level most i n ≤ most
unfolding level
level_most most i n h = either_most (ltb n 2) 0 _ most zero-le (quotient_most most i n h)

component_most : (rows columns second i : ℕ) → i < 3 * (rows * columns) → component rows columns second i ≤ 63
unfolding component
component_most rows columns second i h =
    let y : level 39 (i / 3 % columns) columns ≤ 63 = omega (arith, level_most 39 _ _ (column_below rows columns i h)) in
    either_most (eqb (i % 3) 0) _ _ 63 (level_most 63 _ _ (row_below rows columns i h)) (either_most (eqb (i % 3) second) _ _ 63 y zero-le)

gradient_legal : (g : Gradient) → legal (gradient_stores g) ≡ true
gradient_legal g =
    legal_each _ (3 * entries g) (λ i h. byte_legal _ _ i _ refl (component_most g.rows g.columns g.second i h))

false_true : false ≡ true → ⊥
false_true e = let z : ◌≡◌ {A = ℕ} 0 1 = cc in omega arith

gradient_within : (g : Gradient) → gradient_fits g ≡ true → Within 768 (gradient_stores g)
gradient_within g e =
    within_bytes 768 (3 * g.base) _ (3 * entries g)
    (λ i h. let l = fits_is g.base (entries g) e (λ z. omega arith) in omega arith)

entries_most : (base n : ℕ) → fits base n ≡ true → n ≤ 256
entries_most base zero e = zero-le
entries_most base (suc n) e = omega (arith, fits_is base (suc n) e (λ z. omega arith))

gradient_few : (g : Gradient) → gradient_fits g ≡ true → length (gradient_stores g) ≤ 768
gradient_few g e = omega (arith, bytes_length (3 * g.base) (component g.rows g.columns g.second) (3 * entries g), entries_most g.base (entries g) e)

-- ---- both gradients

pub both_legal : (body : List ℕ) → legal (create_gradient body).stores ≡ true
both_legal body = legal_both _ _ (gradient_legal _) (gradient_legal _)

module _ (body : List ℕ) (n : ℕ) (h : n ≡ 768) (e : length body ≡ 6) where
  pub refuses_first : gradient_fits (red_blue body) ≡ false → refuse 7 0 ≡ verdict_for (create_gradient body) n
  refuses_first a = refuses_range (create_gradient body) n h (eq-eqb _ _ e) (rw a)

  module _ (a : gradient_fits (red_blue body) ≡ true) where
    pub refuses_second : gradient_fits (red_green body) ≡ false → refuse 7 0 ≡ verdict_for (create_gradient body) n
    refuses_second b = refuses_range (create_gradient body) n h (eq-eqb _ _ e) (rw a b)

    pub takes_both : gradient_fits (red_green body) ≡ true → accept ≡ verdict_for (create_gradient body) n
    takes_both b = accepts (create_gradient body) n h (eq-eqb _ _ e) (rw a b) (both_legal body)

-- what is known of a body that is taken
pub both_fit : (body : List ℕ) (n : ℕ) → accept ≡ verdict_for (create_gradient body) n
    → (n ≡ 768) × (gradient_fits (red_blue body) ≡ true) × (gradient_fits (red_green body) ≡ true)
both_fit body n v =
    let a = taken_on (create_gradient body) n v in
    let i = first _ _ _ _ false_true a.1.inside in
    (a.0, i.0, i.1)

-- of both, where n are allowed: the second gradient gets what the first leaves
module _ (body : List ℕ) (n before : ℕ) (c : before ≡ 0 + length (gradient_stores (red_blue body))) where
  pub both_stored : (p m q : List ℕ) → m ≡ applied (take (n - 0) (gradient_stores (red_blue body))) p → q ≡ applied (take (n - before) (gradient_stores (red_green body))) m
      → q ≡ applied (take n (create_gradient body).stores) p
  both_stored p m q x y =
      let a = gradient_stores (red_blue body) in
      let b = gradient_stores (red_green body) in
      let e : n - 0 ≡ n = omega arith in
      let f : n - before ≡ n - length a = omega arith in
      y ∙ ap (λ (k : ℕ). applied (take k b) m) f ∙ ap (applied (take (n - length a) b)) (x ∙ ap (λ (k : ℕ). applied (take k a) p) e)
      ∙ sym (applied_append (take n a) (take (n - length a) b) p) ∙ ap (λ (l : List Store). applied l p) (sym (take_both n a b))

  pub both_count : (due : ℕ) → due ≡ before + length (gradient_stores (red_green body)) → due ≡ length (create_gradient body).stores
  both_count due d = omega (arith, length-append (gradient_stores (red_blue body)) (gradient_stores (red_green body)))

-- red and blue come first, then red and green
module _ (body p : List ℕ) (l : length p ≡ 768) (a : gradient_fits (red_blue body) ≡ true) (b : gradient_fits (red_green body) ≡ true) (n : ℕ) where
  pub red_blue_next : Next (create_gradient body).stores n 0 (gradient_stores (red_blue body)) p
  red_blue_next =
      let z : min 0 n ≡ 0 = omega arith in
      record {
        due = rw z (due_part (n - 0) (gradient_stores (red_blue body)) (gradient_stores (red_green body)) p (rw l (gradient_within (red_blue body) a)));
        few = omega (arith, gradient_few (red_blue body) a);
      }

  pub red_green_next : (q : List ℕ) → q ≡ applied (take (n - 0) (gradient_stores (red_blue body))) p → (before : ℕ) → before ≡ 0 + length (gradient_stores (red_blue body))
      → Next (create_gradient body).stores n before (gradient_stores (red_green body)) q
  red_green_next q e before c =
      let g = gradient_stores (red_blue body) in
      let w = within_append 768 g (gradient_stores (red_green body)) (gradient_within (red_blue body) a) (gradient_within (red_green body) b) in
      let x : 0 + length (take (n - 0) g) ≡ min before n = omega (arith, length-take (n - 0) g) in
      let y : n - 0 - length g ≡ n - before = omega arith in
      record {
        due = rw (← x, ← y) (due_rest (n - 0) g (gradient_stores (red_green body)) p q (rw l w) e);
        few = omega (arith, gradient_few (red_blue body) a, gradient_few (red_green body) b);
      }

-- there are at most two whole palettes
pub gradients_few : (body : List ℕ) (n : ℕ) → verdict_for (create_gradient body) n ≡ accept → length (create_gradient body).stores ≤ 1536
gradients_few body n v =
    let a = both_fit body n (sym v) in
    omega (arith, length-append (gradient_stores (red_blue body)) (gradient_stores (red_green body)), gradient_few (red_blue body) a.1, gradient_few (red_green body) a.2)

-- each index is one of the palette's
pub gradients_within : (body : List ℕ) → verdict (create_gradient body) ≡ accept → Within 768 (create_gradient body).stores
gradients_within body v =
    let i = first _ _ _ _ false_true (accepted (create_gradient body) v).inside in
    within_append 768 (gradient_stores (red_blue body)) (gradient_stores (red_green body)) (gradient_within (red_blue body) i.0) (gradient_within (red_green body) i.1)
