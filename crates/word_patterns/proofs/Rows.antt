-- Rows that are alike: what the second asks once the first is stored, and what both make.
-- Assumes nothing.
use mathlib.Core.Path.{◌≡◌, refl, sym, ap, subst, ◌∙◌}
use mathlib.Core.Logic.{◌⊎◌, inl, inr}
use mathlib.Core.Bool.{true}
use mathlib.Core.List.{List, ◌++◌}
use Prim.Native.Nat.{ℕ, zero, suc, ◌+◌, ◌*◌, ◌/◌, ◌%◌, ◌^◌, ◌≤◌, ◌<◌}
use native.Mathlib.Nat.{mul_comm, div-div-eq-div-mul}
use native.Mathlib.Omega.{arith}
use lib.ListN.{length, get_or}
use Rattle.block.specs.Block.{stored}
use Rattle.stores.specs.Stores.{Plan, further}
use Rattle.stores.proofs.Order.{further_add, further_long}
use Rattle.rows.specs.Row.{colours, Beside}
use Rattle.rows.proofs.Beside.{Eight, eight_read}
use Rattle.word_fields.specs.Layout.{row_colour}
use Rattle.word_patterns.specs.Asked.{AlikeRows}

-- ---- the columns of a row

module _ (left right : ℕ) (l r : List ℕ) where
  -- the field of column j is that of a shift by j fields
  shifted : (bits : ℕ) (c : List ℕ) (n j m v : ℕ) → j * bits ≡ m → v ≡ stored true (get_or c (n / 2 ^ m % 2 ^ bits) 0) → v ≡ stored true (get_or c (n / 2 ^ (j * bits) % 2 ^ bits) 0)
  shifted bits c n j m v z e = e ∙ ap (λ (o : ℕ). stored true (get_or c (n / 2 ^ o % 2 ^ bits) 0)) (sym z)

  -- the lowest field needs no shift
  lowest : (bits : ℕ) (c : List ℕ) (n v : ℕ) → v ≡ stored true (get_or c (n % 2 ^ bits) 0) → v ≡ stored true (get_or c (n / 2 ^ (0 * bits) % 2 ^ bits) 0)
  lowest bits c n v e = let z : 0 * bits ≡ 0 = omega arith in let f : n ≡ n / 2 ^ 0 = omega arith in
      e ∙ ap (λ (o : ℕ). stored true (get_or c (o % 2 ^ bits) 0)) f ∙ ap (λ (o : ℕ). stored true (get_or c (n / 2 ^ o % 2 ^ bits) 0)) (sym z)

  pub narrow_row : (bits : ℕ) {u₁ u₂ u₃ u₄ u₅ u₆ u₇ u₈ : ℕ}
      → u₁ ≡ stored true (get_or l (left % 2 ^ bits) 0) → u₂ ≡ stored true (get_or l (left / 2 ^ bits % 2 ^ bits) 0)
      → u₃ ≡ stored true (get_or l (left / 2 ^ (2 * bits) % 2 ^ bits) 0) → u₄ ≡ stored true (get_or l (left / 2 ^ (3 * bits) % 2 ^ bits) 0)
      → u₅ ≡ stored true (get_or r (right % 2 ^ bits) 0) → u₆ ≡ stored true (get_or r (right / 2 ^ bits % 2 ^ bits) 0)
      → u₇ ≡ stored true (get_or r (right / 2 ^ (2 * bits) % 2 ^ bits) 0) → u₈ ≡ stored true (get_or r (right / 2 ^ (3 * bits) % 2 ^ bits) 0)
      → Eight (row_colour bits 1 left right l r) u₁ u₂ u₃ u₄ u₅ u₆ u₇ u₈
  unfolding row_colour
  narrow_row bits {u₁} {u₂} {u₃} {u₄} {u₅} {u₆} {u₇} {u₈} e₁ e₂ e₃ e₄ e₅ e₆ e₇ e₈ =
      let one : 1 * bits ≡ bits = omega arith in
      record {
        first = lowest bits l left u₁ e₁;
        second = shifted bits l left 1 bits u₂ one e₂;
        third = e₃;
        fourth = e₄;
        fifth = lowest bits r right u₅ e₅;
        sixth = shifted bits r right 1 bits u₆ one e₆;
        seventh = e₇;
        eighth = e₈;
      }

  pub wide_row : (bits : ℕ) {u₁ u₂ u₃ u₄ : ℕ}
      → u₁ ≡ stored true (get_or l (left % 2 ^ bits) 0) → u₂ ≡ stored true (get_or l (left / 2 ^ bits % 2 ^ bits) 0)
      → u₃ ≡ stored true (get_or r (right % 2 ^ bits) 0) → u₄ ≡ stored true (get_or r (right / 2 ^ bits % 2 ^ bits) 0)
      → Eight (row_colour bits 2 left right l r) u₁ u₁ u₂ u₂ u₃ u₃ u₄ u₄
  unfolding row_colour
  wide_row bits {u₁} {u₂} {u₃} {u₄} e₁ e₂ e₃ e₄ =
      let one : 1 * bits ≡ bits = omega arith in
      record {
        first = lowest bits l left u₁ e₁;
        second = lowest bits l left u₁ e₁;
        third = shifted bits l left 1 bits u₂ one e₂;
        fourth = shifted bits l left 1 bits u₂ one e₂;
        fifth = lowest bits r right u₃ e₃;
        sixth = lowest bits r right u₃ e₃;
        seventh = shifted bits r right 1 bits u₄ one e₄;
        eighth = shifted bits r right 1 bits u₄ one e₄;
      }

-- ---- rows that are alike

-- the values may be given as eight colours that are read before the first is stored
pub rowed_read : (f : ℕ → ℕ) {u₁ u₂ u₃ u₄ u₅ u₆ u₇ u₈ : ℕ} → Eight f u₁ u₂ u₃ u₄ u₅ u₆ u₇ u₈ → {d : Plan} {w p high : ℕ} {b : List ℕ} {to : ℕ}
    → AlikeRows d w p high b to f → AlikeRows d w p high b to (λ i. get_or (colours u₁ u₂ u₃ u₄ ++ colours u₅ u₆ u₇ u₈) i 0)
rowed_read f q r = record { rows = r.rows; first = eight_read f q r.first; second = λ h e. eight_read f q (r.second h e) }

module _ {d : Plan} {w p high : ℕ} {b : List ℕ} {to : ℕ} {value : ℕ → ℕ} (r : AlikeRows d w p high b to value) {b' : List ℕ} (e : b' ≡ further d 0 b p 8) where
  -- the second row stands in the picture
  pub second_low : high ≡ 2 → to + w + 8 ≤ length b
  second_low h = omega (arith, (r.second h e).inside, ap length e, further_long d 0 b p 8)

  pub one_made : (high ≡ 2 → ⊥) → b' ≡ further d 0 b p (8 * high)
  one_made n =
      elim r.rows [ inl h ↦ e ∙ ap (λ (m : ℕ). further d 0 b p (8 * m)) (sym h) | inr h ↦ absurd (n h) ]

  pub two_made : high ≡ 2 → {b'' : List ℕ} → b'' ≡ further d 0 b' (p + 8) 8 → b'' ≡ further d 0 b p (8 * high)
  two_made h f =
      f ∙ ap (λ (c : List ℕ). further d 0 c (p + 8) 8) e ∙ sym (further_add d 0 b p 8 8) ∙ ap (λ (m : ℕ). further d 0 b p (8 * m)) (sym h)

-- ---- the width of a cell

pub one_wide : {wide : ℕ} → (wide ≡ 1) ⊎ (wide ≡ 2) → (wide ≡ 2 → ⊥) → wide ≡ 1
one_wide (inl e) n = e
one_wide (inr e) n = absurd (n e)

pub rowed_wide : {wide n : ℕ} → wide ≡ n → (bits left right : ℕ) (l r : List ℕ) {d : Plan} {w p high : ℕ} {b : List ℕ} {to : ℕ}
    → AlikeRows d w p high b to (row_colour bits wide left right l r) → AlikeRows d w p high b to (row_colour bits n left right l r)
rowed_wide e bits left right l r {d} {w} {p} {high} {b} {to} z = subst (λ (m : ℕ). AlikeRows d w p high b to (row_colour bits m left right l r)) e z

-- ---- values that are the same

beside_as : {f g : ℕ → ℕ} → ((j : ℕ) → j < 8 → g j ≡ f j) → {d : Plan} {p : ℕ} {b : List ℕ} {to : ℕ} → Beside d p 8 b to f → Beside d p 8 b to g
beside_as z r = record { begun = r.begun; listed = r.listed; targets = r.targets; values = λ i h. z i h ∙ r.values i h; inside = r.inside }

pub rowed_as : {f g : ℕ → ℕ} → ((j : ℕ) → j < 8 → g j ≡ f j) → {d : Plan} {w p high : ℕ} {b : List ℕ} {to : ℕ} → AlikeRows d w p high b to f → AlikeRows d w p high b to g
rowed_as z r = record { rows = r.rows; first = beside_as z r.first; second = λ h e. beside_as z (r.second h e) }

-- the fields of the right half stand above those of the left one, so that one shift of the number gives both
module _ (v bit k : ℕ) (e : k ≡ v / 2 ^ bit % 65536) (l : List ℕ) where
  swapped : v / 16 / 2 ^ bit ≡ v / 2 ^ bit / 16
  swapped = div-div-eq-div-mul v 16 (2 ^ bit) ∙ ap (λ (n : ℕ). v / n) (mul_comm 16 (2 ^ bit)) ∙ sym (div-div-eq-div-mul v (2 ^ bit) 16)

  third : stored true (get_or l (k / 16 / 1 % 4) 0) ≡ stored true (get_or l (v / 16 / 2 ^ bit % 65536 / 1 % 4) 0)
  third = let z : k / 16 / 1 % 4 ≡ v / 16 / 2 ^ bit % 65536 / 1 % 4 = omega (arith, e, swapped) in ap (λ (n : ℕ). stored true (get_or l n 0)) z

  fourth : stored true (get_or l (k / 16 / 4 % 4) 0) ≡ stored true (get_or l (v / 16 / 2 ^ bit % 65536 / 4 % 4) 0)
  fourth = let z : k / 16 / 4 % 4 ≡ v / 16 / 2 ^ bit % 65536 / 4 % 4 = omega (arith, e, swapped) in ap (λ (n : ℕ). stored true (get_or l n 0)) z

  pub wide_joined : (j : ℕ) → j < 8 → row_colour 2 2 k (k / 16) l l j ≡ row_colour 2 2 k (v / 16 / 2 ^ bit % 65536) l l j
  unfolding row_colour
  wide_joined zero h = refl
  wide_joined (suc zero) h = refl
  wide_joined (suc (suc zero)) h = refl
  wide_joined (suc (suc (suc zero))) h = refl
  wide_joined (suc (suc (suc (suc zero)))) h = third
  wide_joined (suc (suc (suc (suc (suc zero))))) h = third
  wide_joined (suc (suc (suc (suc (suc (suc zero)))))) h = fourth
  wide_joined (suc (suc (suc (suc (suc (suc (suc zero))))))) h = fourth
  wide_joined (suc (suc (suc (suc (suc (suc (suc (suc j)))))))) h = absurd (let z : ⊥ = omega arith in z)
