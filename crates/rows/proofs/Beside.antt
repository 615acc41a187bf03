-- Pixels stored side by side: each store is the list's next, and together they are so many pixels more.
-- Assumes nothing.
use mathlib.Core.Path.{◌≡◌, refl, sym, ap, ◌∙◌}
use mathlib.Core.List.{List, ◌++◌}
use Prim.Native.Nat.{ℕ, zero, suc, ◌+◌, ◌<◌}
use native.Mathlib.Nat.{add-zero}
use native.Mathlib.Omega.{arith}
use lib.ListN.{length, get_or, set, get_or-append}
use lib.Seq.{get_or-append-add}
use Rattle.stores.specs.Stores.{Plan, further}
use Rattle.stores.specs.Loop.{Next}
use Rattle.stores.proofs.Order.{further_add, begun_further, further_long}
use Rattle.paint.proofs.Painting.{Painting, painting_start, painting_more, painting_end, painting_length, painting_begun}
use Rattle.rows.specs.Row.{colours, Beside}

-- ---- one after another

module _ {d : Plan} {p n : ℕ} {b₀ : List ℕ} {to : ℕ} {value : ℕ → ℕ} (r : Beside d p n b₀ to value) where
  -- j of them are stored
  module _ (j : ℕ) (h : j < n) (b : List ℕ) (g : Painting d p b₀ n b j) where
    pub beside_value : value j ≡ d.value 0 (p + j) b
    beside_value = r.values j h ∙ ap (d.value 0 (p + j)) (sym g.made)

    pub beside_next : (i at v : ℕ) → i ≡ p + j → at ≡ to + j → v ≡ value j → Next d 0 i b at v
    beside_next i at v ei ea ev =
        rw ei
        (record {
          begun = painting_begun d p b₀ n b j g r.begun;
          listed = omega (arith, r.listed);
          target = ea ∙ r.targets j h;
          value = ev ∙ beside_value;
          inside = omega (arith, r.inside, painting_length d p b₀ n b j g);
        })

    pub beside_more : (at v : ℕ) (b' : List ℕ) → at ≡ to + j → v ≡ value j → b' ≡ set b at v → Painting d p b₀ n b' (j + 1)
    beside_more at v b' ea ev e = painting_more d p b₀ n b j g h b' at v (ea ∙ r.targets j h) (ev ∙ beside_value) e

-- ---- four

module _ {d : Plan} {p : ℕ} {b₀ : List ℕ} {to u₁ u₂ u₃ u₄ : ℕ} (r : Beside d p 4 b₀ to (λ i. get_or (colours u₁ u₂ u₃ u₄) i 0)) where
  pub four_1 : Next d 0 p b₀ to u₁
  four_1 = beside_next r 0 (omega arith) b₀ (painting_start d p b₀ 4) p to u₁ (sym (add-zero p)) (sym (add-zero to)) refl

  module _ {b₁ : List ℕ} (e₁ : b₁ ≡ set b₀ to u₁) where
    g₁ : Painting d p b₀ 4 b₁ 1
    g₁ = beside_more r 0 (omega arith) b₀ (painting_start d p b₀ 4) to u₁ b₁ (sym (add-zero to)) refl e₁

    pub four_2 : Next d 0 (p + 1) b₁ (to + 1) u₂
    four_2 = beside_next r 1 (omega arith) b₁ g₁ (p + 1) (to + 1) u₂ refl refl refl

    module _ {b₂ : List ℕ} (e₂ : b₂ ≡ set b₁ (to + 1) u₂) where
      g₂ : Painting d p b₀ 4 b₂ 2
      g₂ = beside_more r 1 (omega arith) b₁ g₁ (to + 1) u₂ b₂ refl refl e₂

      pub four_3 : Next d 0 (p + 2) b₂ (to + 2) u₃
      four_3 = beside_next r 2 (omega arith) b₂ g₂ (p + 2) (to + 2) u₃ refl refl refl

      module _ {b₃ : List ℕ} (e₃ : b₃ ≡ set b₂ (to + 2) u₃) where
        g₃ : Painting d p b₀ 4 b₃ 3
        g₃ = beside_more r 2 (omega arith) b₂ g₂ (to + 2) u₃ b₃ refl refl e₃

        pub four_4 : Next d 0 (p + 3) b₃ (to + 3) u₄
        four_4 = beside_next r 3 (omega arith) b₃ g₃ (p + 3) (to + 3) u₄ refl refl refl

        pub four_made : {b₄ : List ℕ} → b₄ ≡ set b₃ (to + 3) u₄ → b₄ ≡ further d 0 b₀ p 4
        four_made {b₄} e₄ =
            painting_end d p b₀ 4 b₄ 4 (beside_more r 3 (omega arith) b₃ g₃ (to + 3) u₄ b₄ refl refl e₄) (omega arith)

-- ---- twice four

module _ {d : Plan} {p : ℕ} {b : List ℕ} {to : ℕ} (l m : List ℕ) (long : length l ≡ 4) (r : Beside d p 8 b to (λ i. get_or (l ++ m) i 0)) where
  pub left_four : Beside d p 4 b to (λ i. get_or l i 0)
  left_four =
      record {
        begun = r.begun;
        listed = omega (arith, r.listed);
        targets = λ i h. r.targets i (omega arith);
        values = λ i h. sym (get_or-append l m 0 i (omega (arith, long))) ∙ r.values i (omega arith);
        inside = omega (arith, r.inside);
      }

  module _ {b' : List ℕ} (e : b' ≡ further d 0 b p 4) where
    pub right_four : Beside d (p + 4) 4 b' (to + 4) (λ i. get_or m i 0)
    right_four =
        record {
          begun = begun_further d 0 p 4 b b' r.begun e;
          listed = omega (arith, r.listed);
          targets = λ i h. let f : (to + 4) + i ≡ to + (4 + i) = omega arith in
              let k : p + (4 + i) ≡ (p + 4) + i = omega arith in f ∙ r.targets (4 + i) (omega arith) ∙ ap (d.target 0) k;
          values = values';
          inside = omega (arith, r.inside, ap length e, further_long d 0 b p 4);
        }
      where
        values' : (i : ℕ) → i < 4 → get_or m i 0 ≡ d.value 0 ((p + 4) + i) (further d 0 b' (p + 4) i)
        values' i h =
            let k : p + (4 + i) ≡ (p + 4) + i = omega arith in
            let z : further d 0 b p (4 + i) ≡ further d 0 b' (p + 4) i =
            further_add d 0 b p 4 i ∙ ap (λ (c : List ℕ). further d 0 c (p + 4) i) (sym e) in
            sym (get_or-append-add l m i 0) ∙ ap (λ (n : ℕ). get_or (l ++ m) (n + i) 0) long ∙ r.values (4 + i) (omega arith)
            ∙ ap (d.value 0 (p + (4 + i))) z
            ∙ ap (λ (n : ℕ). d.value 0 n (further d 0 b' (p + 4) i)) k

    pub eight_made : {b'' : List ℕ} → b'' ≡ further d 0 b' (p + 4) 4 → b'' ≡ further d 0 b p 8
    eight_made f = f ∙ ap (λ (c : List ℕ). further d 0 c (p + 4) 4) e ∙ sym (further_add d 0 b p 4 4)

-- ---- eight that are read before the first is stored

-- eight colours that are f 0 to f 7
pub record Eight (f : ℕ → ℕ) (a b c d e g h i : ℕ) : Type 0 where
  pub first : a ≡ f 0
  pub second : b ≡ f 1
  pub third : c ≡ f 2
  pub fourth : d ≡ f 3
  pub fifth : e ≡ f 4
  pub sixth : g ≡ f 5
  pub seventh : h ≡ f 6
  pub eighth : i ≡ f 7

module _ (f : ℕ → ℕ) {u₁ u₂ u₃ u₄ u₅ u₆ u₇ u₈ : ℕ} (q : Eight f u₁ u₂ u₃ u₄ u₅ u₆ u₇ u₈) where
  element : (i : ℕ) → i < 8 → get_or (colours u₁ u₂ u₃ u₄ ++ colours u₅ u₆ u₇ u₈) i 0 ≡ f i
  element zero h = q.first
  element (suc zero) h = q.second
  element (suc (suc zero)) h = q.third
  element (suc (suc (suc zero))) h = q.fourth
  element (suc (suc (suc (suc zero)))) h = q.fifth
  element (suc (suc (suc (suc (suc zero))))) h = q.sixth
  element (suc (suc (suc (suc (suc (suc zero)))))) h = q.seventh
  element (suc (suc (suc (suc (suc (suc (suc zero))))))) h = q.eighth
  element (suc (suc (suc (suc (suc (suc (suc (suc i)))))))) h = absurd (past i h)
    where
      past : (i : ℕ) → suc (suc (suc (suc (suc (suc (suc (suc i))))))) < 8 → ⊥
      past i h = omega arith

  pub eight_read : {d : Plan} {p : ℕ} {b : List ℕ} {to : ℕ} → Beside d p 8 b to f → Beside d p 8 b to (λ i. get_or (colours u₁ u₂ u₃ u₄ ++ colours u₅ u₆ u₇ u₈) i 0)
  eight_read r = record { begun = r.begun; listed = r.listed; targets = r.targets; values = λ i h. element i h ∙ r.values i h; inside = r.inside }

-- the first of those that f reads from index from on
pub read_first : (f : ℕ → ℕ) (from : ℕ) → f from ≡ f (from + 0)
read_first f from = ap f (sym (add-zero from))
