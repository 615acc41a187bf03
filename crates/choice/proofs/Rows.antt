-- An 8x8 tested row by row: what a row that is tested says of the whole, and the pixels that it is compared with.
-- Assumes nothing.
use mathlib.Core.Path.{◌≡◌, refl, sym, ap, ◌∙◌}
use mathlib.Core.Bool.{Bool, true, false, cond}
use mathlib.Core.List.{List}
use Prim.Native.Nat.{ℕ, zero, suc, ◌+◌, ◌-◌, ◌*◌, ◌/◌, ◌%◌, ◌^◌, ◌≤◌, ◌<◌}
use native.Mathlib.Nat.{mul-le-mul_right, add-mul, zero-mul, mul-zero}
use native.Mathlib.Decide.{dec_lt}
use native.Mathlib.Omega.{arith}
use lib.Dec.{eqb}
use lib.ListN.{length, get_or, take, drop, length-drop}
use Rattle.std.proofs.lemmas.List.{length-take, get_or-take, get_or-drop}
use borrow.Author.Tests.{eqb-true, eqb-false, eq-eqb, ne_eqb}
use Rattle.block.specs.Block.{cell_source, dither_source}
use Rattle.paint.specs.Asked.{Square}
use Rattle.choice.specs.Choice.{pixel_at, first_differing, same_to, same_all, cell_first, by_cells, by_dither, celled_by, dithered_by, other, two_colours}
use Rattle.choice.specs.Asked.{Cells, Row, byte_at}
use Rattle.choice.proofs.First.{by_bool, Alike, alike_more, to_at, to_is, to_not, to_some, differ_at, differ_none, raster_at}

-- ---- a row of eight

module _ (row g : ℕ → ℕ) (j u v : ℕ) (h : Alike row g j) (eu : u ≡ row j) (ev : v ≡ g j) where
  pub row_next : u ≡ v → Alike row g (j + 1)
  row_next e = alike_more row g j (j + 1) h (omega arith) (sym eu ∙ e ∙ ev)

  pub row_fails : j < 8 → (u ≡ v → ⊥) → false ≡ same_to 8 row g
  row_fails l n = sym (to_not row g 8 j l (λ e. n (eu ∙ e ∙ sym ev)))

pub row_all : (row g : ℕ → ℕ) (j : ℕ) → Alike row g j → 8 ≤ j → true ≡ same_to 8 row g
row_all row g j h l = sym (to_is row g 8 (record { at = λ i q. h.at i (omega arith) }))

-- ---- the rows of an 8x8

module _ (f G : ℕ → ℕ) (r : ℕ) (row g : ℕ → ℕ) (hr : r < 8) (er : (j : ℕ) → j < 8 → row j ≡ f (8 * r + j)) (eg : (j : ℕ) → j < 8 → g j ≡ G (8 * r + j)) (t : Bool)
    (e : t ≡ same_to 8 row g) where
  pub rows_next : t ≡ true → Alike f G (8 * r) → Alike f G (8 * (r + 1))
  rows_next q h = record { at = λ i l. by i l (dec_lt i (8 * r)) }
    where
      by : (i : ℕ) → i < 8 * (r + 1) → Dec (i < 8 * r) → f i ≡ G i
      by i l (yes m) = h.at i m
      by i l (no m) =
          let j = i - 8 * r in
          let k : j < 8 = omega arith in
          let n : i ≡ 8 * r + j = omega arith in
          ap f n ∙ sym (er j k) ∙ to_at row g 8 (sym e ∙ q) j k ∙ eg j k ∙ ap G (sym n)

  pub rows_fail : t ≡ false → false ≡ same_all f G
  rows_fail q =
      let s = to_some row g 8 (sym e ∙ q) in
      sym (to_not f G 64 (8 * r + s.0) (omega (arith, s.1)) (λ z. s.2 (er s.0 s.1 ∙ z ∙ sym (eg s.0 s.1))))

pub rows_all : (f G : ℕ → ℕ) (r : ℕ) → Alike f G (8 * r) → 8 ≤ r → true ≡ same_all f G
rows_all f G r h l = sym (to_is f G 64 (record { at = λ i q. h.at i (omega arith) }))

-- ---- a row as code has it

pub row_inside : (w x y long : ℕ) → Square w x y long → (r : ℕ) → r < 8 → (y + r) * w + x + 8 ≤ long
row_inside w x y long q r hr =
    let a : y + r + 1 ≤ y + 8 = omega arith in
    omega (arith, q.across, q.room, mul-le-mul_right w a, add-mul (y + r) 1 w)

pub row_is : (a : List ℕ) (w x y r from n : ℕ) → from ≡ (y + r) * w + x → n ≡ 8 → from + 8 ≤ length a → Row (pixel_at a w x y) r (take n (drop from a))
row_is a w x y r from n e m h =
    record {
      long = simp (length-take, length-drop) (omega arith);
      at = λ j l. rw (get_or-take n (drop from a) j 0 (omega arith), get_or-drop from a j 0) (ap (λ (k : ℕ). get_or a k 0) (raster_at w x y r j from (8 * r + j) l e refl));
    }

-- ---- cells

-- the first pixel of the cell of pixel j of row r
pub record Corner (e side r j : ℕ) : Type 0 where
  pub row : r / 2 ^ e * side < 8
  pub column : j / 2 ^ e * side < 8
  pub is : 8 * (r / 2 ^ e * side) + j / 2 ^ e * side ≡ cell_first side (cell_source side (8 * r + j))

corner_of : (e : ℕ) → e ≤ 3 → (r j : ℕ) → r < 8 → j < 8 → Corner e (2 ^ e) r j
unfolding cell_source cell_first
corner_of zero h r j hr hj =
    let a : (8 * r + j) / 8 ≡ r = omega arith in
    let b : (8 * r + j) % 8 ≡ j = omega arith in
    record { row = omega arith; column = omega arith; is = rw (a, b) (omega arith) }
corner_of (suc zero) h r j hr hj =
    let a : (8 * r + j) / 8 ≡ r = omega arith in
    let b : (8 * r + j) % 8 ≡ j = omega arith in
    record { row = omega arith; column = omega arith; is = rw (a, b) (omega arith) }
corner_of (suc (suc zero)) h r j hr hj =
    let a : (8 * r + j) / 8 ≡ r = omega arith in
    let b : (8 * r + j) % 8 ≡ j = omega arith in
    record { row = omega arith; column = omega arith; is = rw (a, b) (omega arith) }
corner_of (suc (suc (suc zero))) h r j hr hj =
    let a : (8 * r + j) / 8 ≡ r = omega arith in
    let b : (8 * r + j) % 8 ≡ j = omega arith in
    record { row = omega arith; column = omega arith; is = rw (a, b) (omega arith) }
corner_of (suc (suc (suc (suc e)))) h r j hr hj = absurd (let z : ⊥ = omega arith in z)

pub corner : (e side : ℕ) → Cells e side → (r j : ℕ) → r < 8 → j < 8 → Corner e side r j
corner e side c r j hr hj = rw c.power (corner_of e c.few r j hr hj)

-- what the pixels of a row are compared with
pub cells_row : (f : ℕ → ℕ) (e side r : ℕ) (top : List ℕ) → Cells e side → r < 8 → Row f (r / 2 ^ e * side) top → (j : ℕ) → j < 8
    → byte_at top (j / 2 ^ e * side) ≡ by_cells side f (8 * r + j)
unfolding by_cells
cells_row f e side r top c hr p j hj =
    let k = corner e side c r j hr hj in
    p.at (j / 2 ^ e * side) k.column ∙ ap f k.is

-- cells of four pixels are of two as well
four_low : (i : ℕ) → i < 64 → cell_first 2 (cell_source 2 i) < 64
unfolding cell_first cell_source
four_low i h = omega arith

wide_at : (r j : ℕ) → r < 8 → j < 8 → cell_first 4 (cell_source 4 (8 * r + j)) ≡ cell_first 4 (cell_source 4 (cell_first 2 (cell_source 2 (8 * r + j))))
wide_at r j hr hj =
    let a = corner_of 1 (omega arith) r j hr hj in
    let b = corner_of 2 (omega arith) r j hr hj in
    let d = corner_of 2 (omega arith) (r / 2 * 2) (j / 2 * 2) a.row a.column in
    let x : r / 4 ≡ r / 2 * 2 / 4 = omega arith in
    let y : j / 4 ≡ j / 2 * 2 / 4 = omega arith in
    let n : 8 * (r / 4 * 4) + j / 4 * 4 ≡ 8 * (r / 2 * 2 / 4 * 4) + j / 2 * 2 / 4 * 4 = rw (x, y) in
    sym b.is ∙ n ∙ d.is ∙ ap (λ (k : ℕ). cell_first 4 (cell_source 4 k)) a.is

four_wide : (i : ℕ) → i < 64 → cell_first 4 (cell_source 4 i) ≡ cell_first 4 (cell_source 4 (cell_first 2 (cell_source 2 i)))
four_wide i h =
    let e : 8 * (i / 8) + i % 8 ≡ i = omega arith in
    rw e at (wide_at (i / 8) (i % 8) (omega arith) (omega arith))

four_two : (f : ℕ → ℕ) → celled_by 4 f ≡ true → celled_by 2 f ≡ true
unfolding celled_by by_cells
four_two f e =
    to_is f _ 64
    (record { at = λ i h. to_at f _ 64 e i h ∙ ap f (four_wide i h) ∙ sym (to_at f _ 64 e (cell_first 2 (cell_source 2 i)) (four_low i h)) })

-- and where those of two are not, those of four are not
pub no_four : (f : ℕ → ℕ) → false ≡ celled_by 2 f → celled_by 4 f ≡ false
no_four f q = by_bool (λ x. celled_by 4 f ≡ x → x ≡ false) (celled_by 4 f) (λ _ g. absurd (let z : ◌≡◌ {A = ℕ} 0 1 = (let y : true ≡ false = sym (four_two f g) ∙ sym q in cc) in let w : ⊥ = omega arith in w)) (λ _ _. refl) refl

-- ---- two 8x8

pub other_pixel : (f g : ℕ → ℕ) (r j : ℕ) (s t : List ℕ) → Row f r s → Row g r t → j < 8 → Alike f g (8 * r + j) → r < 8 → (byte_at s j ≡ byte_at t j → ⊥)
    → 8 * r + j ≡ first_differing f g
other_pixel f g r j s t p q hj h hr n = differ_at f g (8 * r + j) h (omega arith) (λ e. n (p.at j hj ∙ e ∙ sym (q.at j hj)))

pub no_row : (f g : ℕ → ℕ) (r found : ℕ) → found ≡ 64 → Alike f g (8 * r) → 8 ≤ r → found ≡ first_differing f g
no_row f g r found e h l = e ∙ differ_none f g (8 * r) h (omega arith)

-- ---- two in turn

turn_by : (f : ℕ → ℕ) (r u v : ℕ) → u ≡ f (r % 2) → v ≡ f ((r + 1) % 2) → (j : ℕ) → cond (eqb (j % 2) 0) u v ≡ f ((r + j) % 2)
turn_by f r u v eu ev j =
    by_bool (λ t. cond t u v ≡ f ((r + j) % 2)) (eqb (j % 2) 0)
    (λ q. let z : j % 2 ≡ 0 = eqb-true _ _ q in let a : r % 2 ≡ (r + j) % 2 = omega arith in eu ∙ ap f a)
    (λ q. let z = eqb-false (j % 2) 0 q in let o : j % 2 ≡ 1 = odd (j % 2) (omega arith) z in let a : (r + 1) % 2 ≡ (r + j) % 2 = omega arith in ev ∙ ap f a)
  where
    odd : (n : ℕ) → n < 2 → (n ≡ 0 → ⊥) → n ≡ 1
    odd n h z = omega arith

pub turn_row : (f : ℕ → ℕ) (r u v : ℕ) → u ≡ f (r % 2) → v ≡ f ((r + 1) % 2) → (j : ℕ) → j < 8 → cond (eqb (j % 2) 0) u v ≡ by_dither f (8 * r + j)
unfolding by_dither dither_source
turn_row f r u v eu ev j h =
    let a : (8 * r + j) / 8 ≡ r = omega arith in
    let b : (8 * r + j) % 8 ≡ j = omega arith in
    rw (a, b) (turn_by f r u v eu ev j)

pub turn_next : (f : ℕ → ℕ) (r u : ℕ) → u ≡ f (r % 2) → u ≡ f ((r + 1 + 1) % 2)
turn_next f r u e = let a : (r + 1 + 1) % 2 ≡ r % 2 = omega arith in rw a e

-- two of a row, 2 i and 2 i + 1
module _ (row : List ℕ) (u v i : ℕ) (h : Alike (byte_at row) (λ j. cond (eqb (j % 2) 0) u v) (2 * i)) where
  turn_first : u ≡ cond (eqb (2 * i % 2) 0) u v
  turn_first = let e : 2 * i % 2 ≡ 0 = omega arith in rw (eq-eqb (2 * i % 2) 0 e)

  turn_second : v ≡ cond (eqb ((2 * i + 1) % 2) 0) u v
  turn_second = rw (ne_eqb ((2 * i + 1) % 2) 0 (λ (q : (2 * i + 1) % 2 ≡ 0). let z : ⊥ = omega arith in z))

  pub turn_fails : i < 4 → (byte_at row (2 * i) ≡ u → ⊥) → false ≡ same_to 8 (byte_at row) (λ j. cond (eqb (j % 2) 0) u v)
  turn_fails l n = row_fails (byte_at row) (λ j. cond (eqb (j % 2) 0) u v) (2 * i) _ u h refl turn_first (omega arith) n

  module _ (e : byte_at row (2 * i) ≡ u) where
    one_more : Alike (byte_at row) (λ j. cond (eqb (j % 2) 0) u v) (2 * i + 1)
    one_more = row_next (byte_at row) (λ j. cond (eqb (j % 2) 0) u v) (2 * i) _ u h refl turn_first e

    pub turn_fails_2 : i < 4 → (byte_at row (2 * i + 1) ≡ v → ⊥) → false ≡ same_to 8 (byte_at row) (λ j. cond (eqb (j % 2) 0) u v)
    turn_fails_2 l n = row_fails (byte_at row) (λ j. cond (eqb (j % 2) 0) u v) (2 * i + 1) _ v one_more refl turn_second (omega arith) n

-- ---- two colours

-- what a pixel has to be: pixel 0's colour where it has it, else the other
unfoldable pub of_two : (ℕ → ℕ) → ℕ → ℕ
of_two f i = cond (eqb (f i) (f 0)) (f 0) (other f)

colours_row : (f row : ℕ → ℕ) (r z o : ℕ) → z ≡ f 0 → o ≡ other f → ((j : ℕ) → j < 8 → row j ≡ f (8 * r + j)) → (j : ℕ) → j < 8
    → cond (eqb (row j) z) z o ≡ of_two f (8 * r + j)
unfolding of_two
colours_row f row r z o ez eo er j h = rw (er j h, ez, eo)

-- two bytes are the same where they are not apart
apart_none : (u v r : ℕ) → u < 256 → v < 256 → r ≡ (v + 256 - u) % 256 → (r ≡ 0 → v ≡ u) × (v ≡ u → r ≡ 0)
apart_none u v r a b e = (λ z. omega arith, λ q. omega arith)

-- a and b: how far v is apart from both
module _ (v z o a b : ℕ) (lv : v < 256) (lz : z < 256) (lo : o < 256) (ea : a ≡ (v + 256 - z) % 256) (eb : b ≡ (v + 256 - o) % 256) where
  pub of_neither : (a * b ≡ 0 → ⊥) → v ≡ cond (eqb v z) z o → ⊥
  of_neither n =
      by_bool (λ t. v ≡ cond t z o → ⊥) (eqb v z)
      (λ _ q. n (rw ((apart_none z v a lz lv ea).1 q) (zero-mul b))) (λ _ q. n (rw ((apart_none o v b lo lv eb).1 q) (mul-zero a)))

-- ---- the other colour

module _ (f : ℕ → ℕ) (z : ℕ) (e : z ≡ f 0) where
  pub other_found : (i v : ℕ) → Alike f (λ j. f 0) i → i < 64 → v ≡ f i → (v ≡ z → ⊥) → v ≡ other f
  unfolding other
  other_found i v h l q n =
      let r = differ_at f (λ j. f 0) i h l (λ g. n (q ∙ g ∙ sym e)) in
      rw (ne_eqb _ 64 (past i l r), ← r) q
    where
      past : (i : ℕ) {m : ℕ} → i < 64 → i ≡ m → m ≡ 64 → ⊥
      past i l e q = omega arith

  pub other_none : (i : ℕ) → Alike f (λ j. f 0) i → 64 ≤ i → z ≡ other f
  unfolding other
  other_none i h l = rw (← differ_none f (λ j. f 0) i h l) e

-- ---- the loops over the rows of an 8x8

module _ (f : ℕ → ℕ) (r : ℕ) (hr : r < 8) (row : List ℕ) (q : Row f r row) where
  module _ (e side : ℕ) (c : Cells e side) (top : List ℕ) (p : Row f (r / 2 ^ e * side) top) (t : Bool) (h : t ≡ same_to 8 (byte_at row) (λ j. byte_at top (j / 2 ^ e * side))) where
    pub cells_next : t ≡ true → Alike f (by_cells side f) (8 * r) → Alike f (by_cells side f) (8 * (r + 1))
    cells_next = rows_next f (by_cells side f) r (byte_at row) (λ j. byte_at top (j / 2 ^ e * side)) hr q.at (cells_row f e side r top c hr p) t h

    pub cells_fail : t ≡ false → false ≡ celled_by side f
    unfolding celled_by
    cells_fail = rows_fail f (by_cells side f) r (byte_at row) (λ j. byte_at top (j / 2 ^ e * side)) hr q.at (cells_row f e side r top c hr p) t h

  module _ (u v : ℕ) (eu : u ≡ f (r % 2)) (ev : v ≡ f ((r + 1) % 2)) (t : Bool) (h : t ≡ same_to 8 (byte_at row) (λ j. cond (eqb (j % 2) 0) u v)) where
    pub dither_next : t ≡ true → Alike f (by_dither f) (8 * r) → Alike f (by_dither f) (8 * (r + 1))
    dither_next = rows_next f (by_dither f) r (byte_at row) (λ j. cond (eqb (j % 2) 0) u v) hr q.at (turn_row f r u v eu ev) t h

    pub dither_fail : t ≡ false → false ≡ dithered_by f
    unfolding dithered_by
    dither_fail = rows_fail f (by_dither f) r (byte_at row) (λ j. cond (eqb (j % 2) 0) u v) hr q.at (turn_row f r u v eu ev) t h

  module _ (z o : ℕ) (ez : z ≡ f 0) (eo : o ≡ other f) (t : Bool) (h : t ≡ same_to 8 (byte_at row) (λ j. cond (eqb (byte_at row j) z) z o)) where
    pub colours_next : t ≡ true → Alike f (of_two f) (8 * r) → Alike f (of_two f) (8 * (r + 1))
    colours_next = rows_next f (of_two f) r (byte_at row) (λ j. cond (eqb (byte_at row j) z) z o) hr q.at (colours_row f (byte_at row) r z o ez eo q.at) t h

    pub colours_fail : t ≡ false → false ≡ two_colours f
    unfolding two_colours of_two
    colours_fail = rows_fail f (of_two f) r (byte_at row) (λ j. cond (eqb (byte_at row j) z) z o) hr q.at (colours_row f (byte_at row) r z o ez eo q.at) t h

pub cells_all : (f : ℕ → ℕ) (side r : ℕ) → Alike f (by_cells side f) (8 * r) → 8 ≤ r → true ≡ celled_by side f
unfolding celled_by
cells_all f side r h l = rows_all f (by_cells side f) r h l

pub dither_all : (f : ℕ → ℕ) (r : ℕ) → Alike f (by_dither f) (8 * r) → 8 ≤ r → true ≡ dithered_by f
unfolding dithered_by
dither_all f r h l = rows_all f (by_dither f) r h l

pub colours_all : (f : ℕ → ℕ) (r : ℕ) → Alike f (of_two f) (8 * r) → 8 ≤ r → true ≡ two_colours f
unfolding two_colours of_two
colours_all f r h l = rows_all f (of_two f) r h l
