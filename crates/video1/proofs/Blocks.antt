-- The pixels of a block, row by row from the bottom up: where a row stands, which bytes give its pixels, and the loop over rows.
-- Assumes nothing.
use mathlib.Core.Path.{◌≡◌, refl, sym, ap, ◌∙◌}
use mathlib.Core.List.{List}
use Prim.Native.Nat.{ℕ, ◌+◌, ◌-◌, ◌*◌, ◌/◌, ◌%◌, ◌^◌, ◌≤◌, ◌<◌}
use native.Mathlib.Nat.{mul-le-mul, mul-le-mul_right, add-mul, add-zero, zero-add, zero-mul, mod-lt}
use native.Mathlib.Omega.{arith}
use lib.ListN.{length, get_or}
use Rattle.packet.specs.Packet.{pixels}
use Rattle.packet.proofs.Grid.{row_below}
use Rattle.stores.specs.Stores.{Plan, first_pixels, further}
use Rattle.stores.proofs.Order.{further_first, begun_none}
use Rattle.paint.proofs.Painting.{Painting, painting_start, painting_by, painting_end, painting_length, painting_begun}
use Rattle.rows.specs.Row.{Beside}
use Rattle.video1.specs.declared.Code.{Code}
use Rattle.video1.specs.declared.Code.TheVariants.{Skip, Two, Eight, One}
use Rattle.video1.specs.Code.{code_at, long_of, stores_of, flag, quad, source_of}
use Rattle.video1.specs.Frame.{block_count, spot, block_plan}
use Rattle.video1.specs.Asked.{Sized, below_of, Paints, Rowed, pair_source, Paired}
use Rattle.video1.proofs.Walk.{long_some}

-- ---- where a row stands

-- the index below pixel p of block k, the first of a row
abbrev pub over_row : ℕ → ℕ → ℕ → ℕ → ℕ
over_row columns rows k p = (8 * rows - (4 * (k / (2 * columns)) + p / 4)) * (8 * columns) + 4 * (k % (2 * columns))

pub over_first : (columns rows k below : ℕ) → below ≡ below_of columns rows k → below ≡ over_row columns rows k 0
unfolding below_of
over_first columns rows k below e = let z : 4 * (k / (2 * columns)) ≡ 4 * (k / (2 * columns)) + 0 / 4 = omega arith in e ∙ rw (← z)

-- a row less, of A + 1
one_less : (a w : ℕ) → (a + 1) * w ≡ a * w + w
one_less a w = omega (arith, add-mul a 1 w)

module _ (columns rows k : ℕ) (z : Sized columns rows) (h : k < block_count columns rows) (p to : ℕ) (l : p < 16) (m : p % 4 ≡ 0) (e : to ≡ over_row columns rows k p) where
  some : 0 < 2 * columns
  some = omega (arith, z.some_columns)

  up : ℕ
  up = 8 * rows - 1 - (4 * (k / (2 * columns)) + p / 4)

  low : 4 * (k / (2 * columns)) + p / 4 < 8 * rows
  low = omega (arith, row_below (2 * columns) (2 * rows) k some h)

  row_is : to ≡ up * (8 * columns) + 8 * columns + 4 * (k % (2 * columns))
  unfolding up
  row_is =
      let q : 8 * rows - (4 * (k / (2 * columns)) + p / 4) ≡ up + 1 = omega (arith, low) in
      e ∙ ap (λ (a : ℕ). a * (8 * columns) + 4 * (k % (2 * columns))) q ∙ omega (arith, one_less up (8 * columns))

  pub row_enough : 8 * columns ≤ to
  row_enough = omega (arith, row_is)

  pub row_spots : (i : ℕ) → i < 4 → to - 8 * columns + i ≡ spot columns rows k (p + i)
  unfolding spot up
  row_spots i q =
      let a : (p + i) / 4 ≡ p / 4 = omega arith in
      let b : (p + i) % 4 ≡ i = omega arith in
      rw (a, b) (omega (arith, row_is))

  pub row_next : to - 8 * columns ≡ over_row columns rows k (p + 4)
  unfolding up
  row_next =
      let a : 8 * rows - (4 * (k / (2 * columns)) + (p + 4) / 4) ≡ up = omega arith in
      rw a (omega (arith, row_is))

  pub row_inside : to - 8 * columns + 4 ≤ pixels columns rows
  unfolding up
  row_inside =
      let a : up + 1 ≤ 8 * rows = omega (arith, low) in
      omega (arith, row_is, mul-le-mul_right (8 * columns) a, one_less up (8 * columns), mod-lt k some)

-- ---- the bytes that give its pixels

quad_few : (i : ℕ) → i < 16 → quad i ≤ 3
unfolding quad
quad_few i h = omega arith

pair_few : (step f i : ℕ) → i < 16 → pair_source step f i < 4 + 3 * step
unfolding pair_source
pair_few step f i h =
    let c : step ≤ step = omega arith in
    let e : step * quad i ≤ step * 3 = mul-le-mul c (quad_few i h) in
    omega arith

-- r: such a byte, as code found it. f: the byte where the flags of the row's pixels stand
pub pair_value : (s : List ℕ) (at step p j f r : ℕ) → f ≡ get_or s (at + p / 8) 0 → r ≡ pair_source step f (p + j)
    → get_or s (at + r) 0 ≡ get_or s (at + pair_source step (get_or s (at + p / 8) 0) (p + j)) 0
pair_value s at step p j f r ef er = rw (er, ef)

pub pair_inside : (s : List ℕ) (at step f i r : ℕ) → Paired s at step → at + 4 + 3 * step ≤ length s → i < 16 → r ≡ pair_source step f i → at + r < length s
pair_inside s at step f i r p l h e = omega (arith, pair_few step f i h, e)

module _ (s : List ℕ) (at : ℕ) where
  pub pairs_two : code_at s at ≡ Two → Paired s at 0
  unfolding pair_source source_of flag long_of stores_of
  pairs_two e =
      record {
        few = omega arith;
        long = rw e (omega arith);
        stores = rw e;
        each = λ i h. rw (e, zero-mul (quad i), zero-add (1 - get_or s (at + i / 8) 0 / 2 ^ (i % 8) % 2));
      }

  pub pairs_eight : code_at s at ≡ Eight → Paired s at 2
  unfolding pair_source source_of flag long_of stores_of
  pairs_eight e = record { few = omega arith; long = rw e (omega arith); stores = rw e; each = λ i h. rw e }

-- ---- a row

-- a code stores 16 pixels of a block or none
pub stores_all : (c : Code) (p : ℕ) → p < stores_of c → stores_of c ≡ 16
unfolding stores_of
stores_all (Skip n) p h = absurd (let z : ⊥ = omega arith in z)
stores_all Two p h = refl
stores_all Eight p h = refl
stores_all One p h = refl

-- which are few
pub few_stores : (c : Code) → stores_of c ≤ 64
unfolding stores_of
few_stores (Skip n) = omega arith
few_stores Two = omega arith
few_stores Eight = omega arith
few_stores One = omega arith

-- or four rows of them, or none
rows_whole : (c : Code) → 4 * (stores_of c / 4) ≡ stores_of c
unfolding stores_of
rows_whole (Skip n) = refl
rows_whole Two = refl
rows_whole Eight = refl
rows_whole One = refl

pub counted : (s : List ℕ) (at row n : ℕ) (c : Code) → n ≡ stores_of c → c ≡ code_at s at → row < n / 4 → 4 * row < stores_of (code_at s at)
counted s at row n c e q h = let z : n ≡ stores_of (code_at s at) = e ∙ ap stores_of q in omega arith

pub all_rows : (row n : ℕ) (c : Code) → n ≡ stores_of c → n / 4 ≤ row → n ≤ 4 * row
all_rows row n c e h = let z : 4 * (n / 4) ≡ n = rw e (rows_whole c) in omega arith

module _ {d : Plan} {s : List ℕ} {at p : ℕ} {b : List ℕ} {to : ℕ} (r : Rowed d s at p b to) where
  row_stores : stores_of (code_at s at) ≡ 16
  row_stores = stores_all (code_at s at) p (omega (arith, r.beside.listed, r.size))

  pub row_low : p + 4 ≤ 16
  row_low = omega (arith, r.beside.listed, r.size, row_stores)

  pub row_there : at < length s
  row_there = omega (arith, r.there, long_some (code_at s at))

  -- no row is under a skip
  pub row_not_skip : (n : ℕ) → code_at s at ≡ Skip n → ⊥
  unfolding stores_of
  row_not_skip n c = let z : stores_of (code_at s at) ≡ 0 = rw c in omega (arith, row_stores)

  row_gives : (value : ℕ → ℕ) → ((i : ℕ) → i < 4 → value i ≡ get_or s (at + source_of (code_at s at) s at (p + i)) 0)
      → Beside d p 4 b to value
  row_gives value vs =
      record { begun = r.beside.begun; listed = r.beside.listed; targets = r.beside.targets; values = λ i q. vs i q ∙ r.beside.values i q; inside = r.beside.inside }

  -- of one colour, and of pairs
  pub one_beside : code_at s at ≡ One → (v : ℕ) → v ≡ get_or s at 0 → Beside d p 4 b to (λ i. v)
  unfolding source_of
  one_beside c v e = row_gives (λ i. v) (λ i q. e ∙ rw (c, add-zero at))

  pub pairs_there : (step : ℕ) → Paired s at step → at + 4 + 3 * step ≤ length s
  pairs_there step c = omega (arith, r.there, c.long)

  pub pairs_beside : (step : ℕ) → Paired s at step
      → Beside d p 4 b to (λ i. get_or s (at + pair_source step (get_or s (at + p / 8) 0) (p + i)) 0)
  pairs_beside step c =
      row_gives (λ i. get_or s (at + pair_source step (get_or s (at + p / 8) 0) (p + i)) 0)
      (λ i q.
      let d : p / 8 ≡ (p + i) / 8 = omega (arith, r.first) in
      ap (λ (x : ℕ). get_or s (at + pair_source step (get_or s (at + x) 0) (p + i)) 0) d ∙ ap (λ (x : ℕ). get_or s (at + x) 0) (c.each (p + i) (omega (arith, r.first, row_low))))

-- ---- the loop over rows

-- b₀: the picture that the call found. b: as it is now, with the pixels below p stored
pub record Rising (columns rows : ℕ) (s : List ℕ) (at k : ℕ) (b₀ b : List ℕ) (to p : ℕ) : Type 0 where
  pub whole : p % 4 ≡ 0
  pub over : to ≡ over_row columns rows k p
  pub painting : Painting (block_plan columns rows s at k) 0 b₀ (stores_of (code_at s at)) b p

module _ (columns rows : ℕ) (s : List ℕ) (at k below : ℕ) (b₀ : List ℕ) (a : Paints columns rows s at k below (length b₀)) where
  pub rising_start : Rising columns rows s at k b₀ b₀ below 0
  rising_start = record { whole = refl; over = over_first columns rows k below a.over; painting = painting_start _ 0 b₀ (stores_of (code_at s at)) }

  module _ (b : List ℕ) (to p : ℕ) (r : Rising columns rows s at k b₀ b to p) where
    pub rising_length : length b ≡ length b₀
    rising_length = painting_length _ 0 b₀ (stores_of (code_at s at)) b p r.painting

    pub rising_end : (n : ℕ) (c : Code) → n ≡ stores_of c → c ≡ code_at s at → n ≤ p → b ≡ first_pixels (block_plan columns rows s at k) 0 b₀ (stores_of c)
    rising_end n c e q h =
        let z : stores_of c ≡ stores_of (code_at s at) = ap stores_of q in
        painting_end _ 0 b₀ (stores_of (code_at s at)) b p r.painting (omega arith)
        ∙ further_first (block_plan columns rows s at k) 0 b₀ (stores_of (code_at s at))
        ∙ ap (λ (m : ℕ). first_pixels (block_plan columns rows s at k) 0 b₀ m) (sym z)

    module _ (l : p < stores_of (code_at s at)) where
      all : stores_of (code_at s at) ≡ 16
      all = stores_all (code_at s at) p l

      pub rising_low : p < 16
      rising_low = omega (arith, l, all)

      pub rising_room : 8 * columns ≤ to
      rising_room = row_enough columns rows k a.sized a.block p to rising_low r.whole r.over

      pub rising_row : Rowed (block_plan columns rows s at k) s at p b (to - 8 * columns)
      rising_row =
          record {
            there = a.there;
            first = r.whole;
            size = refl;
            beside =
                record {
                  begun = rw zero-add at (painting_begun _ 0 b₀ (stores_of (code_at s at)) b p r.painting (begun_none (block_plan columns rows s at k) 0 b₀));
                  listed = omega (arith, all, rising_low, r.whole);
                  targets = row_spots columns rows k a.sized a.block p to rising_low r.whole r.over;
                  values = λ i q. refl;
                  inside = omega (arith, row_inside columns rows k a.sized a.block p to rising_low r.whole r.over, a.room, rising_length);
                };
          }

      pub rising_more : (b' : List ℕ) → b' ≡ further (block_plan columns rows s at k) 0 b p 4 → {p' : ℕ} → p' ≡ p + 4 → Rising columns rows s at k b₀ b' (to - 8 * columns) p'
      rising_more b' e q =
          rw q
          (record {
            whole = omega (arith, r.whole);
            over = row_next columns rows k a.sized a.block p to rising_low r.whole r.over;
            painting =
                painting_by _ 0 b₀ (stores_of (code_at s at)) b p r.painting 4 (omega (arith, all, rising_low, r.whole)) b'
                (e ∙ ap (λ (n : ℕ). further (block_plan columns rows s at k) 0 b n 4) (sym (zero-add p)));
          })
