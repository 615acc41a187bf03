-- The bands of a patterned block: what a row of cells asks, and a law for the loop over a band's rows.
-- Assumes nothing.
use mathlib.Core.Path.{◌≡◌, refl, sym, ap, subst, ◌∙◌}
use mathlib.Core.Logic.{◌⊎◌, inl, inr}
use mathlib.Core.Bool.{true}
use mathlib.Core.List.{List}
use Prim.Native.Nat.{ℕ, ◌+◌, ◌*◌, ◌/◌, ◌%◌, ◌^◌, ◌≤◌, ◌<◌}
use native.Mathlib.Omega.{arith}
use lib.ListN.{length, get_or}
use Rattle.pattern.specs.declared.Form.{Form}
use Rattle.pattern.specs.declared.Form.TheVariants.{Two1x1, Two2x2, TwoQuarters, TwoLeftRight, TwoTopBottom, Four1x1, Four2x2, Four2x1, Four1x2, FourQuarters, FourLeftRight, FourTopBottom}
use Rattle.pattern.specs.Form.{shape}
use Rattle.pattern.specs.Pattern.{pattern_length, pattern_source}
use Rattle.motion.specs.Motion.{raster_index}
use Rattle.block.specs.Block.{colour_at, stored}
use Rattle.stores.specs.Stores.{Plan, further}
use Rattle.stores.specs.Loop.{Begun}
use Rattle.stores.proofs.Order.{begun_further, further_long}
use Rattle.paint.specs.Asked.{Square}
use Rattle.paint.proofs.Painting.{Painting, painting_start, painting_by, painting_length, painting_begun}
use Rattle.rows.specs.Row.{Fixed}
use Rattle.rows.proofs.Rows.{Rows, rows_start, rows_by, rows_begun, rows_length, row_below, rows_below, rows_low, square_kept}
use Rattle.rows.proofs.Standing.{row_asks}
use Rattle.word_fields.specs.declared.Layout.{Layout}
use Rattle.word_fields.specs.Layout.{layout, little_endian, AreBytes, FieldBytes, Coloured, row_colour}
use Rattle.word_fields.proofs.Layouts.{band_room, row_colour_lem}
use Rattle.word_patterns.specs.Asked.{AlikeRows, Patterned, BandAt, FormBand}

-- ---- rows of cells

-- row r of row n of cells
pub cell_row : (high n r : ℕ) → (high ≡ 1) ⊎ (high ≡ 2) → r < high → (high * n + r) / high ≡ n
cell_row high n r (inl e) h = let z : r < 1 = omega arith in rw e (omega arith)
cell_row high n r (inr e) h = let z : r < 2 = omega arith in rw e (omega arith)

-- a band has whole rows of cells
cells_fit : (high n rows : ℕ) → (high ≡ 1) ⊎ (high ≡ 2) → rows % high ≡ 0 → high * n < rows → high * n + high ≤ rows
cells_fit high n rows (inl e) z h = subst (λ (m : ℕ). rows % m ≡ 0 → m * n < rows → m * n + m ≤ rows) (sym e) (λ a b. omega arith) z h
cells_fit high n rows (inr e) z h = subst (λ (m : ℕ). rows % m ≡ 0 → m * n < rows → m * n + m ≤ rows) (sym e) (λ a b. omega arith) z h

-- ---- what rows that are alike ask, as the block does

module _ {d : Plan} {w x y : ℕ} {of : ℕ → ℕ} (q : Fixed d w x y of) {i high to : ℕ} (c : (high ≡ 1) ⊎ (high ≡ 2))
    (z : i % 8 ≡ 0) (h : i + 8 * high ≤ 64) (e : to ≡ raster_index w x y i) {b : List ℕ} (l : Square w x y (length b)) (g : Begun d 0 i b)
    (value : ℕ → ℕ) (vs : (r j : ℕ) → r < high → j < 8 → value j ≡ of (i + 8 * r + j)) where
  some : 1 ≤ high
  some = elim c [ inl f ↦ omega arith | inr f ↦ omega arith ]

  pub data_rowed : AlikeRows d w i high b to value
  data_rowed =
      record {
        rows = c;
        first = row_asks q z (omega (arith, some)) e l g value (λ j k m n. let f : i + 8 * 0 + j ≡ i + j = omega arith in vs 0 j some k ∙ ap of f);
        second = λ m {b'} f. row_asks q (omega arith) (omega arith) (row_below w x y i to e) (square_kept l (ap length f ∙ further_long _ 0 b i 8))
            (begun_further _ 0 i 8 b b' g f) value
            (λ j k o p. let n : i + 8 * 1 + j ≡ i + 8 + j = omega arith in vs 1 j (omega arith) k ∙ ap of n);
      }

-- ---- the loop over a band's rows of cells

-- to: where the band begins
pub record Banding (d : Plan) (w p : ℕ) (l : Layout) (b₀ b : List ℕ) (to at bit i : ℕ) : Type 0 where
  -- the rows of cells that are stored
  pub turn : ℕ
  pub pixel : i ≡ p + 8 * (l.high * turn)
  pub place : (x y : ℕ) → to ≡ raster_index w x y p → at ≡ raster_index w x y i
  pub shift : bit ≡ l.stride * turn
  pub painting : Painting d p b₀ (8 * l.rows) b (8 * (l.high * turn))

pub banding_start : (d : Plan) (w p : ℕ) (l : Layout) (b : List ℕ) (to : ℕ) → Banding d w p l b b to to 0 p
banding_start d w p l b to =
    let z : 0 ≡ 8 * (l.high * 0) = omega arith in
    record { turn = 0; pixel = omega arith; place = λ x y e. e; shift = omega arith; painting = subst (λ (n : ℕ). Painting d p b (8 * l.rows) b n) z (painting_start _ _ _ _) }

module _ {d : Plan} {w p : ℕ} {l : Layout} {b₀ b : List ℕ} {to at bit i : ℕ} (g : Banding d w p l b₀ b to at bit i)
    (high : (l.high ≡ 1) ⊎ (l.high ≡ 2)) (whole : l.rows % l.high ≡ 0) (h : i < p + 8 * l.rows) where
  pub turn_below : l.high * g.turn < l.rows
  turn_below = omega (arith, g.pixel)

  pub turn_fits : l.high * g.turn + l.high ≤ l.rows
  turn_fits = cells_fit _ g.turn _ high whole turn_below

  pub banding_more : {b' : List ℕ} → b' ≡ further d 0 b i (8 * l.high) → Banding d w p l b₀ b' to (at + l.high * w) (bit + l.stride) (i + 8 * l.high)
  banding_more {b'} e =
      let z : 8 * (l.high * g.turn) + 8 * l.high ≡ 8 * (l.high * (g.turn + 1)) = omega arith in
      record {
        turn = g.turn + 1;
        pixel = omega (arith, g.pixel, z);
        place = λ x y e. rows_below w x y i at (g.place x y e) l.high;
        shift = omega (arith, g.shift);
        painting = subst (λ (n : ℕ). Painting d p b₀ (8 * l.rows) b' n) z
            (painting_by _ _ _ _ _ _ g.painting (8 * l.high) (omega (arith, turn_fits)) b' (e ∙ ap (λ (n : ℕ). further d 0 b n (8 * l.high)) g.pixel));
      }

-- ---- the numbers of a band

-- of a band's numbers: its rows are the block's, what is read is the block's, no divisor is 0, and nothing is large
pub record Room (form : Form) (l : Layout) (p part fields : ℕ) : Type 0 where
  pub first : p % 8 ≡ 0
  pub pixels : p + 8 * l.rows ≤ 64
  pub colours_inside : part + l.beyond + 2 * 2 ^ l.bits ≤ pattern_length (shape true form)
  pub fields_inside : 2 * 2 ^ l.bits + fields + l.beyond + l.count ≤ pattern_length (shape true form)
  pub counted : FieldBytes l.count
  pub high : (l.high ≡ 1) ⊎ (l.high ≡ 2)
  pub wide : (l.wide ≡ 1) ⊎ (l.wide ≡ 2)
  pub bits : (l.bits ≡ 1) ⊎ (l.bits ≡ 2)
  pub cells_whole : l.rows % l.high ≡ 0
  pub half_few : l.half ≤ 8
  pub stride_few : l.stride ≤ 16
  pub rows_few : l.rows ≤ 8
  pub part_few : l.part ≤ 16
  pub fields_few : l.fields ≤ 16
  pub rows_some : 1 ≤ l.rows
  pub length_few : pattern_length (shape true form) ≤ 48
  -- of row n of cells
  pub shift_few : (n : ℕ) → l.high * n < l.rows → l.stride * n ≤ 56

room_at : (form : Form) (k : ℕ) → 8 * (layout form).rows * k < 64 → Room form (layout form) (8 * (layout form).rows * k) ((layout form).part * k) ((layout form).fields * k)
room_at form k h =
    let z = band_room form k h in
    record {
      first = omega arith;
      pixels = z.whole;
      colours_inside = z.colours_inside;
      fields_inside = z.fields_inside;
      counted = z.counted;
      high = z.high;
      wide = z.wide;
      bits = z.bits;
      cells_whole = z.cells_whole;
      half_few = z.half_few;
      stride_few = z.stride_few;
      rows_few = z.rows_few;
      part_few = z.part_few;
      fields_few = z.fields_few;
      rows_some = elim z.rows [ inl i ↦ omega arith | inr i ↦ omega arith ];
      length_few = z.length_few;
      shift_few = λ n f. let e : (layout form).high * n + 0 ≡ (layout form).high * n = omega arith in
          let g : ((layout form).high * n) / (layout form).high ≡ n = ap (λ (m : ℕ). m / (layout form).high) (sym e) ∙ cell_row _ n 0 z.high (elim z.high [ inl i ↦ omega arith | inr i ↦ omega arith ]) in
          omega (arith, ap (λ (m : ℕ). m * (layout form).stride) g, z.shift_few ((layout form).high * n) f);
    }

pub room : {form : Form} {l : Layout} {p part fields : ℕ} → BandAt form l p part fields → Room form l p part fields
room {form} z =
    rw (z.lays, z.pixels, z.begins, z.behind, z.lays)
    (room_at form z.band (subst (λ (n : ℕ). n < 64) (z.pixels ∙ ap (λ (m : Layout). 8 * m.rows * z.band) z.lays) z.below))

-- ---- the values of a band

-- what is read of a part: the number of its fields, and its colours
pub record Part (s : List ℕ) (bits count part at v : ℕ) (colour : List ℕ) : Type 0 where
  pub is : v ≡ little_endian s at count
  pub bytes : AreBytes s at count
  pub each : (c : ℕ) → c < 2 ^ bits → get_or colour c 0 ≡ colour_at true s (part + 2 * c)

-- its fields begin behind bytes of colours
pub part_read : {s : List ℕ} {bits count part v bytes : ℕ} {l : List ℕ} (fields : ℕ) → bytes ≡ 2 * 2 ^ bits → (v ≡ little_endian s (bytes + fields) count) × AreBytes s (bytes + fields) count
    → Coloured bits s part l → Part s bits count part (2 * 2 ^ bits + fields) v l
part_read {s} {bits} {count} {part} {v} {bytes} {l} fields e q k =
    subst (λ (n : ℕ). Part s bits count part (n + fields) v l) e (record { is = q.0; bytes = q.1; each = k })

pub part_read_beyond : {s : List ℕ} {bits count part v bytes : ℕ} {l : List ℕ} (fields beyond : ℕ) → bytes ≡ 2 * 2 ^ bits
    → (v ≡ little_endian s (bytes + fields + beyond) count) × AreBytes s (bytes + fields + beyond) count → Coloured bits s part l → Part s bits count part (2 * 2 ^ bits + fields + beyond) v l
part_read_beyond {s} {bits} {count} {part} {v} {bytes} {l} fields beyond e q k =
    subst (λ (n : ℕ). Part s bits count part (n + fields + beyond) v l) e (record { is = q.0; bytes = q.1; each = k })

-- row r of row n of cells, column j
abbrev Valued : Form → Layout → ℕ → ℕ → ℕ → Type 0
Valued form l p part fields =
    (s : List ℕ) (n r j v m u : ℕ) (left right : List ℕ) → l.high * n < l.rows → r < l.high → j < 8
    → Part s l.bits l.count part (2 * 2 ^ l.bits + fields) v left → Part s l.bits l.count (part + l.beyond) (2 * 2 ^ l.bits + fields + l.beyond) m right → u ≡ m / 2 ^ l.half
    → row_colour l.bits l.wide (v / 2 ^ (l.stride * n) % 65536) (u / 2 ^ (l.stride * n) % 65536) left right j
    ≡ stored true (colour_at true s (pattern_source (shape true form) s (p + 8 * (l.high * n) + 8 * r + j)))

valued_at : (form : Form) (k : ℕ) → 8 * (layout form).rows * k < 64 → Valued form (layout form) (8 * (layout form).rows * k) ((layout form).part * k) ((layout form).fields * k)
valued_at form k h s n r j v m u left right f g i x y e =
    let z = band_room form k h in
    let a : (layout form).stride * n ≡ ((layout form).high * n + r) / (layout form).high * (layout form).stride =
    omega (arith, ap (λ (o : ℕ). o * (layout form).stride) (cell_row _ n r z.high g)) in
    let b : (layout form).high * n + r < (layout form).rows = omega (arith, cells_fit _ n _ z.high z.cells_whole f) in
    let c : 8 * ((layout form).rows * k + ((layout form).high * n + r)) + j ≡ 8 * (layout form).rows * k + 8 * ((layout form).high * n) + 8 * r + j = omega arith in
    ap (λ (o : ℕ). row_colour (layout form).bits (layout form).wide (v / 2 ^ o % 65536) (u / 2 ^ o % 65536) left right j) a
    ∙ ap (λ (o : ℕ). row_colour (layout form).bits (layout form).wide (v / 2 ^ (((layout form).high * n + r) / (layout form).high * (layout form).stride) % 65536) (o / 2 ^ (((layout form).high * n + r) / (layout form).high * (layout form).stride) % 65536) left right j) e
    ∙ row_colour_lem form s k ((layout form).high * n + r) j v m left right h b i x.is x.bytes
    y.is y.bytes x.each y.each
    ∙ ap (λ (o : ℕ). stored true (colour_at true s (pattern_source (shape true form) s o))) c

valued : {form : Form} {l : Layout} {p part fields : ℕ} → BandAt form l p part fields → Valued form l p part fields
valued {form} z =
    rw (z.lays, z.pixels, z.begins, z.behind, z.lays)
    (valued_at form z.band (subst (λ (n : ℕ). n < 64) (z.pixels ∙ ap (λ (m : Layout). 8 * m.rows * z.band) z.lays) z.below))

-- of a turn: nothing is large
pub record Turned (w at bit i high stride : ℕ) : Type 0 where
  pub low : at + high * w ≤ 320000
  pub shift_few : bit ≤ 56
  pub some : 1 ≤ high
  pub few : high ≤ 8
  pub stride_few : stride ≤ 16
  pub next : i + 8 * high ≤ 64

-- a turn of a band's loop, and what its row of cells asks, as the block does
module _ {d : Plan} {s : List ℕ} {w : ℕ} {l : Layout} {p part fields : ℕ} {b₀ : List ℕ} {to : ℕ} (k : FormBand d s w l p part fields b₀ to) {b : List ℕ} {at bit i : ℕ}
    (g : Banding d w p l b₀ b to at bit i) (h : i < p + 8 * l.rows) where
  place : at ≡ raster_index w k.x k.y i
  place = g.place k.x k.y k.place

  fits : l.high * g.turn + l.high ≤ l.rows
  fits = turn_fits g (room k.band).high (room k.band).cells_whole h

  pub turned : Turned w at bit i l.high l.stride
  turned =
      let r = room k.band in
      let few : l.high ≤ 8 = omega (arith, fits, r.rows_few) in
      record {
        low = rows_low w k.x k.y i at place l.high k.room (omega (arith, r.pixels)) few;
        shift_few = omega (arith, g.shift, r.shift_few g.turn (turn_below g r.high r.cells_whole h));
        some = elim r.high [ inl e ↦ omega arith | inr e ↦ omega arith ];
        few = few;
        stride_few = r.stride_few;
        next = omega (arith, g.pixel, fits, r.pixels);
      }

  pub band_rowed : (bits : ℕ) → l.bits ≡ bits → {v m u f₀ f₁ : ℕ} {left right : List ℕ} → Part s bits l.count part (2 * 2 ^ bits + fields) v left
      → Part s bits l.count (part + l.beyond) (2 * 2 ^ bits + fields + l.beyond) m right → u ≡ m / 2 ^ l.half → f₀ ≡ v / 2 ^ bit % 65536 → f₁ ≡ u / 2 ^ bit % 65536
      → AlikeRows d w i l.high b at (row_colour bits l.wide f₀ f₁ left right)
  band_rowed bits e {v} {m} {u} {f₀} {f₁} {left} {right} c d' a b₁ b₂ =
      data_rowed k.block.block (room k.band).high (omega (arith, g.pixel, (room k.band).first)) (omega (arith, g.pixel, (room k.band).pixels, fits)) place
      (square_kept k.room (painting_length _ _ _ _ _ _ g.painting))
      (subst (λ (n : ℕ). Begun d 0 n b) (sym g.pixel) (painting_begun _ _ _ _ _ _ g.painting k.begun))
      (row_colour bits l.wide f₀ f₁ left right)
      (λ r j hr hj. is r j hr hj (subst (λ (n : ℕ). Part s n l.count part (2 * 2 ^ n + fields) v left) (sym e) c) (subst (λ (n : ℕ). Part s n l.count (part + l.beyond) (2 * 2 ^ n + fields + l.beyond) m right) (sym e) d'))
    where
      is : (r j : ℕ) → r < l.high → j < 8 → Part s l.bits l.count part (2 * 2 ^ l.bits + fields) v left → Part s l.bits l.count (part + l.beyond) (2 * 2 ^ l.bits + fields + l.beyond) m right
          → row_colour bits l.wide f₀ f₁ left right j ≡ stored true (colour_at true s (pattern_source (shape true k.form) s (i + 8 * r + j)))
      is r j hr hj c' d'' =
          rw (sym e, b₁, b₂, g.shift)
          (valued k.band s g.turn r j v m u left right (turn_below g (room k.band).high (room k.band).cells_whole h) hr hj c' d'' a
          ∙ ap (λ (n : ℕ). stored true (colour_at true s (pattern_source (shape true k.form) s (n + 8 * r + j)))) (sym g.pixel))

-- ---- forms whose numbers are literals

-- the one band of a block whose cells are 2x1
pub band_2x1 : BandAt Four2x1 (layout Four2x1) 0 0 0
band_2x1 = record { lays = refl; band = 0; below = omega arith; pixels = refl; begins = refl; behind = refl }

pub whole_band : {d : Plan} {s : List ℕ} {w x y : ℕ} {b : List ℕ} → Patterned d s Four2x1 w x y → Square w x y (length b) → FormBand d s w (layout Four2x1) 0 0 0 b (raster_index w x y 0)
whole_band {d} {s} {w} {x} {y} {b} k q =
    record { form = Four2x1; x = x; y = y; block = k; band = band_2x1; room = q; begun = rows_begun (rows_start d b); place = refl }

-- the first of two bands of a block whose cells are 1x1
pub band_1x1 : BandAt Four1x1 (layout Four1x1) 0 0 0
band_1x1 = record { lays = refl; band = 0; below = omega arith; pixels = refl; begins = refl; behind = refl }

-- a part beside which there is none is its right part, too
pub no_further : {s : List ℕ} {bits count part : ℕ} (at : ℕ) {v : ℕ} {l : List ℕ} → Part s bits count part at v l → Part s bits count part (at + 0) v l
no_further {s} {bits} {count} {part} at {v} {l} q = let z : at ≡ at + 0 = omega arith in subst (λ (n : ℕ). Part s bits count part n v l) z q

-- the numbers of a loop that counts rows
pub banding_as : {d : Plan} {w p : ℕ} {l : Layout} {b₀ b : List ℕ} {to at at' bit bit' i i' : ℕ} → Banding d w p l b₀ b to at bit i → at ≡ at' → bit ≡ bit' → i ≡ i' → Banding d w p l b₀ b to at' bit' i'
banding_as g e f h = rw (sym e, sym f, sym h) g

-- ---- the loop over a form's bands

pub record Forming (form : Form) (l : Layout) (d : Plan) (w x y : ℕ) (b₀ b : List ℕ) (to part fields p : ℕ) : Type 0 where
  pub lays : l ≡ layout form
  -- the bands that are stored
  pub band : ℕ
  pub pixels : p ≡ 8 * l.rows * band
  pub begins : part ≡ l.part * band
  pub behind : fields ≡ l.fields * band
  pub place : to ≡ raster_index w x y p
  pub rows : Rows d b₀ b p

pub forming_start : (form : Form) (l : Layout) (d : Plan) (w x y : ℕ) (b : List ℕ) (to : ℕ) → l ≡ layout form → to ≡ raster_index w x y 0 → Forming form l d w x y b b to 0 0 0
forming_start form l d w x y b to f e =
    record { lays = f; band = 0; pixels = omega arith; begins = omega arith; behind = omega arith; place = e; rows = rows_start d b }

module _ {form : Form} {l : Layout} {d : Plan} {w x y : ℕ} {b₀ b : List ℕ} {to part fields p : ℕ} (g : Forming form l d w x y b₀ b to part fields p) (h : p < 64) where
  pub forming_band : BandAt form l p part fields
  forming_band = record { lays = g.lays; band = g.band; below = h; pixels = g.pixels; begins = g.begins; behind = g.behind }

  -- it is the next band of the block
  pub forming_next : {s : List ℕ} → Patterned d s form w x y → Square w x y (length b₀) → FormBand d s w l p part fields b to
  forming_next k q =
      record { form = form; x = x; y = y; block = k; band = forming_band; room = square_kept q (rows_length g.rows); begun = rows_begun g.rows; place = g.place }

  pub forming_low : Square w x y (length b₀) → to + l.rows * w ≤ 320000
  forming_low q = rows_low w x y p to g.place l.rows q h (room forming_band).rows_few

  pub forming_more : {b' : List ℕ} → b' ≡ further d 0 b p (8 * l.rows) → Forming form l d w x y b₀ b' (to + l.rows * w) (part + l.part) (fields + l.fields) (p + 8 * l.rows)
  forming_more e =
      record {
        lays = g.lays;
        band = g.band + 1;
        pixels = omega (arith, g.pixels);
        begins = omega (arith, g.begins);
        behind = omega (arith, g.behind);
        place = rows_below w x y p to g.place l.rows;
        rows = rows_by g.rows (8 * l.rows) (omega arith) (room forming_band).pixels e;
      }

-- the numbers of a loop that counts bands
pub forming_as : {form : Form} {l : Layout} {d : Plan} {w x y : ℕ} {b₀ b : List ℕ} {to part fields fields' p p' : ℕ} → Forming form l d w x y b₀ b to part fields p → fields ≡ fields' → p ≡ p'
    → Forming form l d w x y b₀ b to part fields' p'
forming_as g e f = rw (sym e, sym f) g

pub forming_at : {form : Form} {l : Layout} {d : Plan} {w x y : ℕ} {b₀ b : List ℕ} {to part fields p : ℕ} (part' fields' p' : ℕ) → Forming form l d w x y b₀ b to part fields p
    → part ≡ part' → fields ≡ fields' → p ≡ p' → Forming form l d w x y b₀ b to part' fields' p'
forming_at {form} {l} {d} {w} {x} {y} {b₀} {b} {to} part' fields' p' g e f h =
    record { lays = g.lays; band = g.band; pixels = sym h ∙ g.pixels; begins = sym e ∙ g.begins; behind = sym f ∙ g.behind; place = g.place ∙ ap (raster_index w x y) h; rows = subst (λ (n : ℕ). Rows d b₀ b n) h g.rows }

-- bands lie as far apart as their fields, but for one form
pub as_far : (form : Form) → (form ≡ Four1x1 → ⊥) → (layout form).fields ≡ (layout form).part
as_far Two1x1 n = refl
as_far Two2x2 n = refl
as_far TwoQuarters n = refl
as_far TwoLeftRight n = refl
as_far TwoTopBottom n = refl
as_far Four1x1 n = absurd (n refl)
as_far Four2x2 n = refl
as_far Four2x1 n = refl
as_far Four1x2 n = refl
as_far FourQuarters n = refl
as_far FourLeftRight n = refl
as_far FourTopBottom n = refl
