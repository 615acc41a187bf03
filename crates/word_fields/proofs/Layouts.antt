-- The layouts of the twelve forms: a band's colours and fields are inside the block's data, and the bits that the code takes for a pixel are its field.
-- One omega for each form.
-- Assumes nothing.
use mathlib.Core.Path.{◌≡◌, sym, ap, ◌∙◌}
use mathlib.Core.Logic.{◌⊎◌, inl, inr, ⊎_elim}
use mathlib.Core.Bool.{Bool, true, false, cond}
use mathlib.Core.List.{List}
use Prim.Native.Nat.{ℕ, ◌+◌, ◌*◌, ◌/◌, ◌%◌, ◌^◌, ◌≤◌, ◌<◌}
use native.Mathlib.Nat.{mod-lt, div-div-eq-div-mul}
use native.Mathlib.Omega.{arith}
use borrow.Author.Tests.{lt-ltb, le-ltb}
use lib.Dec.{ltb}
use lib.ListN.{get_or}
use Rattle.pattern.specs.declared.Form.{Form}
use Rattle.pattern.specs.declared.Form.TheVariants.{Two1x1, Two2x2, TwoQuarters, TwoLeftRight, TwoTopBottom, Four1x1, Four2x2, Four2x1, Four1x2, FourQuarters, FourLeftRight, FourTopBottom}
use Rattle.pattern.specs.declared.Shape.{Shape}
use Rattle.pattern.specs.Form.{shape}
use Rattle.pattern.specs.Pattern.{colours, cells, part_length, pattern_length, part_start, field_number, field_at, pattern_source}
use Rattle.block.specs.Block.{colour_at, stored}
use Rattle.word_fields.specs.declared.Layout.{Layout}
use Rattle.word_fields.specs.Layout.{layout, little_endian, AreBytes, FieldBytes, row_colour}
use Rattle.word_fields.proofs.Numbers.{below_or}
use Rattle.word_fields.proofs.Fields.{pow_add, pow_some, low_bits, field_of_number}

-- ---- a band

record Numbered (form : Form) (k : ℕ) : Type 0 where
  whole : 8 * (layout form).rows * k + 8 * (layout form).rows ≤ 64
  colours_inside : (layout form).part * k + (layout form).beyond + 2 * 2 ^ (layout form).bits ≤ pattern_length (shape true form)
  fields_inside : 2 * 2 ^ (layout form).bits + (layout form).fields * k + (layout form).beyond + (layout form).count ≤ pattern_length (shape true form)
  count_some : 2 ≤ (layout form).count
  count_few : (layout form).count ≤ 8
  count_even : (layout form).count % 2 ≡ 0
  count_not_six : 1 ≤ (layout form).count % 3
  rows_some : 4 ≤ (layout form).rows
  rows_few : (layout form).rows ≤ 8
  rows_fours : (layout form).rows % 4 ≡ 0
  high_some : 1 ≤ (layout form).high
  high_few : (layout form).high ≤ 2
  wide_some : 1 ≤ (layout form).wide
  wide_few : (layout form).wide ≤ 2
  bits_some : 1 ≤ (layout form).bits
  bits_few : (layout form).bits ≤ 2
  cells_whole : (layout form).rows % (layout form).high ≡ 0
  half_few : (layout form).half ≤ 8
  stride_few : (layout form).stride ≤ 16
  beyond_few : (layout form).beyond ≤ 24
  part_few : (layout form).part ≤ 16
  fields_few : (layout form).fields ≤ 16
  length_few : pattern_length (shape true form) ≤ 48

numbered : (form : Form) (k : ℕ) → 8 * (layout form).rows * k < 64 → Numbered form k
unfolding colours cells part_length pattern_length
numbered Two1x1 k h = omega arith
numbered Two2x2 k h = omega arith
numbered TwoQuarters k h = omega arith
numbered TwoLeftRight k h = omega arith
numbered TwoTopBottom k h = omega arith
numbered Four1x1 k h = omega arith
numbered Four2x2 k h = omega arith
numbered Four2x1 k h = omega arith
numbered Four1x2 k h = omega arith
numbered FourQuarters k h = omega arith
numbered FourLeftRight k h = omega arith
numbered FourTopBottom k h = omega arith

shift_below : (form : Form) (t : ℕ) → t < (layout form).rows → t / (layout form).high * (layout form).stride ≤ 56
shift_below Two1x1 t h = omega arith
shift_below Two2x2 t h = omega arith
shift_below TwoQuarters t h = omega arith
shift_below TwoLeftRight t h = omega arith
shift_below TwoTopBottom t h = omega arith
shift_below Four1x1 t h = omega arith
shift_below Four2x2 t h = omega arith
shift_below Four2x1 t h = omega arith
shift_below Four1x2 t h = omega arith
shift_below FourQuarters t h = omega arith
shift_below FourLeftRight t h = omega arith
shift_below FourTopBottom t h = omega arith

one_or_two : (n : ℕ) → 1 ≤ n → n ≤ 2 → (n ≡ 1) ⊎ (n ≡ 2)
one_or_two n f g = ⊎_elim (λ (l : n < 2). inl (omega arith)) (λ (l : 2 ≤ n). inr (omega arith)) (below_or n 2)

four_or_eight : (n : ℕ) → 4 ≤ n → n ≤ 8 → n % 4 ≡ 0 → (n ≡ 4) ⊎ (n ≡ 8)
four_or_eight n f g e = ⊎_elim (λ (l : n < 8). inl (omega arith)) (λ (l : 8 ≤ n). inr (omega arith)) (below_or n 8)

counted_by : (n : ℕ) → 2 ≤ n → n ≤ 8 → n % 2 ≡ 0 → 1 ≤ n % 3 → FieldBytes n
counted_by n f g e i =
    ⊎_elim (λ (l : n < 4). inl (omega arith))
    (λ (l : 4 ≤ n). inr (⊎_elim (λ (m : n < 6). inl (omega arith)) (λ (m : 6 ≤ n). inr (omega arith)) (below_or n 6))) (below_or n 4)

-- of band k: its rows are the block's, its colours and fields are inside the block's data, no divisor is 0, and nothing is large
pub record BandRoom (form : Form) (k : ℕ) : Type 0 where
  pub whole : 8 * (layout form).rows * k + 8 * (layout form).rows ≤ 64
  pub colours_inside : (layout form).part * k + (layout form).beyond + 2 * 2 ^ (layout form).bits ≤ pattern_length (shape true form)
  pub fields_inside : 2 * 2 ^ (layout form).bits + (layout form).fields * k + (layout form).beyond + (layout form).count ≤ pattern_length (shape true form)
  pub counted : FieldBytes (layout form).count
  pub rows : ((layout form).rows ≡ 4) ⊎ ((layout form).rows ≡ 8)
  pub high : ((layout form).high ≡ 1) ⊎ ((layout form).high ≡ 2)
  pub wide : ((layout form).wide ≡ 1) ⊎ ((layout form).wide ≡ 2)
  pub bits : ((layout form).bits ≡ 1) ⊎ ((layout form).bits ≡ 2)
  pub cells_whole : (layout form).rows % (layout form).high ≡ 0
  pub half_few : (layout form).half ≤ 8
  pub stride_few : (layout form).stride ≤ 16
  pub beyond_few : (layout form).beyond ≤ 24
  pub part_few : (layout form).part ≤ 16
  pub fields_few : (layout form).fields ≤ 16
  pub rows_few : (layout form).rows ≤ 8
  pub length_few : pattern_length (shape true form) ≤ 48
  -- of row t of the band: a shift of a number of eight bytes by it, or by it and half, is below 64
  pub shift_few : (t : ℕ) → t < (layout form).rows → t / (layout form).high * (layout form).stride ≤ 56

pub band_room : (form : Form) (k : ℕ) → 8 * (layout form).rows * k < 64 → BandRoom form k
band_room form k h =
    let z = numbered form k h in
    record {
      whole = z.whole;
      colours_inside = z.colours_inside;
      fields_inside = z.fields_inside;
      counted = counted_by _ z.count_some z.count_few z.count_even z.count_not_six;
      rows = four_or_eight _ z.rows_some z.rows_few z.rows_fours;
      high = one_or_two _ z.high_some z.high_few;
      wide = one_or_two _ z.wide_some z.wide_few;
      bits = one_or_two _ z.bits_some z.bits_few;
      cells_whole = z.cells_whole;
      half_few = z.half_few;
      stride_few = z.stride_few;
      beyond_few = z.beyond_few;
      part_few = z.part_few;
      fields_few = z.fields_few;
      rows_few = z.rows_few;
      length_few = z.length_few;
      shift_few = shift_below form;
    }

-- ---- a pixel

-- the bits of column j in the fields of a row, where left says that it is one of the left four
abbrev pub column_bits : Layout → ℕ → Bool → ℕ
column_bits l j left = cond left 0 l.half + j % 4 / l.wide * l.bits

-- column j of row t of band k: start is where its part begins, and its field, by its number in the part, stands among the fields of the band
pub record Located (form : Form) (k t j : ℕ) (left : Bool) (start number : ℕ) : Type 0 where
  pub part : start ≡ (layout form).part * k + cond left 0 (layout form).beyond
  pub field : 8 * (start + 2 * 2 ^ (layout form).bits) + number * (layout form).bits
      ≡ 8 * (2 * 2 ^ (layout form).bits + (layout form).fields * k + cond left 0 (layout form).beyond) + (t / (layout form).high * (layout form).stride + column_bits (layout form) j left)
  pub room : t / (layout form).high * (layout form).stride + column_bits (layout form) j left + (layout form).bits ≤ 8 * (layout form).count
  pub low : j % 4 / (layout form).wide * (layout form).bits + (layout form).bits ≤ 16
  pub colour : (shape true form).colour ≡ 2
  pub bits : (shape true form).bits ≡ (layout form).bits
  pub colours_all : (shape true form).colour * colours (shape true form) ≡ 2 * 2 ^ (layout form).bits

-- start and number of column j of the block's row r
abbrev start_at : Shape → ℕ → ℕ → ℕ
start_at q r j = (j / q.across * (8 / q.down) + r / q.down) * part_length q

abbrev number_at : Shape → ℕ → ℕ → ℕ
number_at q r j = r % q.down / q.high * (q.across / q.wide) + j % q.across / q.wide

located_left : (form : Form) (k t j : ℕ) → 8 * (layout form).rows * k < 64 → t < (layout form).rows → j < 4
    → Located form k t j true (start_at (shape true form) ((layout form).rows * k + t) j) (number_at (shape true form) ((layout form).rows * k + t) j)
unfolding colours cells part_length
located_left Two1x1 k t j h l m = omega arith
located_left Two2x2 k t j h l m = omega arith
located_left TwoQuarters k t j h l m = omega arith
located_left TwoLeftRight k t j h l m = omega arith
located_left TwoTopBottom k t j h l m = omega arith
located_left Four1x1 k t j h l m = omega arith
located_left Four2x2 k t j h l m = omega arith
located_left Four2x1 k t j h l m = omega arith
located_left Four1x2 k t j h l m = omega arith
located_left FourQuarters k t j h l m = omega arith
located_left FourLeftRight k t j h l m = omega arith
located_left FourTopBottom k t j h l m = omega arith

located_right : (form : Form) (k t j : ℕ) → 8 * (layout form).rows * k < 64 → t < (layout form).rows → 4 ≤ j → j < 8
    → Located form k t j false (start_at (shape true form) ((layout form).rows * k + t) j) (number_at (shape true form) ((layout form).rows * k + t) j)
unfolding colours cells part_length
located_right Two1x1 k t j h l n m = omega arith
located_right Two2x2 k t j h l n m = omega arith
located_right TwoQuarters k t j h l n m = omega arith
located_right TwoLeftRight k t j h l n m = omega arith
located_right TwoTopBottom k t j h l n m = omega arith
located_right Four1x1 k t j h l n m = omega arith
located_right Four2x2 k t j h l n m = omega arith
located_right Four2x1 k t j h l n m = omega arith
located_right Four1x2 k t j h l n m = omega arith
located_right FourQuarters k t j h l n m = omega arith
located_right FourLeftRight k t j h l n m = omega arith
located_right FourTopBottom k t j h l n m = omega arith

start_is : (q : Shape) (r j : ℕ) → j < 8 → part_start q (8 * r + j) ≡ start_at q r j
unfolding part_start
start_is q r j h =
    let d : (8 * r + j) / 8 ≡ r = omega arith in
    let e : (8 * r + j) % 8 ≡ j = omega arith in
    rw (d, e)

number_is : (q : Shape) (r j : ℕ) → j < 8 → field_number q (8 * r + j) ≡ number_at q r j
unfolding field_number
number_is q r j h =
    let d : (8 * r + j) / 8 ≡ r = omega arith in
    let e : (8 * r + j) % 8 ≡ j = omega arith in
    rw (d, e)

pub located : (form : Form) (k t j : ℕ) → 8 * (layout form).rows * k < 64 → t < (layout form).rows → j < 8
    → Located form k t j (ltb j 4) (part_start (shape true form) (8 * ((layout form).rows * k + t) + j)) (field_number (shape true form) (8 * ((layout form).rows * k + t) + j))
located form k t j h l m =
    rw (start_is (shape true form) ((layout form).rows * k + t) j m, number_is (shape true form) ((layout form).rows * k + t) j m)
    (⊎_elim (λ (n : j < 4). rw (lt-ltb j 4 n) (located_left form k t j h l n)) (λ (n : 4 ≤ j). rw (le-ltb j 4 n) (located_right form k t j h l n m)) (below_or j 4))

-- ---- a row

-- the colour of a pixel of one half of a row. part, at: the bytes at which its part and the fields of its band begin. shift: the bit of its field. v: the fields. C: the colours
module _ (form : Form) (s : List ℕ) (i part at shift n v : ℕ) (C : List ℕ) where
  half_colour : (w : ℕ) → part_start (shape true form) i ≡ part → (shape true form).colour ≡ 2 → (shape true form).bits ≡ (layout form).bits
      → (shape true form).colour * colours (shape true form) ≡ 2 * 2 ^ (layout form).bits → ((layout form).bits ≡ 1) ⊎ ((layout form).bits ≡ 2)
      → 8 * (part_start (shape true form) i + 2 * 2 ^ (layout form).bits) + field_number (shape true form) i * (layout form).bits ≡ 8 * at + shift → shift + (layout form).bits ≤ 8 * n
      → v ≡ little_endian s at n → AreBytes s at n → ((c : ℕ) → c < 2 ^ (layout form).bits → get_or C c 0 ≡ colour_at true s (part + 2 * c))
      → w ≡ v / 2 ^ shift % 2 ^ (layout form).bits → get_or C w 0 ≡ colour_at true s (pattern_source (shape true form) s i)
  unfolding pattern_source
  half_colour w ep ec eb ea two ef room ev bs law ew =
      let l : w < 2 ^ (layout form).bits = rw ew (mod-lt (v / 2 ^ shift) (pow_some (layout form).bits)) in
      let f : w ≡ field_at s (part_start (shape true form) i + 2 * 2 ^ (layout form).bits) (layout form).bits (field_number (shape true form) i) =
      ew ∙ ap (λ (z : ℕ). z / 2 ^ shift % 2 ^ (layout form).bits) ev ∙ sym (field_of_number s at n _ (layout form).bits _ shift bs two ef room)
      in
      law w l ∙ ap (colour_at true s) (rw (ea, ec, eb, ← f, ep))

module _ (form : Form) (s : List ℕ) (k t j vL vR : ℕ) (L R : List ℕ) (h : 8 * (layout form).rows * k < 64) (ht : t < (layout form).rows) (hj : j < 8)
    (eL : vL ≡ little_endian s (2 * 2 ^ (layout form).bits + (layout form).fields * k) (layout form).count) (bL : AreBytes s (2 * 2 ^ (layout form).bits + (layout form).fields * k) (layout form).count)
    (eR : vR ≡ little_endian s (2 * 2 ^ (layout form).bits + (layout form).fields * k + (layout form).beyond) (layout form).count) (bR : AreBytes s (2 * 2 ^ (layout form).bits + (layout form).fields * k + (layout form).beyond) (layout form).count)
    (cL : (c : ℕ) → c < 2 ^ (layout form).bits → get_or L c 0 ≡ colour_at true s ((layout form).part * k + 2 * c))
    (cR : (c : ℕ) → c < 2 ^ (layout form).bits → get_or R c 0 ≡ colour_at true s ((layout form).part * k + (layout form).beyond + 2 * c)) where
  by_side : (left : Bool)
      → Located form k t j left (part_start (shape true form) (8 * ((layout form).rows * k + t) + j)) (field_number (shape true form) (8 * ((layout form).rows * k + t) + j))
      → get_or (cond left L R) (cond left (vL / 2 ^ (t / (layout form).high * (layout form).stride) % 65536) (vR / 2 ^ (layout form).half / 2 ^ (t / (layout form).high * (layout form).stride) % 65536) / 2 ^ (j % 4 / (layout form).wide * (layout form).bits) % 2 ^ (layout form).bits) 0
      ≡ colour_at true s (pattern_source (shape true form) s (8 * ((layout form).rows * k + t) + j))
  by_side true p =
      let shift = t / (layout form).high * (layout form).stride in
      let column = j % 4 / (layout form).wide * (layout form).bits in
      half_colour form s _ _ _ (shift + column) (layout form).count vL L _
      (p.part ∙ (let z : (layout form).part * k + 0 ≡ (layout form).part * k = omega arith in z)) p.colour p.bits p.colours_all (band_room form k h).bits
      (p.field ∙ (let z : 8 * (2 * 2 ^ (layout form).bits + (layout form).fields * k + 0) + (shift + (0 + column)) ≡ 8 * (2 * 2 ^ (layout form).bits + (layout form).fields * k) + (shift + column) = omega arith in z))
      (omega (arith, p.room)) eL bL cL (low_bits vL shift column (layout form).bits p.low)
  by_side false p =
      let shift = t / (layout form).high * (layout form).stride in
      let column = j % 4 / (layout form).wide * (layout form).bits in
      let e : (layout form).half + (shift + column) ≡ shift + ((layout form).half + column) = omega arith in
      half_colour form s _ _ _ (shift + ((layout form).half + column)) (layout form).count vR R _
      p.part p.colour p.bits p.colours_all (band_room form k h).bits p.field p.room eR bR cR
      (low_bits (vR / 2 ^ (layout form).half) shift column (layout form).bits p.low
      ∙ ap (λ (z : ℕ). z % 2 ^ (layout form).bits)
      (div-div-eq-div-mul vR (2 ^ (layout form).half) (2 ^ (shift + column)) ∙ ap (λ (z : ℕ). vR / z) (sym (pow_add (layout form).half (shift + column)) ∙ ap (λ (z : ℕ). 2 ^ z) e)))

  pub row_colour_lem : row_colour (layout form).bits (layout form).wide (vL / 2 ^ (t / (layout form).high * (layout form).stride) % 65536) (vR / 2 ^ (layout form).half / 2 ^ (t / (layout form).high * (layout form).stride) % 65536) L R j
      ≡ stored true (colour_at true s (pattern_source (shape true form) s (8 * ((layout form).rows * k + t) + j)))
  unfolding row_colour
  row_colour_lem = ap (stored true) (by_side (ltb j 4) (located form k t j h ht hj))
