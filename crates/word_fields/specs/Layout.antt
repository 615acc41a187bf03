-- How a patterned block of a film with true colour is drawn: in bands, rows of pixels whose fields are one number of at most eight bytes. In a band there is one part, or two
-- side by side; the left four pixels of a row are of the left part, the right four of the right one.
-- Assumes nothing.
use Rattle.std.specs.Prelude.{◌≡◌, ◌⊎◌, true, cond, List, ℕ, zero, suc, ◌+◌, ◌*◌, ◌/◌, ◌%◌, ◌^◌, ◌<◌, ltb, get_or}
use Rattle.pattern.specs.declared.Form.{Form}
use Rattle.pattern.specs.declared.Form.TheVariants.{Two1x1, Two2x2, TwoQuarters, TwoLeftRight, TwoTopBottom, Four1x1, Four2x2, Four2x1, Four1x2, FourQuarters, FourLeftRight, FourTopBottom}
use Rattle.block.specs.Block.{colour_at, stored}
use Rattle.word_fields.specs.declared.Layout.{Layout}

-- bits of a field; width and height of a cell; rows of a band; bytes from a band's part to the next band's, from the left part to the right one, from a band's fields to the
-- next band's; bytes of a band's fields in a part; bits from a row of cells to the next; bits from the fields of a row's left four pixels to those of its right four
abbrev pub laid_out : ℕ → ℕ → ℕ → ℕ → ℕ → ℕ → ℕ → ℕ → ℕ → ℕ → Layout
laid_out bits wide high rows part beyond fields count stride half = record { bits = bits; wide = wide; high = high; rows = rows; part = part; beyond = beyond; fields = fields; count = count; stride = stride; half = half }

abbrev pub layout : Form → Layout
layout Two1x1 = laid_out 1 1 1 8 0 0 0 8 8 4
layout Two2x2 = laid_out 1 2 2 8 0 0 0 2 4 2
layout TwoQuarters = laid_out 1 1 1 4 6 12 6 2 4 0
layout TwoLeftRight = laid_out 1 1 1 8 0 8 0 4 4 0
layout TwoTopBottom = laid_out 1 1 1 4 8 0 8 4 8 4
layout Four1x1 = laid_out 2 1 1 4 0 0 8 8 16 8
layout Four2x2 = laid_out 2 2 2 8 0 0 0 4 8 4
layout Four2x1 = laid_out 2 2 1 8 0 0 0 8 8 4
layout Four1x2 = laid_out 2 1 2 8 0 0 0 8 16 8
layout FourQuarters = laid_out 2 1 1 4 12 24 12 4 8 0
layout FourLeftRight = laid_out 2 1 1 8 0 16 0 8 8 0
layout FourTopBottom = laid_out 2 1 1 4 16 0 16 8 16 8

-- the number that n bytes of s from q on make, the first byte the lowest
unfoldable pub little_endian : List ℕ → ℕ → ℕ → ℕ
little_endian s q zero = 0
little_endian s q (suc n) = get_or s q 0 + 256 * little_endian s (q + 1) n

-- the n elements of s from q on are bytes
abbrev pub AreBytes : List ℕ → ℕ → ℕ → Type 0
AreBytes s q n = (k : ℕ) → k < n → get_or s (q + k) 0 < 256

-- the numbers of bytes that a band's fields have
abbrev pub FieldBytes : ℕ → Type 0
FieldBytes n = (n ≡ 2) ⊎ (n ≡ 4) ⊎ (n ≡ 8)

-- what is stored at column j of a row: left and right are the fields of its two halves, the lowest first, l and r the colours that they choose from
unfoldable pub row_colour : ℕ → ℕ → ℕ → ℕ → List ℕ → List ℕ → ℕ → ℕ
row_colour bits wide left right l r j = stored true (get_or (cond (ltb j 4) l r) (cond (ltb j 4) left right / 2 ^ (j % 4 / wide * bits) % 2 ^ bits) 0)

-- a part's colours are those that begin at byte j, one for each value of a field of so many bits
abbrev pub Coloured : ℕ → List ℕ → ℕ → List ℕ → Type 0
Coloured bits s j l = (c : ℕ) → c < 2 ^ bits → get_or l c 0 ≡ colour_at true s (j + 2 * c)
