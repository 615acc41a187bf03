-- Opcode 0B, create gradient: base, R rows, B columns for red and blue, then base, R rows, G columns for red and green, 6 bytes. The entries of a
-- gradient go row by row from its base on. Red rises from 0 to 63 down the rows, the second colour from 0 to 39 along the columns.
-- Assumes nothing.
use Rattle.std.specs.Prelude.{Bool, true, false, cond, List, ◌++◌, ℕ, ◌+◌, ◌-◌, ◌*◌, ◌/◌, ◌%◌, eqb, ltb, leb, length, get_or}
use Rattle.listed.specs.Store.{Store, bytes}
use Rattle.palette.specs.Update.{Update}
-- second: which component is the second colour, 1 green, 2 blue; red is 0
pub use Rattle.palette.specs.declared.Gradient.{Gradient}

abbrev pub gradient : ℕ → ℕ → ℕ → ℕ → Gradient
gradient base rows columns second = record { base = base; rows = rows; columns = columns; second = second }

-- how many; none where rows or columns are 0: then the gradient is absent
abbrev pub entries : Gradient → ℕ
entries g = g.rows * g.columns

-- n entries from a base on are among the 256; the base of none is not tested
unfoldable pub fits : ℕ → ℕ → Bool
fits base n = cond (eqb n 0) true (leb (base + n) 256)

abbrev pub gradient_fits : Gradient → Bool
gradient_fits g = fits g.base (entries g)

-- step i of n from 0 to most, divided without remainder kept; 0 where there is one alone
unfoldable pub level : ℕ → ℕ → ℕ → ℕ
level most i n = cond (ltb n 2) 0 (most * i / (n - 1))

-- byte i of the entries, 3 an entry: component i % 3 of entry i / 3, which stands in row i / 3 / columns and column i / 3 % columns
unfoldable pub component : ℕ → ℕ → ℕ → ℕ → ℕ
component rows columns second i =
    cond (eqb (i % 3) 0) (level 63 (i / 3 / columns) rows)
    (cond (eqb (i % 3) second) (level 39 (i / 3 % columns) columns) 0)

-- all of them, from the base on
abbrev pub gradient_stores : Gradient → List Store
gradient_stores g = bytes (3 * g.base) (component g.rows g.columns g.second) (3 * entries g)

-- the gradient that three bytes of a body give
abbrev pub gradient_at : List ℕ → ℕ → ℕ → Gradient
gradient_at body at second = gradient (get_or body at 0) (get_or body (at + 1) 0) (get_or body (at + 2) 0) second

abbrev pub red_blue : List ℕ → Gradient
red_blue body = gradient_at body 0 2

abbrev pub red_green : List ℕ → Gradient
red_green body = gradient_at body 3 1

-- red and blue first
abbrev pub create_gradient : List ℕ → Update
create_gradient body =
    record {
      exact = eqb (length body) 6;
      inside = cond (gradient_fits (red_blue body)) (gradient_fits (red_green body)) false;
      stores = gradient_stores (red_blue body) ++ gradient_stores (red_green body);
    }
