-- Opcode 0D, set palette entries compressed: 32 groups of 8 entries, each a mask byte and 3 bytes for each one bit, lowest bit first entry.
-- Assumes nothing.
use Rattle.std.specs.Prelude.{true, List, ℕ, zero, suc, ◌+◌, ◌*◌, ◌/◌, ◌%◌, ◌^◌, eqb, length, get_or}
use Rattle.listed.specs.Store.{Store, each, bytes, from}
use Rattle.palette.specs.Update.{Update}

-- bit i of a mask; bit 0 is the lowest
unfoldable pub bit : ℕ → ℕ → ℕ
bit mask i = mask / 2 ^ i % 2

-- how many of the i lowest bits are one
unfoldable pub ones : ℕ → ℕ → ℕ
ones mask zero = 0
ones mask (suc i) = ones mask i + bit mask i

-- where a group ends that starts at position at. Past the body's end a mask counts as 0, so groups that lack bytes end behind it
unfoldable pub group_end : List ℕ → ℕ → ℕ
group_end body at = at + 1 + 3 * ones (get_or body at 0) 8

-- where group k starts
unfoldable pub group_at : List ℕ → ℕ → ℕ
group_at body zero = 0
group_at body (suc k) = group_end body (group_at body k)

-- entry i of a group whose first entry is `entry`: 3 bytes, behind those of the one bits below, or none
abbrev pub masked : List ℕ → ℕ → ℕ → ℕ → ℕ → List Store
masked body mask at entry i = bytes (3 * (entry + i)) (from body (at + 3 * ones mask i)) (3 * bit mask i)

-- group k: its mask, then its entries' bytes
unfoldable pub group_stores : List ℕ → ℕ → List Store
group_stores body k = each (masked body (get_or body (group_at body k) 0) (group_at body k + 1) (8 * k)) 8

abbrev pub set_palette_compressed : List ℕ → Update
set_palette_compressed body =
    record {
      exact = eqb (group_at body 32) (length body);
      inside = true;
      stores = each (group_stores body) 32;
    }
