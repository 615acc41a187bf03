-- Palette opcodes with fewer stores allowed than their lists have (document 02, W11), worked out by hand, on a palette whose bytes are all 9: what the definitions give,
-- and what was worked out.
-- Assumes nothing.
use Rattle.std.specs.Prelude.{List, [], ◌∷◌, ◌++◌, ℕ, take, replicate}
use Rattle.palette.specs.Update.{Update, Change, whole, unfinished, refused, change_on, palette_after}
use Rattle.palette.specs.Gradient.{create_gradient}
use Rattle.palette.specs.Entries.{set_palette}
use Rattle.palette.specs.Mask.{set_palette_compressed}
use Rattle.worked.specs.Cases.{Case, case}

-- "whole" as 1, "unfinished" as 2, a refusal as 4, with the stores made or the refusal's number
unfoldable pub changed : Change → List ℕ
changed (whole n) = 1 ∷ n ∷ []
changed (unfinished n) = 2 ∷ n ∷ []
changed (refused n k) = 4 ∷ n ∷ []

unfoldable pub nines : List ℕ
nines = replicate 768 9

-- the answer where n stores are allowed, and the bytes of entries 0 to 4 that are left
unfoldable pub tried : Update → ℕ → List ℕ
tried u n = changed (change_on u n nines) ++ take 15 (palette_after u n nines)

-- 0B, red and blue in entries 2 and 3, red and green in 3 and 4: 12 stores, the bytes of entry 3 twice
unfoldable pub gradients : Update
gradients = create_gradient (2 ∷ 1 ∷ 2 ∷ 3 ∷ 1 ∷ 2 ∷ [])

-- 0C, entries 1 and 2; and none
unfoldable pub entries : Update
entries = set_palette (1 ∷ 0 ∷ 2 ∷ 0 ∷ 10 ∷ 11 ∷ 12 ∷ 13 ∷ 14 ∷ 15 ∷ [])

unfoldable pub no_entries : Update
no_entries = set_palette (5 ∷ 0 ∷ 0 ∷ 0 ∷ [])

-- 0D, entries 0 and 2
unfoldable pub masks : Update
masks = set_palette_compressed (5 ∷ 1 ∷ 2 ∷ 3 ∷ 4 ∷ 5 ∷ 6 ∷ replicate 31 0)

unfoldable pub allowances : List Case
allowances =
    case (tried gradients 0) (2 ∷ 0 ∷ 9 ∷ 9 ∷ 9 ∷ 9 ∷ 9 ∷ 9 ∷ 9 ∷ 9 ∷ 9 ∷ 9 ∷ 9 ∷ 9 ∷ 9 ∷ 9 ∷ 9 ∷ [])
    ∷ case (tried gradients 8) (2 ∷ 8 ∷ 9 ∷ 9 ∷ 9 ∷ 9 ∷ 9 ∷ 9 ∷ 0 ∷ 0 ∷ 0 ∷ 0 ∷ 0 ∷ 39 ∷ 9 ∷ 9 ∷ 9 ∷ [])
    ∷ case (tried gradients 9) (2 ∷ 9 ∷ 9 ∷ 9 ∷ 9 ∷ 9 ∷ 9 ∷ 9 ∷ 0 ∷ 0 ∷ 0 ∷ 0 ∷ 0 ∷ 0 ∷ 9 ∷ 9 ∷ 9 ∷ [])
    ∷ case (tried gradients 11) (2 ∷ 11 ∷ 9 ∷ 9 ∷ 9 ∷ 9 ∷ 9 ∷ 9 ∷ 0 ∷ 0 ∷ 0 ∷ 0 ∷ 0 ∷ 0 ∷ 0 ∷ 39 ∷ 9 ∷ [])
    ∷ case (tried gradients 12) (1 ∷ 12 ∷ 9 ∷ 9 ∷ 9 ∷ 9 ∷ 9 ∷ 9 ∷ 0 ∷ 0 ∷ 0 ∷ 0 ∷ 0 ∷ 0 ∷ 0 ∷ 39 ∷ 0 ∷ [])
    ∷ case (tried gradients 312000) (1 ∷ 12 ∷ 9 ∷ 9 ∷ 9 ∷ 9 ∷ 9 ∷ 9 ∷ 0 ∷ 0 ∷ 0 ∷ 0 ∷ 0 ∷ 0 ∷ 0 ∷ 39 ∷ 0 ∷ [])
    ∷ case (tried entries 4) (2 ∷ 4 ∷ 9 ∷ 9 ∷ 9 ∷ 10 ∷ 11 ∷ 12 ∷ 13 ∷ 9 ∷ 9 ∷ 9 ∷ 9 ∷ 9 ∷ 9 ∷ 9 ∷ 9 ∷ [])
    ∷ case (tried entries 6) (1 ∷ 6 ∷ 9 ∷ 9 ∷ 9 ∷ 10 ∷ 11 ∷ 12 ∷ 13 ∷ 14 ∷ 15 ∷ 9 ∷ 9 ∷ 9 ∷ 9 ∷ 9 ∷ 9 ∷ [])
    ∷ case (tried no_entries 0) (1 ∷ 0 ∷ 9 ∷ 9 ∷ 9 ∷ 9 ∷ 9 ∷ 9 ∷ 9 ∷ 9 ∷ 9 ∷ 9 ∷ 9 ∷ 9 ∷ 9 ∷ 9 ∷ 9 ∷ [])
    ∷ case (tried masks 4) (2 ∷ 4 ∷ 1 ∷ 2 ∷ 3 ∷ 9 ∷ 9 ∷ 9 ∷ 4 ∷ 9 ∷ 9 ∷ 9 ∷ 9 ∷ 9 ∷ 9 ∷ 9 ∷ 9 ∷ [])
    ∷ case (tried masks 6) (1 ∷ 6 ∷ 1 ∷ 2 ∷ 3 ∷ 9 ∷ 9 ∷ 9 ∷ 4 ∷ 5 ∷ 6 ∷ 9 ∷ 9 ∷ 9 ∷ 9 ∷ 9 ∷ 9 ∷ [])
    ∷ []
