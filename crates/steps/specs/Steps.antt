-- The 256 steps of compressed sound, as source document 003 lists them, added in 16 bits (document 02, W5).
-- Assumes nothing.
use Rattle.std.specs.Prelude.{◌≡◌, List, [], ◌∷◌, ℕ, ◌+◌, ◌-◌, ◌%◌, ◌≤◌, ◌<◌, get_or}

-- a negative step, as 16-bit two's complement
abbrev pub minus : ℕ → ℕ
minus n = 65536 - n

unfoldable pub steps : List ℕ
steps =
    0 ∷ 1 ∷ 2 ∷ 3 ∷ 4 ∷ 5 ∷ 6 ∷ 7 ∷ 8 ∷ 9 ∷ 10 ∷ 11 ∷ 12 ∷ 13 ∷ 14 ∷ 15 ∷ 16 ∷ 17 ∷ 18 ∷ 19 ∷ 20 ∷ 21 ∷ 22 ∷ 23 ∷ 24 ∷ 25 ∷ 26 ∷ 27 ∷ 28 ∷ 29 ∷ 30 ∷
    31 ∷ 32 ∷ 33 ∷ 34 ∷ 35 ∷ 36 ∷ 37 ∷ 38 ∷ 39 ∷ 40 ∷ 41 ∷ 42 ∷ 43 ∷ 47 ∷ 51 ∷ 56 ∷ 61 ∷ 66 ∷ 72 ∷ 79 ∷ 86 ∷ 94 ∷ 102 ∷ 112 ∷ 122 ∷ 133 ∷ 145 ∷ 158 ∷
    173 ∷ 189 ∷ 206 ∷ 225 ∷ 245 ∷ 267 ∷ 292 ∷ 318 ∷ 348 ∷ 379 ∷ 414 ∷ 452 ∷ 493 ∷ 538 ∷ 587 ∷ 640 ∷ 699 ∷ 763 ∷ 832 ∷ 908 ∷ 991 ∷ 1081 ∷ 1180 ∷
    1288 ∷ 1405 ∷ 1534 ∷ 1673 ∷ 1826 ∷ 1993 ∷ 2175 ∷ 2373 ∷ 2590 ∷ 2826 ∷ 3084 ∷ 3365 ∷ 3672 ∷ 4008 ∷ 4373 ∷ 4772 ∷ 5208 ∷ 5683 ∷ 6202 ∷ 6767 ∷
    7385 ∷ 8059 ∷ 8794 ∷ 9597 ∷ 10472 ∷ 11428 ∷ 12471 ∷ 13609 ∷ 14851 ∷ 16206 ∷ 17685 ∷ 19298 ∷ 21060 ∷ 22981 ∷ 25078 ∷ 27367 ∷ 29864 ∷ 32589 ∷
    minus 29973 ∷ minus 26728 ∷ minus 23186 ∷ minus 19322 ∷ minus 15105 ∷ minus 10503 ∷ minus 5481 ∷ minus 1 ∷ 1 ∷ 1 ∷ 5481 ∷ 10503 ∷
    15105 ∷ 19322 ∷ 23186 ∷ 26728 ∷ 29973 ∷ minus 32589 ∷ minus 29864 ∷ minus 27367 ∷ minus 25078 ∷ minus 22981 ∷ minus 21060 ∷
    minus 19298 ∷ minus 17685 ∷ minus 16206 ∷ minus 14851 ∷ minus 13609 ∷ minus 12471 ∷ minus 11428 ∷ minus 10472 ∷ minus 9597 ∷
    minus 8794 ∷ minus 8059 ∷ minus 7385 ∷ minus 6767 ∷ minus 6202 ∷ minus 5683 ∷ minus 5208 ∷ minus 4772 ∷ minus 4373 ∷
    minus 4008 ∷ minus 3672 ∷ minus 3365 ∷ minus 3084 ∷ minus 2826 ∷ minus 2590 ∷ minus 2373 ∷ minus 2175 ∷ minus 1993 ∷
    minus 1826 ∷ minus 1673 ∷ minus 1534 ∷ minus 1405 ∷ minus 1288 ∷ minus 1180 ∷ minus 1081 ∷ minus 991 ∷ minus 908 ∷
    minus 832 ∷ minus 763 ∷ minus 699 ∷ minus 640 ∷ minus 587 ∷ minus 538 ∷ minus 493 ∷ minus 452 ∷ minus 414 ∷ minus 379 ∷
    minus 348 ∷ minus 318 ∷ minus 292 ∷ minus 267 ∷ minus 245 ∷ minus 225 ∷ minus 206 ∷ minus 189 ∷ minus 173 ∷ minus 158 ∷
    minus 145 ∷ minus 133 ∷ minus 122 ∷ minus 112 ∷ minus 102 ∷ minus 94 ∷ minus 86 ∷ minus 79 ∷ minus 72 ∷ minus 66 ∷
    minus 61 ∷ minus 56 ∷ minus 51 ∷ minus 47 ∷ minus 43 ∷ minus 42 ∷ minus 41 ∷ minus 40 ∷ minus 39 ∷ minus 38 ∷ minus 37 ∷
    minus 36 ∷ minus 35 ∷ minus 34 ∷ minus 33 ∷ minus 32 ∷ minus 31 ∷ minus 30 ∷ minus 29 ∷ minus 28 ∷ minus 27 ∷ minus 26 ∷
    minus 25 ∷ minus 24 ∷ minus 23 ∷ minus 22 ∷ minus 21 ∷ minus 20 ∷ minus 19 ∷ minus 18 ∷ minus 17 ∷ minus 16 ∷ minus 15 ∷
    minus 14 ∷ minus 13 ∷ minus 12 ∷ minus 11 ∷ minus 10 ∷ minus 9 ∷ minus 8 ∷ minus 7 ∷ minus 6 ∷ minus 5 ∷ minus 4 ∷
    minus 3 ∷ minus 2 ∷ minus 1 ∷ []

-- ---- what document 02 asks of the whole table

-- entries i and 256 - i cancel in 16 bits, for i from 1 to 255 except 128, which is 1
pub record Mirrored : Type 0 where
  pub cancel : (i : ℕ) → 1 ≤ i → i ≤ 255 → (i ≡ 128 → ⊥) → (get_or steps i 0 + get_or steps (256 - i) 0) % 65536 ≡ 0
  pub middle : get_or steps 128 0 ≡ 1

-- entries 0 to 119 rise
abbrev pub Rising : Type 0
Rising = (i j : ℕ) → i < j → j ≤ 119 → get_or steps i 0 < get_or steps j 0
