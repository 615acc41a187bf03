-- Source document 001's own examples, and the end mark's two readings (document 02, W12), worked out by the definitions: one block of 8x8, four 4x4 of
-- which the first is given and three are skipped, on a picture of sevens. Its lower left pixel has index 56.
-- Assumes nothing.
use mathlib.Core.Path.{◌≡◌, refl}
use mathlib.Core.List.{List, [], ◌∷◌}
use Prim.Native.Nat.{ℕ}
use lib.ListN.{get_or, replicate}
use Rattle.words.specs.Word.{word_at}
use Rattle.refusal.specs.Number.{accept, refuse}
use Rattle.packet.specs.Verdict.{legal, legal_size}
use Rattle.stores.specs.Stores.{first_pixels, pixels, run, apply, stage}
use Rattle.video1.specs.Code.{code_of, code_at, long_of, passed_by, stores_of, flag, quad, source_of}
use Rattle.video1.specs.Frame.{end_verdict, walk_from, walk_verdict, position_from, position_of, spot, frame_verdict, drawn, frame_after}

pixel : List ℕ → ℕ → ℕ
pixel s t = get_or (frame_after 1 1 s (replicate 64 7)) t 0

-- "if bit 0 of byte_a is 1, the lower left pixel of the block is color_a. Otherwise, it's color_b": 01 00 0A 0B
two_colours : (pixel (1 ∷ 0 ∷ 10 ∷ 11 ∷ 3 ∷ 132 ∷ 0 ∷ 0 ∷ []) 56 ≡ 10) × (pixel (1 ∷ 0 ∷ 10 ∷ 11 ∷ 3 ∷ 132 ∷ 0 ∷ 0 ∷ []) 57 ≡ 11)
unfolding pixel code_of code_at long_of passed_by stores_of flag quad source_of end_verdict walk_from walk_verdict position_from position_of spot frame_verdict drawn frame_after first_pixels pixels run apply stage legal legal_size word_at
two_colours = (refl, refl)

-- "if bit 7 of byte_b is 1 then the color represented by quad4_a is placed in the top right corner of the 4x4 block": 00 90 01 .. 08
eight_colours : (pixel (0 ∷ 144 ∷ 1 ∷ 2 ∷ 3 ∷ 4 ∷ 5 ∷ 6 ∷ 7 ∷ 8 ∷ 3 ∷ 132 ∷ 0 ∷ 0 ∷ []) 35 ≡ 7) × (pixel (0 ∷ 144 ∷ 1 ∷ 2 ∷ 3 ∷ 4 ∷ 5 ∷ 6 ∷ 7 ∷ 8 ∷ 3 ∷ 132 ∷ 0 ∷ 0 ∷ []) 56 ≡ 2)
unfolding pixel code_of code_at long_of passed_by stores_of flag quad source_of end_verdict walk_from walk_verdict position_from position_of spot frame_verdict drawn frame_after first_pixels pixels run apply stage legal legal_size word_at
eight_colours = (refl, refl)

-- "The end mark 00 00 counts only after all blocks; until then it is a two-colour block": 00 00 0A 0B gives the second colour alone
early_mark : (pixel (0 ∷ 0 ∷ 10 ∷ 11 ∷ 3 ∷ 132 ∷ 0 ∷ 0 ∷ []) 56 ≡ 11) × (pixel (0 ∷ 0 ∷ 10 ∷ 11 ∷ 3 ∷ 132 ∷ 0 ∷ 0 ∷ []) 60 ≡ 7)
unfolding pixel code_of code_at long_of passed_by stores_of flag quad source_of end_verdict walk_from walk_verdict position_from position_of spot frame_verdict drawn frame_after first_pixels pixels run apply stage legal legal_size word_at
early_mark = (refl, refl)

-- data that ends early, a skip that passes the last block, a byte behind the mark; a skip that ends exactly at the last block, with one of none
refusals : (frame_verdict 1 1 (5 ∷ 128 ∷ 1 ∷ 0 ∷ 10 ∷ []) 64 ≡ refuse 24 0) × (frame_verdict 1 1 (5 ∷ 128 ∷ 4 ∷ 132 ∷ 0 ∷ 0 ∷ []) 64 ≡ refuse 25 0)
    × (frame_verdict 1 1 (4 ∷ 132 ∷ 0 ∷ 0 ∷ 0 ∷ []) 64 ≡ refuse 26 0) × (frame_verdict 1 1 (0 ∷ 132 ∷ 4 ∷ 132 ∷ 0 ∷ 0 ∷ []) 64 ≡ accept)
unfolding code_of code_at long_of passed_by end_verdict walk_from walk_verdict frame_verdict legal legal_size word_at
refusals = (refl, refl, refl, refl)
