-- The blocks of a picture that are so far from its edges that no block of codes 2 to 4 there is copied from outside (document 01, "Packet, blocks, place").
-- Assumes nothing.
use Rattle.std.specs.Prelude.{Bool, false, cond, ℕ, ◌+◌, ltb, leb}

-- the 8x8 at x, y stands 16 pixels or more from each edge of a picture w by h
unfoldable pub is_amid : ℕ → ℕ → ℕ → ℕ → Bool
is_amid w h x y = cond (ltb x 16) false (cond (ltb w (x + 24)) false (cond (ltb y 16) false (leb (y + 24) h)))
