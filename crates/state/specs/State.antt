-- The state of a walk over a film, the tests of a state (16) and of what is lent (8), and the shown picture (document 01, "Film, chunks, opcodes").
-- Assumes nothing.
use Rattle.std.specs.Prelude.{Bool, true, false, cond, List, [], ℕ, ◌+◌, eqb, leb, ltb, length, take, Option, Some, None}
use Rattle.refusal.specs.Number.{Verdict, accept, refuse}
use Rattle.packet.specs.Packet.{pixels}
use Rattle.packet.specs.Verdict.{legal_size}
use Rattle.sound.specs.Format.{possible_sound}
use Rattle.state.specs.declared.Part.{Part}
use Rattle.state.specs.declared.State.{State}

-- ---- 16

-- the last picture that front can be: of two, or with true colour of three
unfoldable pub most_front : Bool → ℕ
most_front deep = cond deep 2 1

-- a size: none yet, which is 0x0 and without true colour, or a legal one
unfoldable pub possible_size : Bool → ℕ → ℕ → Bool
possible_size deep columns rows = cond (eqb columns 0) (cond deep false (eqb rows 0)) (legal_size columns rows)

-- the part that starts here and is this long, pending
abbrev pub some_part : ℕ → ℕ → Option Part
some_part start long = Some (record { start = start; long = long })

-- a pending map lies inside a film this long
unfoldable pub map_inside : Option Part → ℕ → Bool
map_inside None film = true
map_inside (Some map) film = leb (map.start + map.long) film

-- the size and the sound that a state keeps: no format that is both 8-bit and compressed
unfoldable pub possible : State → Bool
possible st = cond (possible_size st.deep st.columns st.rows) (possible_sound st.sound) false

-- a position, a chunk end, a film this long, whether the map lies inside, the most that front can be, front, and whether what is kept is possible
unfoldable pub bounds_verdict : ℕ → ℕ → ℕ → Bool → ℕ → ℕ → Bool → Verdict
bounds_verdict position end film map most front kept =
    cond (ltb end position) (refuse 16 0)
    (cond (ltb film end) (refuse 16 0)
    (cond map (cond (ltb most front) (refuse 16 0) (cond kept accept (refuse 16 0))) (refuse 16 0)))

unfoldable pub state_verdict : State → ℕ → Verdict
state_verdict st film =
    bounds_verdict st.cursor.position st.cursor.chunk_end film (map_inside st.map film) (most_front st.deep) st.front (possible st)

-- ---- 8

-- the pixels of a picture of legal size; 0 where there is none
unfoldable pub area : ℕ → ℕ → ℕ
area columns rows = cond (legal_size columns rows) (pixels columns rows) 0

unfoldable pub least_of : ℕ → ℕ → ℕ
least_of a b = cond (ltb a b) a b

-- the length of the shortest of the film's own pictures: two of bytes, or with true colour three of words
unfoldable pub shortest_of : Bool → ℕ → ℕ → ℕ → ℕ → ℕ → ℕ
shortest_of deep a b c d e = cond deep (least_of (least_of c d) e) (least_of a b)

-- a palette and a shortest picture this long, where a picture has this many pixels
unfoldable pub lent_verdict : ℕ → ℕ → ℕ → Verdict
lent_verdict pixels palette shortest = cond (eqb palette 768) (cond (ltb shortest pixels) (refuse 8 0) accept) (refuse 8 0)

-- ---- the shown picture

-- the leading part of a list, empty where the list is shorter
unfoldable pub leading : {A : Type 0} → List A → ℕ → List A
leading s n = cond (leb n (length s)) (take n s) (take 0 s)

-- of the picture that is front, 0 or 1
unfoldable pub chosen : ℕ → ℕ → List ℕ → List ℕ → List ℕ
chosen front n a b = cond (eqb front 0) (leading a n) (cond (eqb front 1) (leading b n) (leading a 0))

-- none of a film with true colour
unfoldable pub shown_of : State → List ℕ → List ℕ → List ℕ
shown_of st a b = cond st.deep [] (chosen st.front (area st.columns st.rows) a b)

-- of the picture of words that is front, 0 to 2
unfoldable pub chosen_words : ℕ → ℕ → List ℕ → List ℕ → List ℕ → List ℕ
chosen_words front n c d e = cond (eqb front 0) (leading c n) (cond (eqb front 1) (leading d n) (cond (eqb front 2) (leading e n) (leading c 0)))

-- none of a film without true colour
unfoldable pub shown_words_of : State → List ℕ → List ℕ → List ℕ → List ℕ
shown_words_of st c d e = cond st.deep (chosen_words st.front (area st.columns st.rows) c d e) []
