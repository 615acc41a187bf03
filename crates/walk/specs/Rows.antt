-- Rows of blocks that a step does not touch (document 02, W2): of every step, whatever the film, the state, what is lent and the answer, in the default
-- and in the strict form, the pixels of all pictures outside the rows that it tells are as they were. A step that does not draw tells none.
-- Assumes nothing.
use Rattle.std.specs.Prelude.{◌≡◌, List, ℕ, get_or}
use Rattle.packet.specs.Rows.{Outside}
use Rattle.draw.specs.declared.Allowed.{Allowed}
use Rattle.state.specs.declared.State.{State}
use Rattle.film.specs.Film.{Lent, step_of}
use Rattle.walk.specs.Pictures.{Pictures}

-- pixel t of a picture x that was y is as it was
abbrev pub PixelKept : ℕ → List ℕ → List ℕ → Type 0
PixelKept t x y = get_or x t 0 ≡ get_or y t 0

abbrev pub Unchanged : List ℕ → State → Allowed → Lent → Type 0
Unchanged film st allowed l =
    (t : ℕ) → Outside st.columns (step_of film st allowed l).step.rows t → Pictures (PixelKept t) (step_of film st allowed l).lent l
