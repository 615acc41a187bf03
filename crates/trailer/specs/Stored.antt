-- A frame of Microsoft Video 1, stored by the encoder (document 02, W12, "to be stored by W10").
-- Assumes nothing.
use Rattle.std.specs.Prelude.{List, ℕ}
use Rattle.encode.specs.Encode.{Task, task}
use Rattle.encode.specs.Draws.{Draws}
use Rattle.video1.specs.Frame.{frame_after}

-- the picture that the frame's data s leaves of the picture b is wanted
abbrev pub storing : ℕ → ℕ → List ℕ → List ℕ → List ℕ → List ℕ → Task
storing columns rows s b front back = task columns (frame_after columns rows s b) front back

-- its map and packet are accepted in strict form, the strict drawing gives that picture exactly and leaves what lies beyond it
abbrev pub Stored : ℕ → ℕ → List ℕ → List ℕ → List ℕ → List ℕ → Type 0
Stored columns rows s b front back = Draws (storing columns rows s b front back) rows
