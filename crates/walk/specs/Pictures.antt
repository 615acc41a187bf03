-- The lent pictures, two of bytes and three of words: a step stores to the new one of the film's own kind alone (`proofs/Pictures.step_only_new`).
-- Assumes nothing.
use Rattle.std.specs.Prelude.{◌≡◌, List, ℕ}
use Rattle.draw.specs.declared.Allowed.{Allowed}
use Rattle.state.specs.declared.State.{State}
use Rattle.film.specs.Film.{Lent, with_palette, with_room, drawn_at, with_drawn, step_of}

-- palette and room apart, every step leaves all that is lent as it was but for the new picture and the place: the last picture, the oldest and those of the other kind stay
abbrev pub OnlyNew : List ℕ → State → Allowed → Lent → Type 0
OnlyNew film st allowed l =
    with_room (with_palette (step_of film st allowed l).lent l.palette) l.room
    ≡ with_drawn st l (drawn_at st (step_of film st allowed l).lent)

-- the pictures one by one: something holds of each picture of l and the same picture of m
pub record Pictures (P : List ℕ → List ℕ → Type 0) (l m : Lent) : Type 0 where
  pub first : P l.first m.first
  pub second : P l.second m.second
  pub words0 : P l.words.picture0 m.words.picture0
  pub words1 : P l.words.picture1 m.words.picture1
  pub words2 : P l.words.picture2 m.words.picture2
