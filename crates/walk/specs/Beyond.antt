-- What lies beyond the size in the lent pictures (document 01: "are never touched"), of bytes and of words, of every step, whatever the film, the state, what is
-- lent and the answer: nothing is written, and nothing is read, so that two steps that are lent the same up to the size answer the same and leave the same up to it.
-- Assumes nothing.
use Rattle.std.specs.Prelude.{◌≡◌, List, ℕ, take, drop}
use Rattle.draw.specs.declared.Allowed.{Allowed}
use Rattle.state.specs.declared.State.{State}
use Rattle.state.specs.State.{area}
use Rattle.film.specs.Film.{Lent, Outcome, step_of}
use Rattle.walk.specs.Pictures.{Pictures}

-- the pixels of a picture of the state's size; 0 where it has none
abbrev pub pixels : State → ℕ
pixels st = area st.columns st.rows

-- a picture x that was y is as it was from pixel n on
abbrev pub KeptFrom : ℕ → List ℕ → List ℕ → Type 0
KeptFrom n x y = drop n x ≡ drop n y

-- a step writes nothing beyond the size
abbrev pub Unwritten : List ℕ → State → Allowed → Lent → Type 0
Unwritten film st allowed l = Pictures (KeptFrom (pixels st)) (step_of film st allowed l).lent l

-- two pictures are the same up to pixel n
abbrev pub EqualTo : ℕ → List ℕ → List ℕ → Type 0
EqualTo n x y = take n x ≡ take n y

-- what is lent to two steps: the same but for the pictures from n on
pub record SameTo (n : ℕ) (l m : Lent) : Type 0 where
  pub palette : l.palette ≡ m.palette
  pub pictures : Pictures (EqualTo n) l m
  pub place : l.place ≡ m.place
  pub room : l.room ≡ m.room

-- one answer and count, and what is left is the same up to n
pub record SameSteps (n : ℕ) (x y : Outcome) : Type 0 where
  pub step : x.step ≡ y.step
  pub lent : SameTo n x.lent y.lent

-- a step reads nothing beyond the size
abbrev pub Unread : List ℕ → State → Allowed → Lent → Type 0
Unread film st allowed l = (m : Lent) → SameTo (pixels st) l m → SameSteps (pixels st) (step_of film st allowed l) (step_of film st allowed m)
