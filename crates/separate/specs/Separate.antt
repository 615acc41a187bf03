-- What the separate calls come to, said without a count of steps: each step may be lent other pictures and another room that is always enough, and be
-- allowed any number of stores from 312,000 on. `proofs/Separate`: for every film they come to one end, and the opening call answers and leaves that.
-- Assumes nothing.
use Rattle.std.specs.Prelude.{◌≡◌, List, ℕ, ◌≤◌, ◌<◌, length, get_or}
use Rattle.draw.specs.declared.Allowed.{Allowed}
use Rattle.sound.specs.Step.{enough}
use Rattle.state.specs.declared.State.{State}
use Rattle.opening.specs.Opening.{started, refuses, opening_of}
use Rattle.film.specs.Film.{Words, lent, Outcome, step_of}
use Rattle.walk.specs.Play.{most}
use Rattle.begin.specs.Begin.{goes, stops, course_of, sized, stopped, Came, came, kept, nowhere, begin_of}

-- a film is bytes
abbrev pub Bytes : List ℕ → Type 0
Bytes film = (i : ℕ) → get_or film i 0 < 256

-- what is lent to a step beside the palette and the place, and the stores that it is allowed
pub record Beside : Type 0 where
  pub first : List ℕ
  pub second : List ℕ
  pub room : List ℕ
  pub words : Words
  pub allowed : Allowed

-- the room and the stores are always enough
pub record Ample (x : Beside) : Type 0 where
  pub room : enough ≤ length x.room
  pub stores : most ≤ x.allowed.stores

abbrev pub step_beside : Beside → List ℕ → State → List ℕ → ℕ → Outcome
step_beside x film st palette place = step_of film st x.allowed (lent palette x.first x.second place x.room x.words)

-- steps from a state, a palette and a place, until a size appears or one stops
pub data Stepping (film : List ℕ) : State → List ℕ → ℕ → Came → Type 0 where
  there : {st : State} {palette : List ℕ} {place : ℕ} → (st.columns ≡ 0 → ⊥) → Stepping film st palette place (came (sized st) palette place)
  ends : {st : State} {palette : List ℕ} {place n k : ℕ} → st.columns ≡ 0 → (x : Beside) → Ample x
      → course_of (step_beside x film st palette place).step.answer ≡ stops n k → Stepping film st palette place (came (stopped n k st) palette place)
  more : {st t : State} {palette : List ℕ} {place : ℕ} {c : Came} → st.columns ≡ 0 → (x : Beside) → Ample x
      → course_of (step_beside x film st palette place).step.answer ≡ goes t
      → Stepping film t (step_beside x film st palette place).lent.palette (step_beside x film st palette place).lent.place c
      → Stepping film st palette place c

-- of an opening call that is lent a palette and a place
pub record Separately (film : List ℕ) (stream : ℕ) (palette : List ℕ) (place : ℕ) : Type 0 where
  -- opening comes first
  pub unopened : (n k : ℕ) → opening_of film stream ≡ refuses n k → begin_of film stream palette place ≡ came (stopped n k nowhere) palette place
  -- then the steps, which end, and however they are taken the call answers as they do and leaves what they leave; on a refusal nothing is changed
  pub opened : (st : State) → opening_of film stream ≡ started st → (c : Came) → Stepping film st palette place c → begin_of film stream palette place ≡ kept palette place c
  pub end : (st : State) → opening_of film stream ≡ started st → (c : Came) × Stepping film st palette place c
