-- Exported calls in a row, each given the state's numbers of the answer before it. An answer is the 26 numbers that a call leaves at the front of `out`: `proofs/Answers`. `proofs/Row`: a film of n bytes is walked in at most n / 4 steps that are taken or
-- whole, and `mve_open` and steps come to what `mve_begin` answers and leaves.
-- Assumes nothing.
use Rattle.std.specs.Prelude.{◌≡◌, cond, List, ℕ, zero, suc, ◌≤◌, ◌<◌, eqb, length, get_or, None}
use Rattle.sound.specs.Step.{enough}
use Rattle.film.specs.Film.{Words, Lent, lent}
use Rattle.walk.specs.Play.{most}
use Rattle.mve_answers.specs.Answer.{of_rows}
use Rattle.mve_steps.specs.Step.{stepped, kind_in, state_in}
use Rattle.exports.specs.Calls.{open_answer, Exported, step_answer, Opens, opening, begin_answer}

-- ---- a walk

-- n steps whose answers were taken (0) or whole (1), each with any allowance and form and whatever was lent
pub data Steps (film : List ℕ) : ℕ → List ℕ → List ℕ → Type 0 where
  none : {m : List ℕ} → Steps film zero m m
  more : {n : ℕ} {m s t : List ℕ} → Steps film n m s → (allowed form : ℕ) (l : Lent) → kind_in (step_answer film s allowed form l).answer ≤ 1
      → state_in (step_answer film s allowed form l).answer ≡ t → Steps film (suc n) m t

-- ---- opening by separate calls

-- what a host gives to a step beside the state, the palette and the place
pub record Beside : Type 0 where
  pub first : List ℕ
  pub second : List ℕ
  pub room : List ℕ
  pub words : Words
  pub allowed : ℕ
  pub form : ℕ

-- the room and the stores are always enough
pub record Ample (x : Beside) : Type 0 where
  pub room : enough ≤ length x.room
  pub stores : most ≤ x.allowed

abbrev pub step_beside : Beside → List ℕ → List ℕ → List ℕ → ℕ → Exported
step_beside x film m palette place = step_answer film m x.allowed x.form (lent palette x.first x.second place x.room x.words)

-- of a state's numbers
abbrev pub columns_in : List ℕ → ℕ
columns_in m = get_or m 2 0

-- steps from a state's numbers, a palette and a place, until a size appears (opened, 0), or one is refused (4) or at the film's end (3; then 21)
pub data Stepping (film : List ℕ) : List ℕ → List ℕ → ℕ → Opens → Type 0 where
  there : {m palette : List ℕ} {place : ℕ} → (columns_in m ≡ 0 → ⊥) → Stepping film m palette place (opening (stepped 0 0 0 0 0 (of_rows None) m) palette place)
  refused : {m palette : List ℕ} {place : ℕ} → columns_in m ≡ 0 → (x : Beside) → Ample x → kind_in (step_beside x film m palette place).answer ≡ 4
      → Stepping film m palette place (opening (step_beside x film m palette place).answer palette place)
  ended : {m palette : List ℕ} {place : ℕ} → columns_in m ≡ 0 → (x : Beside) → Ample x → kind_in (step_beside x film m palette place).answer ≡ 3
      → Stepping film m palette place (opening (stepped 4 21 0 0 0 (of_rows None) m) palette place)
  more : {m palette : List ℕ} {place : ℕ} {o : Opens} → columns_in m ≡ 0 → (x : Beside) → Ample x → kind_in (step_beside x film m palette place).answer < 3
      → Stepping film (state_in (step_beside x film m palette place).answer) (step_beside x film m palette place).lent.palette (step_beside x film m palette place).lent.place o
      → Stepping film m palette place o

-- a refusal (4) leaves palette and place as they were
unfoldable pub kept : List ℕ → ℕ → Opens → Opens
kept palette place o = cond (eqb (kind_in o.answer) 4) (opening o.answer palette place) o

-- of `mve_begin` that is lent a palette and a place
pub record Separately (film : List ℕ) (stream : ℕ) (palette : List ℕ) (place : ℕ) : Type 0 where
  -- `mve_open` comes first
  pub unopened : kind_in (open_answer film stream) ≡ 4 → begin_answer film stream palette place ≡ opening (open_answer film stream) palette place
  -- then the steps, which end, and however they are taken the call answers as they do and leaves what they leave
  pub opened : kind_in (open_answer film stream) ≡ 0 → (o : Opens) → Stepping film (state_in (open_answer film stream)) palette place o → begin_answer film stream palette place ≡ kept palette place o
  pub end : kind_in (open_answer film stream) ≡ 0 → (o : Opens) × Stepping film (state_in (open_answer film stream)) palette place o
