-- What a host may rely on, of every step by the function that the contract of `film::step` cites: a refused step and one at the end change nothing that
-- is lent, the cursor never goes back, and a film of n bytes is walked in at most n / 4 steps that are taken or whole. (Between them a drawing that is
-- allowed 65 stores or more a call goes on: `progress` of demand 3. A palette opcode is done where all its stores are allowed, at most 1,536.)
-- Assumes nothing.
use Rattle.std.specs.Prelude.{◌≡◌, List, ℕ, zero, suc, ◌+◌, ◌≤◌}
use Rattle.draw.specs.declared.Allowed.{Allowed}
use Rattle.state.specs.declared.State.{State}
use Rattle.opcodes.specs.Opcodes.{Answer, taken, whole, unfinished, ended, refused}
use Rattle.film.specs.Film.{Lent, Outcome, step_of}

-- from a state to one further on, in a film this long
pub record Forward (film : ℕ) (st next : State) : Type 0 where
  pub rises : st.cursor.position + 4 ≤ next.cursor.position
  pub ordered : next.cursor.position ≤ next.cursor.chunk_end
  pub inside : next.cursor.chunk_end ≤ film

-- the state that an answer gives: further on, or the one that came in; a refusal gives none
unfoldable pub Moves : ℕ → State → Answer → Type 0
Moves film st (taken s) = Forward film st s
Moves film st (whole s) = Forward film st s
Moves film st (unfinished s) = s ≡ st
Moves film st (ended s) = s ≡ st
Moves film st (refused n k) = Unit

-- the answers of a step that changes nothing lent: refused, or at the film's end
unfoldable pub Still : Answer → Type 0
Still (taken s) = ⊥
Still (whole s) = ⊥
Still (unfinished s) = ⊥
Still (ended s) = Unit
Still (refused n k) = Unit

abbrev pub Keeps : Lent → Outcome → Type 0
Keeps l o = Still o.step.answer → o.lent ≡ l

-- ---- walks

-- an answer that goes on with a state
unfoldable pub GoesTo : Answer → State → Type 0
GoesTo (taken s) t = s ≡ t
GoesTo (whole s) t = s ≡ t
GoesTo (unfinished s) t = ⊥
GoesTo (ended s) t = ⊥
GoesTo (refused n k) t = ⊥

-- n steps that were taken or whole, each with any allowance and whatever was lent; unfinished steps between them give the state back and do not count
pub data Walked (film : List ℕ) : ℕ → State → State → Type 0 where
  none : {st : State} → Walked film zero st st
  more : {n : ℕ} {st s t : State} → Walked film n st s → (allowed : Allowed) (l : Lent) → GoesTo (step_of film s allowed l).step.answer t → Walked film (suc n) st t
