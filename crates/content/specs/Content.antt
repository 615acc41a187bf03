-- A step by content: what a step does depends on the opcode's type, version and body, on what the state keeps, the pending map by its bytes, and on what is
-- lent, not on where these stand in the film.
-- Assumes nothing.
use Rattle.std.specs.Prelude.{◌≡◌, List, ℕ, ◌+◌, Option, Some, None}
use Rattle.state.specs.declared.Part.{Part}
use Rattle.state.specs.declared.State.{State}
use Rattle.heads.specs.declared.Opcode.{Opcode}
use Rattle.opcodes.specs.Opcodes.{Answer, taken, whole, unfinished, ended, refused}
use Rattle.film.specs.Film.{Outcome, part}

-- a pending map, by its bytes
pub data Pending : Type 0 where
  no_bytes : Pending
  map_bytes : List ℕ → Pending

unfoldable pub pending : List ℕ → Option Part → Pending
pending film None = no_bytes
pending film (Some map) = map_bytes (part film map.start (map.start + map.long))

-- all that a state keeps but its cursor, of two states over two films
pub record Alike (film : List ℕ) (st : State) (film' : List ℕ) (st' : State) : Type 0 where
  pub columns : st.columns ≡ st'.columns
  pub rows : st.rows ≡ st'.rows
  pub deep : st.deep ≡ st'.deep
  pub front : st.front ≡ st'.front
  pub map : pending film st.map ≡ pending film' st'.map
  pub unsent : st.unsent ≡ st'.unsent
  pub sound : st.sound ≡ st'.sound

-- two answers are of one kind, their states alike, their refusals one
pub data SameAnswer (film film' : List ℕ) : Answer → Answer → Type 0 where
  both_taken : {s t : State} → Alike film s film' t → SameAnswer film film' (taken s) (taken t)
  both_whole : {s t : State} → Alike film s film' t → SameAnswer film film' (whole s) (whole t)
  both_unfinished : {s t : State} → Alike film s film' t → SameAnswer film film' (unfinished s) (unfinished t)
  both_ended : {s t : State} → Alike film s film' t → SameAnswer film film' (ended s) (ended t)
  both_refused : (n k : ℕ) → SameAnswer film film' (refused n k) (refused n k)

pub record SameOutcome (film film' : List ℕ) (x y : Outcome) : Type 0 where
  pub answer : SameAnswer film film' x.step.answer y.step.answer
  pub stores : x.step.stores ≡ y.step.stores
  pub bytes : x.step.bytes ≡ y.step.bytes
  pub rows : x.step.rows ≡ y.step.rows
  pub lent : x.lent ≡ y.lent

-- two opcodes of two films: one type, one version, one body
pub record SameOpcode (film : List ℕ) (o : Opcode) (film' : List ℕ) (o' : Opcode) : Type 0 where
  pub kind : o.kind ≡ o'.kind
  pub version : o.version ≡ o'.version
  pub body : part film o.start (o.start + o.long) ≡ part film' o'.start (o'.start + o'.long)
