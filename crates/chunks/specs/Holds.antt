-- What the condition of a chunk says of its opcodes, one by one.
-- Assumes nothing.
use Rattle.std.specs.Prelude.{◌≡◌, Bool, true, false, List, ℕ}
use Rattle.refusal.specs.Number.{accept, refuse}
use Rattle.parts.specs.Parts.{part}
use Rattle.state.specs.declared.Cursor.{Cursor}
use Rattle.state.specs.Moves.{cursor}
use Rattle.heads.specs.declared.Opcode.{Opcode}
use Rattle.heads.specs.Heads.{gives, refused, opcode_at, taken_verdict}
use Rattle.chunks.specs.Chunks.{end_of, is_exact, Condition, intact, scratched}

-- an opcode stands at a cursor, and none of 3, 4 and 5 is met
pub record Stands (film : List ℕ) (c : Cursor) (o : Opcode) : Type 0 where
  pub head : opcode_at film c ≡ gives o
  pub shape : taken_verdict true o.kind o.version o.long ≡ accept
  pub exact : is_exact o.kind (part film o.start (end_of o)) ≡ true

-- 3, or 4 or 5 of a type, a version and a length, or 5 of 0C and 0D is met at a cursor
pub data Meets (film : List ℕ) (c : Cursor) : ℕ → Type 0 where
  at_head : {n k : ℕ} → opcode_at film c ≡ refused n k → Meets film c n
  at_shape : {n k : ℕ} (o : Opcode) → opcode_at film c ≡ gives o → taken_verdict true o.kind o.version o.long ≡ refuse n k → Meets film c n
  at_body : (o : Opcode) → opcode_at film c ≡ gives o → taken_verdict true o.kind o.version o.long ≡ accept → is_exact o.kind (part film o.start (end_of o)) ≡ false
      → Meets film c 5

-- from p to the chunk's end e every opcode stands; whether 00 is among them
pub data Passes (film : List ℕ) : ℕ → ℕ → Bool → Type 0 where
  chunk_over : {e : ℕ} → Passes film e e false
  last_is_00 : {p e : ℕ} (o : Opcode) → Stands film (cursor p e) o → o.kind ≡ 0 → Passes film p e true
  passes_on : {p e : ℕ} {b : Bool} (o : Opcode) → Stands film (cursor p e) o → (o.kind ≡ 0 → ⊥) → Passes film (end_of o) e b → Passes film p e b

-- from p on opcodes stand, and then this refusal is the first
pub data Fails (film : List ℕ) : ℕ → ℕ → ℕ → Type 0 where
  fails_here : {p e n : ℕ} → (p ≡ e → ⊥) → Meets film (cursor p e) n → Fails film p e n
  fails_later : {p e n : ℕ} (o : Opcode) → Stands film (cursor p e) o → (o.kind ≡ 0 → ⊥) → Fails film (end_of o) e n → Fails film p e n

unfoldable pub Holds : List ℕ → ℕ → ℕ → Condition → Type 0
Holds film p e (intact b) = Passes film p e b
Holds film p e (scratched n) = Fails film p e n
