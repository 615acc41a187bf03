-- What is left of a film, opcode by opcode and chunk by chunk, with what is known of each.
-- Assumes nothing.
use Rattle.std.specs.Prelude.{◌≡◌, Bool, true, false, List, [], ◌∷◌, ◌++◌, ℕ, ◌+◌, length}
use Rattle.parts.specs.Parts.{part}
use Rattle.state.specs.Moves.{cursor}
use Rattle.heads.specs.declared.Opcode.{Opcode}
use Rattle.chunks.specs.Chunks.{end_of, intact, chunk_to, following_at}
use Rattle.chunks.specs.Holds.{Stands}
use Rattle.strip.specs.Strip.{is_kept, chunk_with}

-- whether an opcode of a film is kept for a stream
abbrev pub kept_in : List ℕ → ℕ → Opcode → Bool
kept_in film stream o = is_kept stream o.kind (part film o.start (end_of o))

-- of the opcodes from p to the chunk's end e these bytes are kept; whether 00 is among them
pub data Body (film : List ℕ) (stream : ℕ) : ℕ → ℕ → List ℕ → Bool → Type 0 where
  none : {e : ℕ} → Body film stream e e [] false
  drop : {p e : ℕ} {b : List ℕ} {z : Bool} (o : Opcode) → Stands film (cursor p e) o → kept_in film stream o ≡ false → (o.kind ≡ 0 → ⊥) → Body film stream (end_of o) e b z
      → Body film stream p e b z
  keep : {p e : ℕ} {b : List ℕ} {z : Bool} (o : Opcode) → Stands film (cursor p e) o → kept_in film stream o ≡ true → (o.kind ≡ 0 → ⊥) → Body film stream (end_of o) e b z
      → Body film stream p e (part film p (end_of o) ++ b) z
  last : {p e : ℕ} (o : Opcode) → Stands film (cursor p e) o → o.kind ≡ 0 → Body film stream p e (part film p (end_of o)) true

-- of the chunks from a chunk's end e on these bytes are left: nothing of an empty chunk, and nothing behind the chunk with 00
pub data Rest (film : List ℕ) (stream : ℕ) : ℕ → List ℕ → Type 0 where
  over : {e : ℕ} → e ≡ length film → Rest film stream e []
  chunk : {e x y : ℕ} {b r : List ℕ} → following_at film e ≡ chunk_to x (intact false) → Body film stream (e + 4) x (y ∷ b) false → Rest film stream x r
      → Rest film stream e (chunk_with film e (y ∷ b) ++ r)
  empty : {e x : ℕ} {r : List ℕ} → following_at film e ≡ chunk_to x (intact false) → Body film stream (e + 4) x [] false → Rest film stream x r → Rest film stream e r
  closing : {e x y : ℕ} {b : List ℕ} → following_at film e ≡ chunk_to x (intact true) → Body film stream (e + 4) x (y ∷ b) true → Rest film stream e (chunk_with film e (y ∷ b))
