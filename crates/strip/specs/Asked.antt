-- What the functions below the call ask of their callers, and what they give.
-- Assumes nothing.
use Rattle.std.specs.Prelude.{◌≡◌, Bool, true, cond, Result, List, ℕ, ◌+◌, ◌≤◌, length, take}
use Rattle.words.specs.Word.{word_at}
use Rattle.refusal.specs.declared.Refusal.{Refusal}
use Rattle.parts.specs.Parts.{laid}
use Rattle.state.specs.Moves.{cursor}
use Rattle.strip.specs.Strip.{kept_of, left_of_chunk, Left, remains, meets, before, left_of_chunks, roomed, answer_by, written_of, answer_as}

-- these bytes stand in the room from index to on, where they are stored; the answer is how many they are
pub record Stored (storing : Bool) (bytes : List ℕ) (to : ℕ) (room₀ : List ℕ) (r : ℕ) (room : List ℕ) : Type 0 where
  pub length_is : r ≡ length bytes
  pub room_after : room ≡ cond storing (laid to bytes room₀) room₀

-- the opcodes from p to end lie in the film; what is stored has room, and lies no further back than where it comes from
pub record Opcodes (storing : Bool) (film : List ℕ) (stream p end to room : ℕ) : Type 0 where
  pub ordered : p ≤ end
  pub inside : end ≤ length film
  pub behind : to ≤ p
  pub room_for : storing ≡ true → to + length (kept_of film stream (cursor p end)) ≤ room

pub record Chunk (storing : Bool) (film : List ℕ) (stream e to room : ℕ) : Type 0 where
  pub inside : e + 4 + word_at film e ≤ length film
  pub behind : to ≤ e
  pub room_for : storing ≡ true → to + length (left_of_chunk film stream e (e + 4 + word_at film e)) ≤ room

-- the header is there; where something is stored, the film was measured: these bytes are left of its chunks, and they have room
pub record Roomy (storing : Bool) (film : List ℕ) (stream room : ℕ) : Type 0 where
  pub header : 26 ≤ length film
  pub left : List ℕ
  pub left_is : storing ≡ true → left_of_chunks film stream ≡ remains left
  pub room_for : storing ≡ true → 26 + length left ≤ room

-- what is left, behind the header
unfoldable pub laid_by : Left → List ℕ → List ℕ
laid_by (remains bytes) room = laid 26 bytes room
laid_by (meets n) room = room

pub record Passed (storing : Bool) (film : List ℕ) (stream : ℕ) (room₀ : List ℕ) (r : Result ℕ Refusal) (room : List ℕ) : Type 0 where
  pub answer : answer_as r ≡ answer_by (before (take 26 film) (left_of_chunks film stream))
  pub room_after : room ≡ cond storing (laid_by (left_of_chunks film stream) room₀) room₀

-- of a film that has its header
pub record Wrote (film : List ℕ) (stream : ℕ) (room₀ : List ℕ) (r : Result ℕ Refusal) (room : List ℕ) : Type 0 where
  pub answer : answer_as r ≡ answer_by (roomed (length room₀) (before (take 26 film) (left_of_chunks film stream)))
  pub room_after : room ≡ written_of (roomed (length room₀) (before (take 26 film) (left_of_chunks film stream))) room₀
