-- A film without what the player passes over (document 02, W14): the opcodes that a player of one stream acts on, in chunks of the same type, up to the chunk with 00.
-- Assumes nothing.
use Rattle.std.specs.Prelude.{Bool, true, false, cond, not, Result, Ok, Err, List, [], ◌∷◌, ◌++◌, ℕ, zero, suc, ◌+◌, ◌/◌, ◌%◌, eqb, ltb, length, take, get_or}
use Rattle.words.specs.Word.{word_at}
use Rattle.refusal.specs.declared.Refusal.{Refusal}
use Rattle.refusal.specs.Number.{number}
use Rattle.room.specs.Room.{written}
use Rattle.parts.specs.Parts.{part}
use Rattle.sound.specs.Format.{chosen, masked}
use Rattle.state.specs.declared.Cursor.{Cursor}
use Rattle.state.specs.Moves.{cursor, cursor_behind}
use Rattle.heads.specs.declared.Opcode.{Opcode}
use Rattle.heads.specs.Heads.{passed_over, is_sound}
use Rattle.next.specs.Next.{Standing, refused, ended, chunk, opcode, standing_at}
use Rattle.opening.specs.Opening as opening
use Rattle.opening.specs.Opening.{Opening, opening_of}
use Rattle.chunks.specs.Chunks.{end_of, intact, scratched, Following, film_end, past_end, chunk_to, following_at}

-- ---- one opcode

-- those that are acted on are kept, 00 and 01 among them. Of sound, where a stream is chosen: 03, and 08 and 09 whose mask has the stream's bit
unfoldable pub is_kept : ℕ → ℕ → List ℕ → Bool
is_kept stream kind body = cond (is_sound kind) (cond (eqb kind 3) (chosen stream) (masked stream (word_at body 2))) (not (passed_over kind))

-- ---- one chunk, whose opcodes are tested

-- an opcode whose head stands at p, with its head, where it is kept
unfoldable pub opcode_left : List ℕ → ℕ → ℕ → Opcode → List ℕ
opcode_left film stream p o = cond (is_kept stream o.kind (part film o.start (end_of o))) (part film p (end_of o)) []

-- by what stands at p, and then what is kept behind it
unfoldable pub kept_at : List ℕ → ℕ → ℕ → Standing → (Opcode → List ℕ) → List ℕ
kept_at film stream p (refused n k) f = []
kept_at film stream p ended f = []
kept_at film stream p (chunk c) f = []
kept_at film stream p (opcode o) f = opcode_left film stream p o ++ f o

-- of at most so many opcodes from a cursor to its chunk's end
unfoldable pub kept_from : ℕ → List ℕ → ℕ → Cursor → List ℕ
kept_from zero film stream c = []
kept_from (suc n) film stream c =
    cond (eqb c.position c.chunk_end) []
    (kept_at film stream c.position (standing_at true film c) (λ o. kept_from n film stream (cursor_behind c (end_of o))))

-- of all of them: there are no more than the film has bytes
abbrev pub kept_of : List ℕ → ℕ → Cursor → List ℕ
kept_of film stream c = kept_from (suc (length film)) film stream c

-- the head of a chunk with a body of n bytes: its length, and the type of the chunk whose head stands at e
abbrev pub head_with : List ℕ → ℕ → ℕ → List ℕ
head_with film e n = n % 256 ∷ n / 256 ∷ get_or film (e + 2) 0 ∷ get_or film (e + 3) 0 ∷ []

abbrev pub chunk_with : List ℕ → ℕ → List ℕ → List ℕ
chunk_with film e body = head_with film e (length body) ++ body

-- what is left of a chunk: nothing of an empty one
unfoldable pub chunk_left : List ℕ → ℕ → List ℕ → List ℕ
chunk_left film e [] = []
chunk_left film e (x ∷ body) = chunk_with film e (x ∷ body)

abbrev pub left_of_chunk : List ℕ → ℕ → ℕ → ℕ → List ℕ
left_of_chunk film stream e x = chunk_left film e (kept_of film stream (cursor (e + 4) x))

-- ---- the film

-- the bytes that are left, or the refusal first met
pub data Left : Type 0 where
  remains : List ℕ → Left
  meets : ℕ → Left

unfoldable pub before : List ℕ → Left → Left
before bytes (remains rest) = remains (bytes ++ rest)
before bytes (meets n) = meets n

-- by what stands at a chunk's end e. Nothing behind a chunk with 00 is read
unfoldable pub go_on : List ℕ → ℕ → ℕ → Following → (ℕ → Left) → Left
go_on film stream e film_end f = remains []
go_on film stream e past_end f = meets 2
go_on film stream e (chunk_to x (intact true)) f = remains (left_of_chunk film stream e x)
go_on film stream e (chunk_to x (intact false)) f = before (left_of_chunk film stream e x) (f x)
go_on film stream e (chunk_to x (scratched n)) f = meets n

-- of at most so many chunks from e on
unfoldable pub left_from : ℕ → List ℕ → ℕ → ℕ → Left
left_from zero film stream e = remains []
left_from (suc n) film stream e = go_on film stream e (following_at film e) (λ x. left_from n film stream x)

-- of all of them, behind the header
abbrev pub left_of_chunks : List ℕ → ℕ → Left
left_of_chunks film stream = left_from (suc (length film)) film stream 26

-- with the header, where the film opens; 1 comes before 2 to 5
unfoldable pub behind_header : Opening → List ℕ → Left → Left
behind_header (opening.started st) header left = before header left
behind_header (opening.refuses n k) header left = meets n

-- what is left of a film for a stream
unfoldable pub left_of : List ℕ → ℕ → Left
left_of film stream = behind_header (opening_of film stream) (take 26 film) (left_of_chunks film stream)

-- ---- the call

-- 19 comes last
unfoldable pub roomed : ℕ → Left → Left
roomed room (remains bytes) = cond (ltb room (length bytes)) (meets 19) (remains bytes)
roomed room (meets n) = meets n

-- the length of what is written, or a refusal's number
pub data StripAnswer : Type 0 where
  stripped : ℕ → StripAnswer
  not_stripped : ℕ → StripAnswer

unfoldable pub answer_by : Left → StripAnswer
answer_by (remains bytes) = stripped (length bytes)
answer_by (meets n) = not_stripped n

-- a refusal changes nothing
unfoldable pub written_of : Left → List ℕ → List ℕ
written_of (remains bytes) room = written bytes room
written_of (meets n) room = room

abbrev pub strip_answer : List ℕ → ℕ → ℕ → StripAnswer
strip_answer film stream room = answer_by (roomed room (left_of film stream))

abbrev pub strip_room : List ℕ → ℕ → List ℕ → List ℕ
strip_room film stream room = written_of (roomed (length room) (left_of film stream)) room

-- the values of each answer
abbrev pub answer_as : Result ℕ Refusal → StripAnswer
answer_as (Ok n) = stripped n
answer_as (Err r) = not_stripped (number r)
