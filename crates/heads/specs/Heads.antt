-- The heads of chunks and opcodes, and which opcodes are taken (document 01, "Film, chunks, opcodes"): refusals 2, 3, then 4, 5.
-- A chunk is a word length, a word type and a body; an opcode a word length, a byte type, a byte version and a body. No length counts its own head.
-- Assumes nothing.
use Rattle.std.specs.Prelude.{Bool, true, false, cond, List, ℕ, ◌+◌, ◌*◌, eqb, ltb, length, get_or, Result, Ok, Err}
use Rattle.words.specs.Word.{word_at}
use Rattle.refusal.specs.Number.{Verdict, accept, refuse, number, block}
use Rattle.refusal.specs.declared.Refusal.{Refusal}
use Rattle.state.specs.declared.Cursor.{Cursor}
use Rattle.state.specs.Moves.{cursor_into}
use Rattle.heads.specs.declared.Opcode.{Opcode}

-- what a head gives: the cursor in a chunk, or an opcode; or a refusal's number and block
pub data Head (A : Type 0) : Type 0 where
  gives : A → Head A
  refused : ℕ → ℕ → Head A

-- document 01's values of each answer
abbrev pub chunk_as : Result Cursor Refusal → Head Cursor
chunk_as (Ok c) = gives c
chunk_as (Err r) = refused (number r) (block r)

abbrev pub opcode_as : Result Opcode Refusal → Head Opcode
opcode_as (Ok o) = gives o
opcode_as (Err r) = refused (number r) (block r)

-- ---- 2

-- the chunk whose head stands at a cursor's chunk end and says this length, in a film this long
unfoldable pub chunk_of : ℕ → Cursor → ℕ → Head Cursor
chunk_of film c long =
    cond (ltb film (c.chunk_end + 4)) (refused 2 0) (cond (ltb film (c.chunk_end + 4 + long)) (refused 2 0) (gives (cursor_into c long)))

unfoldable pub chunk_at : List ℕ → Cursor → Head Cursor
chunk_at film c = chunk_of (length film) c (word_at film c.chunk_end)

-- ---- 3

abbrev pub opcode : ℕ → ℕ → ℕ → ℕ → Opcode
opcode kind version start long = record { kind = kind; version = version; start = start; long = long }

-- the opcode whose head is at p and says this length, type and version, in a chunk that ends at e; 00 and 01 must be last in their chunk
unfoldable pub opcode_of : ℕ → ℕ → ℕ → ℕ → ℕ → Head Opcode
opcode_of p e long kind version =
    cond (ltb e (p + 4)) (refused 3 0)
    (cond (ltb e (p + 4 + long)) (refused 3 0)
    (cond (ltb 1 kind) (gives (opcode kind version (p + 4) long))
    (cond (eqb (p + 4 + long) e) (gives (opcode kind version (p + 4) long)) (refused 3 0))))

-- the opcode whose head stands at a cursor's position
unfoldable pub opcode_at : List ℕ → Cursor → Head Opcode
opcode_at film c =
    opcode_of c.position c.chunk_end (word_at film c.position) (get_or film (c.position + 2) 0) (get_or film (c.position + 3) 0)

-- ---- 4 and 5

-- a version up to most, and a body this long exactly
unfoldable pub exactly : ℕ → ℕ → ℕ → ℕ → Verdict
exactly most long version n = cond (ltb most version) (refuse 4 0) (cond (eqb n long) accept (refuse 5 0))

-- a version up to most, and a body this long and one word longer for each version after 0
unfoldable pub by_version : ℕ → ℕ → ℕ → ℕ → Verdict
by_version most long version n = cond (ltb most version) (refuse 4 0) (cond (eqb n (long + 2 * version)) accept (refuse 5 0))

-- version 0, and a body at least this long
unfoldable pub at_least : ℕ → ℕ → ℕ → Verdict
at_least long version n = cond (ltb 0 version) (refuse 4 0) (cond (ltb n long) (refuse 5 0) accept)

-- types that are passed over unread: 02 to 04, 08 to 0A, 12 to 15
unfoldable pub passed_over : ℕ → Bool
passed_over kind =
    cond (ltb kind 2) false
    (cond (ltb kind 5) true
    (cond (ltb kind 8) false
    (cond (ltb kind 11) true
    (cond (ltb kind 18) false (ltb kind 22)))))

-- a type, a version and a body this long, where sound is passed over; the lengths of 0C and 0D are judged with their content
unfoldable pub shape_verdict : ℕ → ℕ → ℕ → Verdict
shape_verdict kind version n =
    cond (ltb kind 2) (exactly 0 0 version n)
    (cond (eqb kind 5) (by_version 2 4 version n)
    (cond (eqb kind 7) (by_version 1 4 version n)
    (cond (eqb kind 11) (exactly 0 6 version n)
    (cond (eqb kind 12) (at_least 0 version n)
    (cond (eqb kind 13) (at_least 0 version n)
    (cond (eqb kind 15) (at_least 0 version n)
    (cond (eqb kind 17) (at_least 14 version n)
    (cond (passed_over kind) accept (refuse 4 0)))))))))

-- ---- opcodes of sound

-- 03, 08 and 09
unfoldable pub is_sound : ℕ → Bool
is_sound kind = cond (eqb kind 3) true (cond (eqb kind 8) true (eqb kind 9))

-- they are acted on where a stream is chosen
unfoldable pub hears : Bool → ℕ → Bool
hears chosen kind = cond chosen (is_sound kind) false

unfoldable pub sound_verdict : ℕ → ℕ → ℕ → Verdict
sound_verdict kind version n = cond (eqb kind 3) (by_version 1 8 version n) (cond (eqb kind 8) (at_least 6 version n) (exactly 0 6 version n))

-- whether an opcode is taken, by whether a stream is chosen
unfoldable pub taken_verdict : Bool → ℕ → ℕ → ℕ → Verdict
taken_verdict chosen kind version n = cond (hears chosen kind) (sound_verdict kind version n) (shape_verdict kind version n)
