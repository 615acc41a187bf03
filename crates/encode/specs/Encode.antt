-- Map and packet that the encoder writes (document 02, W10), its tests, and what it leaves.
-- Assumes nothing.
use Rattle.std.specs.Prelude.{Result, Ok, Err, cond, List, [], ◌++◌, ℕ, zero, suc, ◌+◌, ◌*◌, ◌/◌, ◌%◌, ◌≤◌, ltb, length, replicate}
use Rattle.refusal.specs.Number.{Verdict, accept, refuse, number, block}
use Rattle.packet.specs.Packet.{pixels}
use Rattle.packet.specs.Verdict.{legal_size}
use Rattle.packet.specs.Accepted.{Legal}
use Rattle.room.specs.Room.{written}
use Rattle.choice.specs.declared.Way.{Way}
use Rattle.choice.specs.declared.Way.TheVariants.{Same}
use Rattle.encode.specs.declared.Encoded.{Encoded}
use Rattle.refusal.specs.declared.Refusal.{Refusal}
use Rattle.choice.specs.Choice.{pixel_at, code_of, data_by, choice, listed}

-- the wanted picture and the two lent ones, so many columns of blocks wide
pub record Task : Type 0 where
  pub columns : ℕ
  pub wanted : List ℕ
  pub front : List ℕ
  pub back : List ℕ

abbrev pub task : ℕ → List ℕ → List ℕ → List ℕ → Task
task columns wanted front back = record { columns = columns; wanted = wanted; front = front; back = back }

-- the 8x8 of block k in a picture
abbrev pub block_in : List ℕ → ℕ → ℕ → ℕ → ℕ
block_in picture columns k = pixel_at picture (8 * columns) (8 * (k % columns)) (8 * (k / columns))

-- the way of block k, and its data bytes
unfoldable pub way_at : Task → ℕ → Way
way_at j k = choice (block_in j.wanted j.columns k) (block_in j.front j.columns k) (block_in j.back j.columns k)

unfoldable pub part_at : Task → ℕ → List ℕ
part_at j k = data_by (way_at j k) (block_in j.wanted j.columns k)

-- the data of the blocks below k
unfoldable pub data_to : Task → ℕ → List ℕ
data_to j zero = []
data_to j (suc k) = data_to j k ++ part_at j k

-- of n blocks: the way of block k; behind the last there is none, and its nibble is 0 as that of a block without data
unfoldable pub block_way : Task → ℕ → ℕ → Way
block_way j n k = cond (ltb k n) (way_at j k) Same

-- the map: a nibble a block, low nibble first; the spare nibble is 0
unfoldable pub nibble : Task → ℕ → ℕ → ℕ
nibble j n k = cond (ltb k n) (code_of (way_at j k)) 0

unfoldable pub map_of : Task → ℕ → List ℕ
map_of j n = listed ((n + 1) / 2) (λ i. nibble j n (2 * i) + 16 * nibble j n (2 * i + 1)) 0

-- the body of opcode 11: 14 bytes of zero, then the data
unfoldable pub body_of : Task → ℕ → List ℕ
body_of j n = replicate 14 0 ++ data_to j n

-- an accepted size, and pictures that hold it
pub record Lent (j : Task) (rows : ℕ) : Type 0 where
  pub wide : Legal 80 j.columns
  pub high : Legal 60 rows
  pub wanted_long : pixels j.columns rows ≤ length j.wanted
  pub front_long : pixels j.columns rows ≤ length j.front
  pub back_long : pixels j.columns rows ≤ length j.back

-- ---- the call

-- its tests: 6, 8, 23, 19. Rooms for the map and the body that are this long
unfoldable pub encode_verdict : Task → ℕ → ℕ → ℕ → Verdict
encode_verdict j rows mapRoom bodyRoom =
    cond (legal_size j.columns rows)
    (cond (ltb (length j.wanted) (pixels j.columns rows)) (refuse 8 0)
    (cond (ltb (length j.front) (pixels j.columns rows)) (refuse 8 0)
    (cond (ltb (length j.back) (pixels j.columns rows)) (refuse 8 0)
    (cond (ltb 65531 (length (body_of j (j.columns * rows)))) (refuse 23 0)
    (cond (ltb mapRoom (length (map_of j (j.columns * rows)))) (refuse 19 0)
    (cond (ltb bodyRoom (length (body_of j (j.columns * rows)))) (refuse 19 0) accept))))))
    (refuse 6 0)

-- what it tells, and both rooms as it leaves them
pub data Answer : Type 0 where
  made : ℕ → ℕ → Answer
  refused : ℕ → ℕ → Answer

pub record Outcome : Type 0 where
  pub answer : Answer
  pub map : List ℕ
  pub body : List ℕ

unfoldable pub outcome : Verdict → List ℕ → List ℕ → List ℕ → List ℕ → Outcome
outcome accept m b map body = record { answer = made (length m) (length b); map = written m map; body = written b body }
outcome (refuse number block) m b map body = record { answer = refused number block; map = map; body = body }

abbrev pub encode_of : Task → ℕ → List ℕ → List ℕ → Outcome
encode_of j rows map body =
    outcome (encode_verdict j rows (length map) (length body)) (map_of j (j.columns * rows)) (body_of j (j.columns * rows)) map body

-- the values of each answer of the code
abbrev pub answer_as : Result Encoded Refusal → Answer
answer_as (Ok e) = made e.map e.body
answer_as (Err r) = refused (number r) (block r)

abbrev pub left : Result Encoded Refusal → List ℕ → List ℕ → Outcome
left e map body = record { answer = answer_as e; map = map; body = body }
