-- Demand 3 applied to document 01's case 16x8 (map E2, data 00 07, back all 5), which is 2 by 1 blocks: a list of four calls that meets the hypotheses of
-- the theorem `book/proofs/Demand.demand_3`, and what it comes to.
-- Assumes nothing.
use Rattle.std.specs.Prelude.{◌≡◌, List, [], ◌∷◌, ◌++◌, ℕ, replicate, Option, Some, None}
use Rattle.packet.specs.declared.Rows.{Rows}
use Rattle.packet.specs.Rows.{spanning, touched}
use Rattle.packet.specs.Verdict.{default}
use Rattle.stores.specs.Stores.{Memory, memory, final}
use Rattle.stores.specs.Calls.{whole, unfinished, refusal, Event, returns, cut, finally, outcomes, book_outcomes}
use Rattle.draw.specs.Call.{Request, within, request, packet_of, call_plan, reason, calling, Report, reporting}
use Rattle.book.specs.Demand.{OnlyRefusedDiffer, CutsWithin, Given, Demand3}
use Rattle.worked.specs.Cases.{example, two_halves}

-- the picture found, and the memory at place 0
unfoldable pub fives : List ℕ
fives = replicate 128 5

abbrev pub found : Memory
found = memory fives 0

-- all stores that a picture can have
abbrev pub all : ℕ
all = 312000

-- another packet, map 62: its right block has code 6
unfoldable pub stray : Request
stray = request 2 1 (0x62 ∷ []) (0x00 ∷ 0x07 ∷ []) (replicate 128 0) (within all default)

-- a call allowed 75 stores, which stops in the right block; the stray one; a call that is cut after 30 stores, in the right block; a call to the end
unfoldable pub calls : List (Event Request)
calls = returns (example 75) ∷ returns stray ∷ cut (example all) 30 ∷ returns (example all) ∷ []

-- the one row of blocks
abbrev pub row : Option Rows
row = Some (spanning 0 0)

-- what the three calls that return say
unfoldable pub answers : List Report
answers = reporting unfinished 75 row ∷ reporting (refusal (reason 12 1)) 0 None ∷ reporting whole 65 row ∷ []

-- a row of pixels: the left block's eight are 5, of the right block's n are 7 and m are 5
unfoldable pub row_of : ℕ → ℕ → List ℕ
row_of n m = replicate 8 5 ++ (replicate n 7 ++ replicate m 5)

-- the picture while the right block is drawn: its first 10 pixels are 7, and its first 30
unfoldable pub after_ten : List ℕ
after_ten = row_of 8 0 ++ (row_of 2 6 ++ replicate 96 5)

unfoldable pub after_thirty : List ℕ
after_thirty = row_of 8 0 ++ (row_of 8 0 ++ (row_of 8 0 ++ (row_of 6 2 ++ replicate 64 5)))

pub record Applied : Type 0 where
  -- the hypotheses of `demand_3` hold
  pub given : Given (example all) fives
  pub only_refused : OnlyRefusedDiffer (example all) found calls
  pub cuts : CutsWithin found calls
  -- and so does its claim
  pub demand : Demand3 (example all) fives calls
  -- written out: the picture of demand 2; the answers, counts and rows of the calls, and those of the book; place and picture after one call, after
  -- three and after all
  pub picture : final (call_plan (example all)) fives ≡ two_halves 8
  pub says : outcomes calling found calls ≡ answers
  pub book_says : book_outcomes calling (call_plan (example all)) (touched (packet_of (example all))) fives found calls ≡ answers
  pub stopped : finally calling found (returns (example 75) ∷ []) ≡ memory after_ten 1
  pub cut_off : finally calling found (returns (example 75) ∷ returns stray ∷ cut (example all) 30 ∷ []) ≡ memory after_thirty 1
  pub leaves : finally calling found calls ≡ memory (two_halves 8) 2
