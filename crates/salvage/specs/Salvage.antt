-- What is left of a scratched film (document 02, W13). A chunk is kept where no opcode of it is refused 3, 4 or 5, else it is left out and listed.
-- Assumes nothing.
use Rattle.std.specs.Prelude.{true, false, cond, Result, Ok, Err, List, [], ◌∷◌, ◌++◌, ℕ, zero, suc, ◌+◌, ◌-◌, ltb, length, take}
use Rattle.refusal.specs.declared.Refusal.{Refusal}
use Rattle.refusal.specs.Number.{Verdict, accept, refuse, number, block}
use Rattle.room.specs.Room.{written}
use Rattle.parts.specs.Parts.{part}
use Rattle.opening.specs.Opening as opening
use Rattle.opening.specs.Opening.{Opening, opening_of}
use Rattle.chunks.specs.Chunks.{intact, scratched, Following, film_end, past_end, chunk_to, following_at}
use Rattle.salvage.specs.declared.Stopped.{Stopped}
use Rattle.salvage.specs.declared.Stopped.TheVariants.{AtEnd, Behind00, By2}
use Rattle.salvage.specs.declared.Salvaged.{Salvaged}

-- ---- the walk

-- it stops at the film's end, behind a kept chunk with 00, or at refusal 2
pub data Stop : Type 0 where
  at_end behind_00 by_2 : Stop

-- a chunk left out: the position of its head, its length word, and the refusal first met in it
pub record Loss : Type 0 where
  pub position : ℕ
  pub long : ℕ
  pub refusal : ℕ

-- bytes: the chunks kept. kept, lost: how many bytes the chunks kept and left out have, with their heads. rest: how many are not walked
pub record Saved : Type 0 where
  pub bytes : List ℕ
  pub losses : List Loss
  pub stop : Stop
  pub kept : ℕ
  pub lost : ℕ
  pub rest : ℕ

abbrev pub no_more : Stop → ℕ → Saved
no_more s rest = record { bytes = []; losses = []; stop = s; kept = 0; lost = 0; rest = rest }

-- a chunk from e to x, before what comes behind it
abbrev pub keeping : List ℕ → ℕ → ℕ → Saved → Saved
keeping film e x s =
    record { bytes = part film e x ++ s.bytes; losses = s.losses; stop = s.stop; kept = (x - e) + s.kept; lost = s.lost; rest = s.rest }

abbrev pub loss : ℕ → ℕ → ℕ → Loss
loss e x n = record { position = e; long = x - (e + 4); refusal = n }

abbrev pub losing : ℕ → ℕ → ℕ → Saved → Saved
losing e x n s =
    record { bytes = s.bytes; losses = loss e x n ∷ s.losses; stop = s.stop; kept = s.kept; lost = (x - e) + s.lost; rest = s.rest }

-- by what stands at a chunk's end e. A chunk that is left out does not stop the walk, 00 in it or not
unfoldable pub go_on : List ℕ → ℕ → Following → (ℕ → Saved) → Saved
go_on film e film_end f = no_more at_end (length film - e)
go_on film e past_end f = no_more by_2 (length film - e)
go_on film e (chunk_to x (intact true)) f = keeping film e x (no_more behind_00 (length film - x))
go_on film e (chunk_to x (intact false)) f = keeping film e x (f x)
go_on film e (chunk_to x (scratched n)) f = losing e x n (f x)

-- at most so many chunks from e on
unfoldable pub save_from : ℕ → List ℕ → ℕ → Saved
save_from zero film e = no_more at_end (length film - e)
save_from (suc n) film e = go_on film e (following_at film e) (λ x. save_from n film x)

-- all of them, behind the header: there are no more than the film has bytes
abbrev pub saved : List ℕ → Saved
saved film = save_from (suc (length film)) film 26

-- ---- the new film and the list

-- a chunk of type 5 with opcode 00, unless the last kept chunk has one
unfoldable pub closing : Stop → List ℕ
closing behind_00 = []
closing at_end = 4 ∷ 0 ∷ 5 ∷ 0 ∷ 0 ∷ 0 ∷ 0 ∷ 0 ∷ []
closing by_2 = 4 ∷ 0 ∷ 5 ∷ 0 ∷ 0 ∷ 0 ∷ 0 ∷ 0 ∷ []

abbrev pub new_film : List ℕ → List ℕ
new_film film = take 26 film ++ ((saved film).bytes ++ closing (saved film).stop)

-- three numbers for every chunk left out
unfoldable pub numbers_of : List Loss → List ℕ
numbers_of [] = []
numbers_of (l ∷ ls) = l.position ∷ l.long ∷ l.refusal ∷ numbers_of ls

-- ---- the call

-- the length of the new film, how the walk stopped, what it counted, and how many chunks are left out
pub record Tally : Type 0 where
  pub bytes : ℕ
  pub stop : Stop
  pub kept : ℕ
  pub lost : ℕ
  pub left_out : ℕ
  pub rest : ℕ

abbrev pub tally : ℕ → Saved → Tally
tally bytes s = record { bytes = bytes; stop = s.stop; kept = s.kept; lost = s.lost; left_out = length s.losses; rest = s.rest }

-- on where a film opens, else its refusal
unfoldable pub headed : Opening → Verdict → Verdict
headed (opening.started st) v = v
headed (opening.refuses n k) v = refuse n k

-- 19: the room for bytes or the list for numbers is too short
unfoldable pub room_verdict : List ℕ → ℕ → ℕ → Verdict
room_verdict film room list =
    cond (ltb room (length (new_film film))) (refuse 19 0) (cond (ltb list (length (numbers_of (saved film).losses))) (refuse 19 0) accept)

-- 1, as opening meets it for no stream, then 19
abbrev pub verdict_of : List ℕ → ℕ → ℕ → Verdict
verdict_of film room list = headed (opening_of film 16) (room_verdict film room list)

-- what is written, or a refusal's number and block
pub data SalvageAnswer : Type 0 where
  writes : Tally → SalvageAnswer
  not_salvaged : ℕ → ℕ → SalvageAnswer

unfoldable pub answer_by : Verdict → List ℕ → SalvageAnswer
answer_by accept film = writes (tally (length (new_film film)) (saved film))
answer_by (refuse n k) film = not_salvaged n k

abbrev pub answer_of : List ℕ → ℕ → ℕ → SalvageAnswer
answer_of film room list = answer_by (verdict_of film room list) film

-- a refusal changes nothing
unfoldable pub written_by : Verdict → List ℕ → List ℕ → List ℕ
written_by accept new before = written new before
written_by (refuse n k) new before = before

abbrev pub bytes_after : List ℕ → List ℕ → ℕ → List ℕ
bytes_after film room list = written_by (verdict_of film (length room) list) (new_film film) room

abbrev pub numbers_after : List ℕ → ℕ → List ℕ → List ℕ
numbers_after film room list = written_by (verdict_of film room (length list)) (numbers_of (saved film).losses) list

-- ---- the values of each answer

abbrev pub stop_as : Stopped → Stop
stop_as AtEnd = at_end
stop_as Behind00 = behind_00
stop_as By2 = by_2

abbrev pub answer_as : Result Salvaged Refusal → SalvageAnswer
answer_as (Ok s) =
    writes
    (record {
      bytes = s.bytes;
      stop = stop_as s.walked.stop;
      kept = s.walked.kept;
      lost = s.walked.lost;
      left_out = s.walked.left_out;
      rest = s.walked.rest;
    })
answer_as (Err r) = not_salvaged (number r) (block r)
