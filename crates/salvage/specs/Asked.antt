-- What the functions below the call ask of their callers, and what they give.
-- Assumes nothing.
use Rattle.std.specs.Prelude.{◌≡◌, Bool, true, cond, Result, List, ℕ, ◌+◌, ◌*◌, ◌≤◌, length}
use Rattle.refusal.specs.declared.Refusal.{Refusal}
use Rattle.room.specs.Room.{written}
use Rattle.parts.specs.Parts.{laid}
use Rattle.salvage.specs.declared.Stopped.{Stopped}
use Rattle.salvage.specs.declared.Walked.{Walked}
use Rattle.salvage.specs.declared.Salvaged.{Salvaged}
use Rattle.salvage.specs.Salvage.{saved, new_film, numbers_of, room_verdict, answer_by, written_by, stop_as, answer_as}

abbrev pub stopped : Walked → Stopped → ℕ → Walked
stopped w stop rest = record { stop = stop; kept = w.kept; lost = w.lost; left_out = w.left_out; rest = rest }

-- the header is there; what is stored has room
pub record Roomy (storing : Bool) (film : List ℕ) (room list : ℕ) : Type 0 where
  pub header : 26 ≤ length film
  pub film_room : storing ≡ true → 26 + length (saved film).bytes ≤ room
  pub list_room : storing ≡ true → 3 * length (saved film).losses ≤ list

-- the counts of a walk, and what stands then in the room and in the list
pub record Passed (storing : Bool) (film room₀ list₀ : List ℕ) (r : Walked) (room list : List ℕ) : Type 0 where
  pub stop : stop_as r.stop ≡ (saved film).stop
  pub kept : r.kept ≡ (saved film).kept
  pub bytes : r.kept ≡ length (saved film).bytes
  pub lost : r.lost ≡ (saved film).lost
  pub left_out_count : r.left_out ≡ length (saved film).losses
  pub rest : r.rest ≡ (saved film).rest
  pub room_after : room ≡ cond storing (laid 26 (saved film).bytes room₀) room₀
  pub list_after : list ≡ cond storing (written (numbers_of (saved film).losses) list₀) list₀

-- of a film that has its header
pub record Wrote (film room₀ list₀ : List ℕ) (r : Result Salvaged Refusal) (room list : List ℕ) : Type 0 where
  pub answer : answer_as r ≡ answer_by (room_verdict film (length room₀) (length list₀)) film
  pub room_after : room ≡ written_by (room_verdict film (length room₀) (length list₀)) (new_film film) room₀
  pub list_after : list ≡ written_by (room_verdict film (length room₀) (length list₀)) (numbers_of (saved film).losses) list₀
