-- What a step writes and what it leaves of the room (document 02, W5).
-- Assumes nothing.
use Rattle.std.specs.Prelude.{◌≡◌, List, ℕ, ◌≤◌, length, take, drop}
use Rattle.sound.specs.Step.{Step, taken, refused, room_after}
use Rattle.sound.specs.declared.Sound.{Sound}

-- what goes out has n bytes, and the room holds them
pub record Counted (step : Step) (n room : ℕ) : Type 0 where
  pub count : (s : Sound) (bytes : List ℕ) → step ≡ taken s bytes → length bytes ≡ n
  pub fits : (s : Sound) (bytes : List ℕ) → step ≡ taken s bytes → n ≤ room

-- what goes out stands at the room's front, and the rest stays; a refusal writes nothing
pub record Kept (step : Step) (room : List ℕ) : Type 0 where
  pub front : (s : Sound) (bytes : List ℕ) → step ≡ taken s bytes → take (length bytes) (room_after step room) ≡ bytes
  pub rest : (s : Sound) (bytes : List ℕ) → step ≡ taken s bytes → drop (length bytes) (room_after step room) ≡ drop (length bytes) room
  pub fits : (s : Sound) (bytes : List ℕ) → step ≡ taken s bytes → length bytes ≤ length room
  pub refusal : (n k : ℕ) → step ≡ refused n k → room_after step room ≡ room
