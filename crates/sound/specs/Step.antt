-- Packets of a known format (document 02, W5): 18, then 19; what goes out, and the sound then.
-- Assumes nothing.
use Rattle.std.specs.Prelude.{◌≡◌, Bool, true, false, cond, List, ℕ, ◌+◌, ◌*◌, ◌-◌, ◌%◌, ◌≤◌, ◌<◌, eqb, ltb, leb, length, replicate}
use Rattle.room.specs.Room.{written}
use Rattle.dpcm.specs.Samples.{bytes_of}
use Rattle.dpcm.specs.Packet.{channels, packet_samples, packet_last, Fits}
use Rattle.sound.specs.Format.{carried, going_on}
use Rattle.sound.specs.declared.Sound.{Sound}

-- taken: the sound then, and the bytes that go out. refused: number and block
pub data Step : Type 0 where
  taken : Sound → List ℕ → Step
  refused : ℕ → ℕ → Step

-- what is written starts at the room's front, and the rest stays; a refusal changes nothing
unfoldable pub room_after : Step → List ℕ → List ℕ
room_after (taken s bytes) room = written bytes room
room_after (refused n k) room = room

-- ---- 18

-- the count covers both channels
unfoldable pub even : Bool → ℕ → Bool
even stereo count = cond stereo (eqb (count % 2) 0) true

-- bytes a sample; compressed sound is 16-bit
unfoldable pub sample_bytes : Bool → Bool → ℕ
sample_bytes wide compressed = cond compressed 2 (cond wide 2 1)

-- a first compressed 08 has one start word a channel, which count as samples, and one byte for each sample after those; later ones have a byte a sample.
-- Uncompressed data has its samples as they are
unfoldable pub exact : Bool → Bool → Bool → Bool → ℕ → ℕ → Bool
exact stereo wide compressed begun count bytes =
    cond compressed
    (cond begun (eqb bytes count) (cond (leb (channels stereo) count) (eqb bytes (2 * channels stereo + (count - channels stereo))) false))
    (eqb bytes (count * sample_bytes wide false))

-- ---- 08

-- what goes out: samples as bytes, low first; uncompressed data is copied
unfoldable pub output : Sound → Bool → Bool → List ℕ → List ℕ
output s stereo compressed bytes = cond compressed (bytes_of (packet_samples stereo s.begun (carried s) bytes)) bytes

unfoldable pub sound_after : Sound → Bool → Bool → List ℕ → Sound
sound_after s stereo compressed bytes = cond compressed (going_on s (packet_last stereo s.begun (carried s) bytes)) s

-- bytes of a room that is always enough: a word counts the samples, each of at most two bytes
abbrev pub enough : ℕ
enough = 131070

-- 19 where the room is shorter than what goes out
unfoldable pub within : ℕ → ℕ → Step → Step
within bytes room step = cond (ltb room bytes) (refused 19 0) step

-- a count of samples, their data, and the room's length
unfoldable pub data_step : Sound → Bool → Bool → Bool → ℕ → List ℕ → ℕ → Step
data_step s stereo wide compressed count bytes room =
    cond (even stereo count)
    (cond (exact stereo wide compressed s.begun count (length bytes))
    (within (count * sample_bytes wide compressed) room (taken (sound_after s stereo compressed bytes) (output s stereo compressed bytes)))
    (refused 18 0))
    (refused 18 0)

-- what the writing of a packet asks of its data's length and the room's
pub record Writable (stereo compressed begun : Bool) (bytes room : ℕ) : Type 0 where
  pub packet : compressed ≡ true → Fits stereo begun bytes room
  pub copied : compressed ≡ false → bytes ≤ room

-- or the room is empty, and what goes out is dropped
abbrev pub WritableOrNone : Bool → Bool → Bool → ℕ → ℕ → Type 0
WritableOrNone stereo compressed begun bytes room = 0 < room → Writable stereo compressed begun bytes room

-- the room has so many bytes, or it is empty
abbrev pub LongOrNone : ℕ → ℕ → Type 0
LongOrNone long room = 0 < room → room ≡ long

-- ---- 09

-- zero samples, by the bytes that one has; of 8-bit sound zero is 128
unfoldable pub silence : ℕ → ℕ → List ℕ
silence each count = cond (eqb each 2) (bytes_of (replicate count 0)) (replicate count 128)

-- the last samples stay
unfoldable pub silence_step : Sound → Bool → Bool → Bool → ℕ → ℕ → Step
silence_step s stereo wide compressed count room =
    cond (even stereo count) (within (count * sample_bytes wide compressed) room (taken s (silence (sample_bytes wide compressed) count))) (refused 18 0)
