-- Compressed packets (document 02, W5): the first has one start word a channel, which are its first samples, then one byte a sample; later ones go on
-- from the last sample of each channel.
-- Assumes nothing.
use Rattle.std.specs.Prelude.{ℕ, ◌-◌, ◌*◌, ◌≤◌, ◌<◌, Bool, true, false, cond, List, [], ◌∷◌, ◌++◌, drop}
use Rattle.words.specs.Word.{word_at}
use Rattle.dpcm.specs.Samples.{last, samples, last_of}
use Rattle.dpcm.specs.declared.Last.{Last}

abbrev pub channels : Bool → ℕ
channels stereo = cond stereo 2 1

-- the start words of a first packet, left and then right; mono leaves the other sample be
unfoldable pub start_words : Bool → Last → List ℕ → Last
start_words true l bytes = last (word_at bytes 0) (word_at bytes 2)
start_words false l bytes = last (word_at bytes 0) l.other

-- they are the first samples
unfoldable pub first_samples : Bool → Last → List ℕ
first_samples true l = l.next ∷ l.other ∷ []
first_samples false l = l.next ∷ []

-- a packet in parts; begun: it is not the first. The bytes of its start words
abbrev pub start_length : Bool → Bool → ℕ
start_length stereo begun = cond begun 0 (2 * channels stereo)

-- the last samples that the data behind them goes on from
unfoldable pub packet_first : Bool → Bool → Last → List ℕ → Last
packet_first stereo begun l bytes = cond begun l (start_words stereo l bytes)

-- the samples that come before those of that data
unfoldable pub leading : Bool → Bool → Last → List ℕ
leading stereo begun first = cond begun [] (first_samples stereo first)

-- all samples of a packet, and the last samples then
unfoldable pub packet_samples : Bool → Bool → Last → List ℕ → List ℕ
packet_samples stereo begun l bytes =
    leading stereo begun (packet_first stereo begun l bytes) ++ samples stereo (packet_first stereo begun l bytes) (drop (start_length stereo begun) bytes)

unfoldable pub packet_last : Bool → Bool → Last → List ℕ → Last
packet_last stereo begun l bytes = last_of stereo (packet_first stereo begun l bytes) (drop (start_length stereo begun) bytes)

-- what a decoder of packets asks: data of so many bytes has its start words, and the room holds its samples
pub record Fits (stereo begun : Bool) (bytes room : ℕ) : Type 0 where
  pub start : start_length stereo begun ≤ bytes
  pub samples : 2 * (bytes - cond begun 0 (channels stereo)) ≤ room

-- or the room is empty, and the samples are dropped
abbrev pub FitsOrNone : Bool → Bool → ℕ → ℕ → Type 0
FitsOrNone stereo begun bytes room = 0 < room → Fits stereo begun bytes room
