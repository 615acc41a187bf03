-- Formats of sound (document 02, W5), and which packets are for the chosen stream.
-- Assumes nothing.
use Rattle.std.specs.Prelude.{Bool, true, false, cond, Option, Some, None, ℕ, ◌/◌, ◌%◌, ◌^◌, eqb, ltb}
use Rattle.dpcm.specs.declared.Last.{Last}
use Rattle.dpcm.specs.Samples.{last}
use Rattle.sound.specs.declared.Format.{Format}
use Rattle.sound.specs.declared.Sound.{Sound}

-- bit i of a word is one; bit 0 is the lowest
unfoldable pub is_set : ℕ → ℕ → Bool
is_set word i = eqb (word / 2 ^ i % 2) 1

-- a stream is chosen by its number, 0 to 15; above that sound is passed over
abbrev pub chosen : ℕ → Bool
chosen stream = ltb stream 16

-- a packet's mask has the bit of the chosen stream
unfoldable pub masked : ℕ → ℕ → Bool
masked stream mask = cond (chosen stream) (is_set mask stream) false

-- ---- formats

-- the flags of 03 are its second word: bit 0 stereo, bit 1 16-bit, bit 2 compressed, in version 1 only
unfoldable pub format_of : ℕ → ℕ → Format
format_of version flags = record { stereo = is_set flags 0; wide = is_set flags 1; compressed = cond (eqb version 1) (is_set flags 2) false }

-- compressed sound is 16-bit: a format both 8-bit and compressed is none
unfoldable pub possible_format : Format → Bool
possible_format f = cond f.compressed f.wide true

-- the format kept, if there was a 03
abbrev pub possible_kept : Option Format → Bool
possible_kept None = true
possible_kept (Some f) = possible_format f

-- a state that keeps such a format is refused by 16
abbrev pub possible_sound : Sound → Bool
possible_sound s = possible_kept s.format

-- ---- states

-- before any 03
abbrev pub first_sound : ℕ → Sound
first_sound stream = record { stream = stream; format = None; begun = false; left = 0; right = 0 }

-- a 03 starts afresh
unfoldable pub afresh : Sound → Format → Sound
afresh s format = record { stream = s.stream; format = Some format; begun = false; left = 0; right = 0 }

-- the last sample of each channel; left is next
abbrev pub carried : Sound → Last
carried s = last s.left s.right

-- after a compressed packet
unfoldable pub going_on : Sound → Last → Sound
going_on s l = record { stream = s.stream; format = s.format; begun = true; left = l.next; right = l.other }
