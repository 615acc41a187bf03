-- Compressed sound (document 02, W5): each data byte picks a step, which is added to the last sample of its channel; left and right in turn.
-- Assumes nothing.
use Rattle.std.specs.Prelude.{ℕ, ◌+◌, ◌/◌, ◌%◌, Bool, true, false, List, [], ◌∷◌, slice_index}
use Rattle.steps.specs.Steps.{steps}
use Rattle.dpcm.specs.declared.Last.{Last}

-- the sample behind a last one, by a data byte: added in 16 bits with wrap-around
unfoldable pub sample_after : ℕ → ℕ → ℕ
sample_after last b = (last + slice_index steps b) % 65536

-- the last sample of the channel whose turn is next, and of the other one. A packet begins with the left channel; mono has the one channel alone
abbrev pub last : ℕ → ℕ → Last
last next other = record { next = next; other = other }

-- after a sample of the channel whose turn it was: in stereo the other channel is next
unfoldable pub turned : Bool → Last → ℕ → Last
turned true l sample = last l.other sample
turned false l sample = last sample l.other

-- the samples of data bytes, one each, from the last samples on
unfoldable pub samples : Bool → Last → List ℕ → List ℕ
samples stereo l [] = []
samples stereo l (b ∷ bs) = sample_after l.next b ∷ samples stereo (turned stereo l (sample_after l.next b)) bs

-- the last samples then
unfoldable pub last_of : Bool → Last → List ℕ → Last
last_of stereo l [] = l
last_of stereo l (b ∷ bs) = last_of stereo (turned stereo l (sample_after l.next b)) bs

-- 16-bit samples as bytes, low first
unfoldable pub bytes_of : List ℕ → List ℕ
bytes_of [] = []
bytes_of (sample ∷ more) = sample % 256 ∷ sample / 256 ∷ bytes_of more
