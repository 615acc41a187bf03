-- Samples: what is carried from one part of the data to the next, lengths, and the two channels of stereo apart.
-- Assumes nothing.
use Rattle.std.proofs.Common.{◌≡◌, ℕ, suc, ◌+◌, ◌*◌, ◌/◌, ◌%◌, ◌<◌, Bool, List, [], ◌∷◌, ◌++◌, length, get_or, take, refl, ap, arith}
use Rattle.room.proofs.Written.{take_more}
use Rattle.steps.specs.Steps.{steps, minus}
use Rattle.dpcm.specs.Samples.{sample_after, last, turned, samples, last_of, bytes_of}
use Rattle.dpcm.specs.Channels.{every_other, Apart}
use Rattle.dpcm.specs.declared.Last.{Last}

-- document 02: 29973 past 32767 is negative
pub past_the_largest : sample_after 32767 136 ≡ minus 2796
unfolding sample_after steps
past_the_largest = refl

-- ---- one after the other

module _ (stereo : Bool) where
  pub samples_append : (l : Last) (a b : List ℕ) → samples stereo l (a ++ b) ≡ samples stereo l a ++ samples stereo (last_of stereo l a) b
  unfolding samples last_of
  samples_append l [] b = refl
  samples_append l (x ∷ a) b = ap (λ (s : List ℕ). sample_after l.next x ∷ s) (samples_append (turned stereo l (sample_after l.next x)) a b)

  pub last_append : (l : Last) (a b : List ℕ) → last_of stereo l (a ++ b) ≡ last_of stereo (last_of stereo l a) b
  unfolding last_of
  last_append l [] b = refl
  last_append l (x ∷ a) b = last_append (turned stereo l (sample_after l.next x)) a b

  pub samples_length : (l : Last) (a : List ℕ) → length (samples stereo l a) ≡ length a
  unfolding samples
  samples_length l [] = refl
  samples_length l (x ∷ a) = ap suc (samples_length (turned stereo l (sample_after l.next x)) a)

  -- one data byte more
  module _ (l : Last) (a : List ℕ) (i : ℕ) (h : i < length a) where
    pub samples_more : samples stereo l (take (i + 1) a) ≡ samples stereo l (take i a) ++ (sample_after (last_of stereo l (take i a)).next (get_or a i 0) ∷ [])
    unfolding samples
    samples_more = rw (take_more a i h) (samples_append l (take i a) (get_or a i 0 ∷ []))

    pub last_more : last_of stereo l (take (i + 1) a) ≡ turned stereo (last_of stereo l (take i a)) (sample_after (last_of stereo l (take i a)).next (get_or a i 0))
    unfolding last_of
    last_more = rw (take_more a i h) (last_append l (take i a) (get_or a i 0 ∷ []))

-- ---- as bytes

pub bytes_append : (a b : List ℕ) → bytes_of (a ++ b) ≡ bytes_of a ++ bytes_of b
unfolding bytes_of
bytes_append [] b = refl
bytes_append (s ∷ a) b = ap (λ (l : List ℕ). s % 256 ∷ s / 256 ∷ l) (bytes_append a b)

pub bytes_length : (a : List ℕ) → length (bytes_of a) ≡ 2 * length a
unfolding bytes_of
bytes_length [] = refl
bytes_length (s ∷ a) = let e : length (bytes_of a) ≡ 2 * length a = bytes_length a in omega (arith, e)

-- ---- the channels of stereo

pub channels_apart : (l : Last) (bytes : List ℕ) (silent : ℕ) → Apart l bytes silent
unfolding every_other samples turned
channels_apart l [] silent = record { left = refl; right = refl }
channels_apart l (b ∷ bytes) silent =
    let sample = sample_after l.next b in
    let rest = channels_apart (last l.other sample) bytes silent in
    record { left = ap (λ (s : List ℕ). sample ∷ s) rest.right; right = rest.left }
