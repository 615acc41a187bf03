-- The channels of stereo sound (source document 003): each is compressed by itself, and samples go left, right, left, right.
-- Assumes nothing.
use Rattle.std.specs.Prelude.{◌≡◌, ℕ, Bool, true, false, List, [], ◌∷◌}
use Rattle.dpcm.specs.Samples.{last, samples}
use Rattle.dpcm.specs.declared.Last.{Last}

-- every other element, from the first on or from the second on
unfoldable pub every_other : Bool → List ℕ → List ℕ
every_other first [] = []
every_other true (x ∷ l) = x ∷ every_other false l
every_other false (x ∷ l) = every_other true l

-- the samples of a channel of stereo sound are those of mono sound with that channel's bytes. silent: mono reads no other channel
pub record Apart (l : Last) (bytes : List ℕ) (silent : ℕ) : Type 0 where
  pub left : every_other true (samples true l bytes) ≡ samples false (last l.next silent) (every_other true bytes)
  pub right : every_other false (samples true l bytes) ≡ samples false (last l.other silent) (every_other false bytes)
