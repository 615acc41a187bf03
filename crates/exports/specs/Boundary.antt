-- States survive the C boundary: a state that is written as numbers is a state's numbers, and read again it is the same. Of every state that a call of the library gives:
-- `proofs/Boundary`, `proofs/Steps`.
-- Assumes nothing.
use Rattle.std.specs.Prelude.{◌≡◌, List, ℕ, ◌≤◌, length, get_or, None}
use Rattle.sound.specs.declared.Sound.{Sound}
use Rattle.sound.specs.Format.{first_sound}
use Rattle.state.specs.declared.State.{State}
use Rattle.opcodes.specs.Opcodes.{Answer, taken, whole, unfinished, ended, refused}
use Rattle.begin.specs.Begin.{Beginning, sized, stopped}
use Rattle.separate.specs.Separate.{Bytes}

-- before a 03 only the stream is written
abbrev pub Plain : Sound → Type 0
Plain s = s.format ≡ None → s ≡ first_sound s.stream

-- the last samples have 16 bits
abbrev pub Narrow : Sound → Type 0
Narrow s = (s.left ≤ 65535) × (s.right ≤ 65535)

-- the sound of a state in a walk over a film; every film that is lent is bytes
pub record CrossesSound (film : List ℕ) (s : Sound) : Type 0 where
  pub plain : Plain s
  pub narrow : Bytes film → Narrow s

abbrev pub Crosses : List ℕ → State → Type 0
Crosses film st = CrossesSound film st.sound

-- of the state that an answer gives
unfoldable pub OfAnswer : List ℕ → Answer → Type 0
OfAnswer film (taken st) = Crosses film st
OfAnswer film (whole st) = Crosses film st
OfAnswer film (unfinished st) = Crosses film st
OfAnswer film (ended st) = Crosses film st
OfAnswer film (refused n k) = Unit

unfoldable pub OfBeginning : List ℕ → Beginning → Type 0
OfBeginning film (sized st) = Crosses film st
OfBeginning film (stopped n k st) = Crosses film st

-- numbers as the library writes them: a flag is 0 or 1, and what is not read is 0. The flags are has_map, unsent, has_format, stereo, wide, compressed, begun and true_colour
pub record Written (m : List ℕ) : Type 0 where
  pub count : length m ≡ 18
  pub map : get_or m 5 0 ≤ 1
  pub unmapped : get_or m 5 0 ≡ 0 → (get_or m 6 0 ≡ 0) × (get_or m 7 0 ≡ 0)
  pub unsent : get_or m 8 0 ≤ 1
  pub format : get_or m 10 0 ≤ 1
  pub stereo : get_or m 11 0 ≤ 1
  pub wide : get_or m 12 0 ≤ 1
  pub compressed : get_or m 13 0 ≤ 1
  pub begun : get_or m 14 0 ≤ 1
  pub deep : get_or m 17 0 ≤ 1
  pub unformatted : get_or m 10 0 ≡ 0
      → (get_or m 11 0 ≡ 0) × (get_or m 12 0 ≡ 0) × (get_or m 13 0 ≡ 0) × (get_or m 14 0 ≡ 0) × (get_or m 15 0 ≡ 0) × (get_or m 16 0 ≡ 0)
