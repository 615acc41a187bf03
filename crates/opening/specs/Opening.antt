-- Opening a film (document 01, "Film, chunks, opcodes"): the header, and the first state.
-- Assumes nothing.
use Rattle.std.specs.Prelude.{Bool, true, false, cond, List, [], ◌∷◌, ℕ, zero, suc, eqb, ltb, length, get_or, Result, Ok, Err, None}
use Rattle.refusal.specs.declared.Refusal.{Refusal}
use Rattle.refusal.specs.Number.{number, block}
use Rattle.sound.specs.Format.{first_sound}
use Rattle.state.specs.declared.State.{State}

-- `Interplay MVE File`, 1A, 00, then the words 001A, 0100, 1133
unfoldable pub header : List ℕ
header =
    0x49 ∷ 0x6e ∷ 0x74 ∷ 0x65 ∷ 0x72 ∷ 0x70 ∷ 0x6c ∷ 0x61 ∷ 0x79 ∷ 0x20 ∷ 0x4d ∷ 0x56 ∷ 0x45 ∷ 0x20 ∷ 0x46 ∷ 0x69 ∷ 0x6c ∷ 0x65 ∷ 0x1a ∷ 0x00 ∷ 0x1a ∷ 0x00 ∷ 0x00 ∷ 0x01 ∷ 0x33 ∷ 0x11 ∷ []

-- the first n bytes of a film are the header's
unfoldable pub begins : List ℕ → ℕ → Bool
begins film zero = true
begins film (suc n) = cond (eqb (get_or film n 0) (get_or header n 0)) (begins film n) false

-- position and chunk end behind the header, no size and no true colour, the first lent picture shown, no map, nothing unsent, and the stream of sound that is given
unfoldable pub first_state : ℕ → State
first_state stream =
    record { cursor = record { position = 26; chunk_end = 26 }; columns = 0; rows = 0; deep = false; front = 0; map = None; unsent = false; sound = first_sound stream }

-- what opening comes to: a state, or a refusal's number and block
pub data Opening : Type 0 where
  started : State → Opening
  refuses : ℕ → ℕ → Opening

-- document 01's values of each answer
abbrev pub opened_as : Result State Refusal → Opening
opened_as (Ok st) = started st
opened_as (Err r) = refuses (number r) (block r)

unfoldable pub opening_of : List ℕ → ℕ → Opening
opening_of film stream = cond (ltb (length film) 26) (refuses 1 0) (cond (begins film 26) (started (first_state stream)) (refuses 1 0))
