-- A film's state as 18 numbers, for hosts in other languages, in this order: position, chunk_end, columns, rows, front, has_map, map_start, map_length, unsent,
-- stream, has_format, stereo, wide, compressed, begun, left, right, true_colour.
-- Assumes nothing.
use Rattle.std.specs.Prelude.{Bool, true, false, cond, List, [], ◌∷◌, ◌++◌, ℕ, eqb, leb, length, get_or, replicate, Option, Some, None}
use Rattle.sound.specs.declared.Format.{Format}
use Rattle.sound.specs.declared.Sound.{Sound}
use Rattle.sound.specs.Format.{first_sound}
use Rattle.state.specs.declared.Part.{Part}
use Rattle.state.specs.declared.State.{State}
use Rattle.state.specs.State.{some_part}

-- a number that is not 0 counts as 1
abbrev pub flag_of : ℕ → Bool
flag_of n = cond (eqb n 0) false true

abbrev pub number_of : Bool → ℕ
number_of b = cond b 1 0

-- ---- read

-- a state's numbers are 18, and its last samples, left and right, have 16 bits
unfoldable pub is_state : List ℕ → Bool
is_state m = cond (eqb (length m) 18) (cond (leb (get_or m 15 0) 65535) (leb (get_or m 16 0) 65535) false) false

-- has_map: 0 where no map is pending
unfoldable pub map_of : ℕ → ℕ → ℕ → Option Part
map_of has start long = cond (eqb has 0) None (some_part start long)

-- has_format: 0 before a 03; where it is 0, only the stream is read
unfoldable pub sound_of : List ℕ → Sound
sound_of m =
    cond (eqb (get_or m 10 0) 0) (first_sound (get_or m 9 0))
    (record {
      stream = get_or m 9 0;
      format = Some (record { stereo = flag_of (get_or m 11 0); wide = flag_of (get_or m 12 0); compressed = flag_of (get_or m 13 0) });
      begun = flag_of (get_or m 14 0);
      left = get_or m 15 0;
      right = get_or m 16 0;
    })

-- unsent: 0 where no frame is finished and unsent; true_colour: 0 for a film without it
unfoldable pub state_of : List ℕ → State
state_of m =
    record {
      cursor = record { position = get_or m 0 0; chunk_end = get_or m 1 0 };
      columns = get_or m 2 0;
      rows = get_or m 3 0;
      deep = flag_of (get_or m 17 0);
      front = get_or m 4 0;
      map = map_of (get_or m 5 0) (get_or m 6 0) (get_or m 7 0);
      unsent = flag_of (get_or m 8 0);
      sound = sound_of m;
    }

-- ---- written

unfoldable pub of_map : Option Part → List ℕ
of_map None = 0 ∷ 0 ∷ 0 ∷ []
of_map (Some map) = 1 ∷ map.start ∷ map.long ∷ []

-- what is not read before a 03 is 0
unfoldable pub with_format : Sound → Option Format → List ℕ
with_format s None = s.stream ∷ 0 ∷ 0 ∷ 0 ∷ 0 ∷ 0 ∷ 0 ∷ 0 ∷ []
with_format s (Some f) =
    s.stream ∷ 1 ∷ number_of f.stereo ∷ number_of f.wide ∷ number_of f.compressed ∷ number_of s.begun ∷ s.left ∷ s.right ∷ []

abbrev pub of_sound : Sound → List ℕ
of_sound s = with_format s s.format

unfoldable pub of_state : State → List ℕ
of_state st =
    st.cursor.position ∷ st.cursor.chunk_end ∷ st.columns ∷ st.rows ∷ st.front
    ∷ (of_map st.map ++ (number_of st.unsent ∷ (of_sound st.sound ++ (number_of st.deep ∷ []))))

-- the numbers where there is no state
abbrev pub no_state : List ℕ
no_state = replicate 18 0
