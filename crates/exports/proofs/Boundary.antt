-- `state_crosses`: a state that has `Crosses` is the same after the boundary, and `state_numbers`: its numbers are a state's. `read_crosses`: every state that a call is given
-- has it; that every state that a call gives has it is in `Steps`. `numbers_cross`: numbers as the library writes them are the same after the boundary.
-- Assumes nothing.
use mathlib.Core.Path.{◌≡◌, refl, sym, ap, ◌∙◌}
use mathlib.Core.Bool.{Bool, true, false, cond}
use mathlib.Core.List.{List, [], ◌∷◌, ◌++◌}
use Prim.Native.Nat.{ℕ, zero, suc, ◌+◌, ◌≤◌}
use native.Mathlib.Decide.{ℕ_discrete}
use native.Mathlib.Omega.{arith}
use borrow.Author.Tests.{eq-eqb, ne_eqb}
use lib.Dec.{eqb}
use lib.ListN.{length, get_or, drop, drop_of_length-le}
use lib.Seq.{drop-cons}
use Rattle.sound.specs.declared.Format.{Format}
use Rattle.sound.specs.declared.Sound.{Sound}
use Rattle.sound.specs.Format.{first_sound}
use Rattle.state.specs.declared.Part.{Part}
use Rattle.std.specs.Prelude.{Option, Some, None}
use Rattle.state.specs.declared.State.{State}
use Rattle.separate.specs.Separate.{Bytes}
use Rattle.mve_states.specs.State.{flag_of, number_of, is_state, map_of, sound_of, state_of, of_map, with_format, of_sound, of_state}
use Rattle.mve_states.proofs.States.{are_numbers, is_numbers, state_length}
use Rattle.exports.specs.Boundary.{Plain, Narrow, CrossesSound, Crosses, Written}

-- ---- to numbers and back

flag_number : (b : Bool) → flag_of (number_of b) ≡ b
flag_number true = refl
flag_number false = refl

-- behind the nine numbers that are no sound's, and before the last one
sound_by : (a b c d e f g h i j : ℕ) (s : Sound) (k : Option Format) → s.format ≡ k → Plain s
    → sound_of (a ∷ b ∷ c ∷ d ∷ e ∷ f ∷ g ∷ h ∷ i ∷ (with_format s k ++ (j ∷ []))) ≡ s
unfolding sound_of with_format
sound_by a b c d e f g h i j s None q p = sym (p q)
sound_by a b c d e f g h i j s (Some x) q p =
    rw (flag_number x.stereo, flag_number x.wide, flag_number x.compressed, flag_number s.begun)
    (ap (λ (k : Option Format). record { stream = s.stream; format = k; begun = s.begun; left = s.left; right = s.right }) (sym q))

-- a number behind those of a sound
last_by : (s : Sound) (k : Option Format) (j : ℕ) → get_or (with_format s k ++ (j ∷ [])) 8 0 ≡ j
unfolding with_format
last_by s None j = refl
last_by s (Some x) j = refl

-- a state's numbers, by its map and the numbers of its sound
abbrev numbers : State → Option Part → List ℕ → List ℕ
numbers st m sound =
    st.cursor.position ∷ st.cursor.chunk_end ∷ st.columns ∷ st.rows ∷ st.front
    ∷ (of_map m ++ (number_of st.unsent ∷ (sound ++ (number_of st.deep ∷ []))))

abbrev with_map : State → Option Part → State
with_map st m = record st { map = m }

state_by : (st : State) (m : Option Part) → st.map ≡ m → Plain st.sound → state_of (numbers st m (of_sound st.sound)) ≡ st
unfolding state_of of_map map_of
state_by st None e p =
    rw (flag_number st.unsent, sound_by _ _ _ _ _ _ _ _ _ _ st.sound st.sound.format refl p, last_by st.sound st.sound.format, flag_number st.deep)
    (ap (with_map st) (sym e))
state_by st (Some map) e p =
    rw (flag_number st.unsent, sound_by _ _ _ _ _ _ _ _ _ _ st.sound st.sound.format refl p, last_by st.sound st.sound.format, flag_number st.deep)
    (ap (with_map st) (sym e))

pub state_crosses : (film : List ℕ) (st : State) → Crosses film st → state_of (of_state st) ≡ st
unfolding of_state
state_crosses film st c = state_by st st.map refl c.plain

samples_by : (st : State) (m : Option Part) (f : Option Format) → Narrow st.sound
    → (get_or (numbers st m (with_format st.sound f)) 15 0 ≤ 65535) × (get_or (numbers st m (with_format st.sound f)) 16 0 ≤ 65535)
unfolding of_map with_format
samples_by st None None n = (omega arith, omega arith)
samples_by st None (Some f) n = n
samples_by st (Some map) None n = (omega arith, omega arith)
samples_by st (Some map) (Some f) n = n

pub state_numbers : (film : List ℕ) → Bytes film → (st : State) → Crosses film st → is_state (of_state st) ≡ true
unfolding of_state
state_numbers film bytes st c =
    let n = samples_by st st.map st.sound.format (c.narrow bytes) in
    is_numbers (of_state st) (record { count = state_length st; left = n.0; right = n.1 })

-- ---- every state that is read from numbers

-- the format of a 03
abbrev pub known : Bool → Bool → Bool → Option Format
known stereo wide compressed = Some (record { stereo = stereo; wide = wide; compressed = compressed })

pub known_unknown : (a b c : Bool) → known a b c ≡ None → ⊥
known_unknown a b c e = let z : ◌≡◌ {A = ℕ} 0 1 = cc in omega arith

read_by : (film m : List ℕ) → (get_or m 15 0 ≤ 65535) → (get_or m 16 0 ≤ 65535) → CrossesSound film (sound_of m)
unfolding sound_of
read_by film m h i = by (eqb (get_or m 10 0) 0)
  where
    by : (b : Bool) →
        CrossesSound film
        (cond b (first_sound (get_or m 9 0))
        (record {
          stream = get_or m 9 0;
          format = known (flag_of (get_or m 11 0)) (flag_of (get_or m 12 0)) (flag_of (get_or m 13 0));
          begun = flag_of (get_or m 14 0);
          left = get_or m 15 0;
          right = get_or m 16 0;
        }))
    by true = record { plain = λ e. refl; narrow = λ _. (omega arith, omega arith) }
    by false = record { plain = λ e. absurd (known_unknown _ _ _ e); narrow = λ _. (h, i) }

pub read_crosses : (film m : List ℕ) → is_state m ≡ true → Crosses film (state_of m)
unfolding state_of
read_crosses film m t = let n = are_numbers m t in read_by film m n.left n.right

-- ---- numbers as the library writes them

number_flag : (n : ℕ) → n ≤ 1 → number_of (flag_of n) ≡ n
number_flag n h = by (ℕ_discrete n 0)
  where
    by : Dec (n ≡ 0) → number_of (flag_of n) ≡ n
    by (yes e) = rw e
    by (no f) = let e : n ≡ 1 = omega arith in rw e

-- a list by its n numbers from index i on
unfoldable values : List ℕ → ℕ → ℕ → List ℕ
values m i zero = []
values m i (suc n) = get_or m i 0 ∷ values m (suc i) n

values_are : (m : List ℕ) (n i : ℕ) → i + n ≡ length m → values m i n ≡ drop i m
unfolding values
values_are m zero i e = let h : length m ≤ i = omega arith in sym (drop_of_length-le m h)
values_are m (suc n) i e = ap (λ (l : List ℕ). get_or m i 0 ∷ l) (values_are m n (suc i) (omega arith)) ∙ sym (drop-cons m i 0 (omega arith))

sound_written : (m : List ℕ) → Written m → of_sound (sound_of m) ≡ values m 9 8
unfolding sound_of with_format values
sound_written m w = by (ℕ_discrete (get_or m 10 0) 0)
  where
    by : Dec (get_or m 10 0 ≡ 0) → of_sound (sound_of m) ≡ values m 9 8
    by (yes e) = let z = w.unformatted e in rw (eq-eqb _ _ e, e, z.0, z.1, z.2, z.3, z.4, z.5)
    by (no f) =
        let e : get_or m 10 0 ≡ 1 = omega (arith, w.format) in
        rw (ne_eqb _ _ f, number_flag _ w.stereo, number_flag _ w.wide, number_flag _ w.compressed, number_flag _ w.begun, e)

map_written : (m : List ℕ) → Written m → (l : List ℕ) → of_map (map_of (get_or m 5 0) (get_or m 6 0) (get_or m 7 0)) ++ l ≡ get_or m 5 0 ∷ get_or m 6 0 ∷ get_or m 7 0 ∷ l
unfolding map_of of_map
map_written m w l = by (ℕ_discrete (get_or m 5 0) 0)
  where
    by : Dec (get_or m 5 0 ≡ 0) → of_map (map_of (get_or m 5 0) (get_or m 6 0) (get_or m 7 0)) ++ l ≡ get_or m 5 0 ∷ get_or m 6 0 ∷ get_or m 7 0 ∷ l
    by (yes e) = let z = w.unmapped e in rw (eq-eqb _ _ e, e, z.0, z.1)
    by (no f) = let e : get_or m 5 0 ≡ 1 = omega (arith, w.map) in rw (ne_eqb _ _ f, e)

pub numbers_cross : (m : List ℕ) → Written m → of_state (state_of m) ≡ m
unfolding state_of of_state values
numbers_cross m w =
    rw (map_written m w, number_flag _ w.unsent, sound_written m w, number_flag _ w.deep) (values_are m 18 0 (omega (arith, w.count)))
