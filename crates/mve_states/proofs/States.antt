-- States as numbers, by what code found.
-- Assumes nothing.
use mathlib.Core.Path.{◌≡◌, refl, sym, ap, ◌∙◌}
use mathlib.Core.Bool.{Bool, true, false, cond}
use mathlib.Core.List.{List, [], ◌∷◌, ◌++◌, append_assoc}
use Prim.Native.Nat.{ℕ, ◌+◌, ◌≤◌}
use native.Mathlib.Omega.{arith}
use borrow.Author.Tests.{eqb-true, leb-true, eq-eqb, le-leb}
use lib.ListN.{length, get_or, take, length-replicate}
use borrow.Rule.Slice.PartMut.{put_mid}
use lib.Seq.{sets, sets-eq, drop-drop}
use Rattle.sound.specs.declared.Format.{Format}
use Rattle.std.specs.Prelude.{Option, Some, None}
use Rattle.sound.specs.declared.Sound.{Sound}
use Rattle.state.specs.declared.Part.{Part}
use Rattle.state.specs.declared.State.{State}
use Rattle.mve_states.specs.State.{number_of, is_state, of_map, with_format, of_sound, of_state, no_state}

-- ---- which numbers are a state's

-- what the test says
pub record Numbers (m : List ℕ) : Type 0 where
  pub count : length m ≡ 18
  pub left : get_or m 15 0 ≤ 65535
  pub right : get_or m 16 0 ≤ 65535

three : (a b c : Bool) → cond a (cond b c false) false ≡ true → (a ≡ true) × (b ≡ true) × (c ≡ true)
three true true c e = (refl, refl, e)
three true false c e = absurd (let z : ◌≡◌ {A = ℕ} 0 1 = cc in let y : ⊥ = omega arith in y)
three false b c e = absurd (let z : ◌≡◌ {A = ℕ} 0 1 = cc in let y : ⊥ = omega arith in y)

pub are_numbers : (m : List ℕ) → is_state m ≡ true → Numbers m
unfolding is_state
are_numbers m h =
    let t = three _ _ _ h in
    record { count = eqb-true _ _ t.0; left = leb-true _ _ t.1; right = leb-true _ _ t.2 }

-- what reading them asks
pub readable : (m : List ℕ) (b : Bool) → b ≡ is_state m → b ≡ true → (length m ≡ 18) × ((get_or m 15 0 ≤ 65535) × (get_or m 16 0 ≤ 65535))
readable m b e t = let n = are_numbers m (sym e ∙ t) in (n.count, (n.left, n.right))

pub is_numbers : (m : List ℕ) → Numbers m → is_state m ≡ true
unfolding is_state
is_numbers m n = rw (eq-eqb _ _ n.count, le-leb _ _ n.left, le-leb _ _ n.right)

-- ---- written

-- parts behind each other are the whole
put_by : (o : List ℕ) (p e columns rows front : ℕ) (m : Option Part) (u : ℕ) (s : Sound) (f : Option Format) (d : ℕ)
    → sets (sets (sets (sets (sets o 8 (p ∷ e ∷ columns ∷ rows ∷ front ∷ [])) 13 (of_map m)) 16 (u ∷ [])) 17 (with_format s f)) 25 (d ∷ [])
    ≡ sets o 8 (p ∷ e ∷ columns ∷ rows ∷ front ∷ (of_map m ++ (u ∷ (with_format s f ++ (d ∷ [])))))
unfolding of_map with_format
put_by o p e columns rows front None u s None d = refl
put_by o p e columns rows front None u s (Some f) d = refl
put_by o p e columns rows front (Some m) u s None d = refl
put_by o p e columns rows front (Some m) u s (Some f) d = refl

pub put_state : (o o₁ o₂ o₃ o₄ o₅ : List ℕ) (st : State) (u d : ℕ) → u ≡ number_of st.unsent → d ≡ number_of st.deep
    → o₁ ≡ sets o 8 (st.cursor.position ∷ st.cursor.chunk_end ∷ st.columns ∷ st.rows ∷ st.front ∷ []) → o₂ ≡ sets o₁ 13 (of_map st.map) → o₃ ≡ sets o₂ 16 (u ∷ [])
    → o₄ ≡ sets o₃ 17 (of_sound st.sound) → o₅ ≡ sets o₄ 25 (d ∷ []) → o₅ ≡ sets o 8 (of_state st)
unfolding of_state
put_state o o₁ o₂ o₃ o₄ o₅ st u d eu ed e₁ e₂ e₃ e₄ e₅ = rw (e₅, e₄, e₃, e₂, e₁, eu, ed) (put_by o _ _ _ _ _ st.map _ st.sound st.sound.format _)

map_length : (m : Option Part) (u : ℕ) (s : List ℕ) → length s ≡ 9 → length (of_map m ++ (u ∷ s)) ≡ 13
unfolding of_map
map_length None u s e = rw e
map_length (Some m) u s e = rw e

format_length : (s : Sound) (f : Option Format) (d : ℕ) → length (with_format s f ++ (d ∷ [])) ≡ 9
unfolding with_format
format_length s None d = refl
format_length s (Some f) d = refl

pub state_length : (st : State) → length (of_state st) ≡ 18
unfolding of_state
state_length st =
    rw (map_length st.map (number_of st.unsent) (of_sound st.sound ++ (number_of st.deep ∷ [])) (format_length st.sound st.sound.format (number_of st.deep)))

-- ---- numbers as they are

-- a part written over, as the goals that this lemma serves show it
pub over : (a k : ℕ) (o v s : List ℕ) → a + k ≤ length o → v ≡ s → length s ≡ k → put_mid a k o v ≡ sets o a s
over a k o v s big e n = rw (e, sets-eq s o a (omega arith), n, append_assoc) (ap (λ (l : List ℕ). take a o ++ (s ++ l)) (drop-drop k a o))

pub zeros_count : length no_state ≡ 18
zeros_count = length-replicate {A = ℕ} 18 0
