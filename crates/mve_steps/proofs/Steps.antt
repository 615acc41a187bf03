-- Answers about a film as numbers, by what code found.
-- Assumes nothing.
use mathlib.Core.Path.{◌≡◌, refl, ap, ◌∙◌}
use mathlib.Core.List.{List, [], ◌∷◌, ◌++◌}
use Prim.Native.Nat.{ℕ, ◌≤◌}
use native.Mathlib.Omega.{arith}
use native.Mathlib.Nat.{zero-add}
use lib.ListN.{length, drop}
use lib.Seq.{sets, sets-eq}
use Rattle.room.specs.Room.{written}
use Rattle.refusal.specs.declared.Refusal.{Refusal}
use Rattle.refusal.specs.Number.{number, block}
use Rattle.std.specs.Prelude.{None}
use Rattle.begin.specs.Begin.{nowhere}
use Rattle.mve_answers.specs.declared.MveRows.{MveRows}
use Rattle.mve_answers.specs.Answer.{of_rows}
use Rattle.mve_states.specs.State.{of_map, with_format, of_state, no_state}
use Rattle.mve_steps.specs.Step.{stepped, kind_in}

-- the numbers of an answer stand at the front of `out`
all_put : (o a : List ℕ) → length a ≡ 26 → 26 ≤ length o → sets o 0 a ≡ written a o
unfolding written
all_put o a n h = sets-eq a o 0 (omega (arith, n)) ∙ ap (λ (k : ℕ). a ++ drop k o) (zero-add (length a))

-- the three numbers of the rows, as code has them
pub rows_put : (o : List ℕ) (t rows : MveRows) → t ≡ rows → sets o 5 (t.touched ∷ t.first ∷ t.last ∷ []) ≡ sets o 5 (rows.touched ∷ rows.first ∷ rows.last ∷ [])
rows_put o t rows e = rw e

module _ (o : List ℕ) (kind number block stores bytes : ℕ) (rows : MveRows) where
  -- a state's numbers behind the first eight
  pub state_put : {r q : List ℕ} (s : List ℕ) → 26 ≤ length o → length s ≡ 18 → r ≡ sets o 0 (stepped kind number block stores bytes rows []) → q ≡ sets r 8 s
      → q ≡ written (stepped kind number block stores bytes rows s) o
  state_put s h n e f = rw (f, e) (all_put o (stepped kind number block stores bytes rows s) (rw n) h)

  -- and behind five and three
  pub answer_put : {p r q : List ℕ} (s : List ℕ) → 26 ≤ length o → length s ≡ 18 → p ≡ sets o 0 (kind ∷ number ∷ block ∷ stores ∷ bytes ∷ [])
      → r ≡ sets p 5 (rows.touched ∷ rows.first ∷ rows.last ∷ []) → q ≡ sets r 8 s → q ≡ written (stepped kind number block stores bytes rows s) o
  answer_put s h n d e f = state_put s h n (rw (e, d)) f

pub refusal_put : (o : List ℕ) (r : Refusal) {p q : List ℕ} {n m k : ℕ} → n ≡ number r → m ≡ n → k ≡ block r → p ≡ sets o 0 (4 ∷ m ∷ k ∷ 0 ∷ 0 ∷ [])
    → q ≡ sets p 5 ((of_rows None).touched ∷ (of_rows None).first ∷ (of_rows None).last ∷ []) → q ≡ sets o 0 (stepped 4 (number r) (block r) 0 0 (of_rows None) [])
refusal_put o r e f g h i = rw (i, h, f, e, g)

-- what a function gives and leaves in `out` o is an answer: by its case
pub answers : {A : Type 0} (f : A → List ℕ) (o p : List ℕ) (k : ℕ) (x y : A) → x ≡ y → (k ≡ kind_in (f y)) × (p ≡ written (f y) o) → (k ≡ kind_in (f x)) × (p ≡ written (f x) o)
answers f o p k x y e t = rw e t

-- refusal 1 gives a state of zeros
pub nowhere_zeros : of_state nowhere ≡ no_state
unfolding nowhere of_state of_map with_format
nowhere_zeros = refl
