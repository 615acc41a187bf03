-- The opening call is what the separate calls come to, however they are taken: `separately`.
-- Assumes nothing.
use mathlib.Core.Path.{◌≡◌, refl, ap, ◌∙◌}
use mathlib.Core.List.{List, []}
use Prim.Native.Nat.{ℕ, zero, suc, ◌+◌, ◌≤◌}
use native.Mathlib.Decide.{ℕ_discrete}
use native.Mathlib.Omega.{arith}
use lib.ListN.{length}
use Rattle.sound.specs.Step.{enough}
use Rattle.state.specs.declared.State.{State}
use Rattle.opening.specs.Opening.{Opening, started, opening_of}
use Rattle.film.specs.Film.{words}
use Rattle.walk.specs.Walk.{Forward}
use Rattle.begin.specs.Begin.{zeros, allowance, step_before, Course, goes, stops, course_of, Came, until, to_size, kept, begin_at}
use Rattle.separate.specs.Separate.{Bytes, Beside, Ample, step_beside, Stepping, there, ends, more, Separately}
use Rattle.separate.proofs.Same.{same_step}
use Rattle.begin.proofs.Before.{ample}
use Rattle.begin.proofs.Until.{roomy, until_sized, until_goes, until_stops, goes_forward}

-- what the opening call's definition lends to its steps
abbrev plain : Beside
plain = record { first = []; second = []; room = zeros enough; words = words [] [] []; allowed = allowance }

always : Ample plain
always = record { room = roomy; stores = ample }

module _ (film : List ℕ) where
  -- one step, and then what the rest of them come to
  one_step : (n : ℕ) (st : State) (palette : List ℕ) (place : ℕ)
      → ((t : State) (q : List ℕ) (k : ℕ) → Forward (length film) st t → Stepping film t q k (until film n t q k))
      → Stepping film st palette place (until film (suc n) st palette place)
  one_step n st palette place rest = by (ℕ_discrete st.columns 0)
    where
      on : (z : st.columns ≡ 0) (c : Course) → course_of (step_before film st palette place).step.answer ≡ c → Stepping film st palette place (until film (suc n) st palette place)
      on z (stops i k) e = rw (until_stops film n st palette place z i k e) (ends z plain always e)
      on z (goes t) e = rw (until_goes film n st palette place z t e) (more z plain always e (rest t _ _ (goes_forward film st allowance ample _ t e)))

      by : Dec (st.columns ≡ 0) → Stepping film st palette place (until film (suc n) st palette place)
      by (yes z) = on z (course_of (step_before film st palette place).step.answer) refl
      by (no h) = rw (until_sized film n st palette place h) (there h)

  -- the steps that the definition takes are such steps, and they do not run out
  steps_end : (n : ℕ) (st : State) (palette : List ℕ) (place : ℕ) → length film ≤ st.cursor.position + n → Stepping film st palette place (until film (suc n) st palette place)
  steps_end zero st palette place a = one_step zero st palette place (λ t q k f. absurd (let y : ⊥ = omega (arith, f.rises, f.ordered, f.inside) in y))
  steps_end (suc m) st palette place a = one_step (suc m) st palette place (λ t q k f. steps_end m t q k (omega (arith, f.rises)))

  -- all such steps come to the same
  module _ (bytes : Bytes film) where
    steps_same : (n : ℕ) (st : State) (palette : List ℕ) (place : ℕ) (c : Came) → length film ≤ st.cursor.position + n → Stepping film st palette place c → until film (suc n) st palette place ≡ c
    steps_same n st palette place c a (there h) = until_sized film n st palette place h
    steps_same n st palette place c a (ends {n = i} {k = k} z y big' e) =
        until_stops film n st palette place z i k (ap course_of (same_step film bytes st z palette place plain y always big').answer ∙ e)
    steps_same n st palette place c a (more {t = t} z y big' e s) = by n a (λ m l. steps_same m t _ _ c l s)
      where
        f : Forward (length film) st t
        f = goes_forward film st y.allowed big'.stores _ t e

        by : (n : ℕ) → length film ≤ st.cursor.position + n
            → ((m : ℕ) → length film ≤ t.cursor.position + m → until film (suc m) t (step_beside y film st palette place).lent.palette (step_beside y film st palette place).lent.place ≡ c)
            → until film (suc n) st palette place ≡ c
        by zero a rest = absurd (let y : ⊥ = omega (arith, f.rises, f.ordered, f.inside) in y)
        by (suc m) a rest =
            let w = same_step film bytes st z palette place plain y always big' in
            until_goes film (suc m) st palette place z t (ap course_of w.answer ∙ e)
            ∙ rw (w.palette, w.place) (rest m (omega (arith, f.rises)))

opens : (film : List ℕ) (o : Opening) (palette : List ℕ) (place : ℕ) (st : State) → o ≡ started st → begin_at o film palette place ≡ kept palette place (to_size film st palette place)
unfolding begin_at
opens film o palette place st e = rw e

-- for every film of bytes, palette and place
pub separately : (film : List ℕ) → Bytes film → (stream : ℕ) (palette : List ℕ) (place : ℕ) → Separately film stream palette place
unfolding begin_at
separately film bytes stream palette place =
    record {
      unopened = λ n k e. rw e refl;
      opened =
          λ st e c s.
          opens film (opening_of film stream) palette place st e
          ∙ ap (λ (c : Came). kept palette place c) (steps_same film bytes (length film) st palette place c (omega arith) s);
      end = λ st e. (to_size film st palette place, steps_end film (length film) st palette place (omega arith));
    }
