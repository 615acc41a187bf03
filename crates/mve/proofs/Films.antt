-- What the calls over a film return and leave, by what the lower calls do.
-- Assumes nothing.
use mathlib.Core.Path.{◌≡◌}
use mathlib.Core.Bool.{true, false}
use mathlib.Core.List.{List}
use Prim.Native.Nat.{ℕ, ◌≤◌, ◌<◌}
use borrow.Author.Tests.{lt-ltb, le-ltb}
use lib.ListN.{length}
use Rattle.std.specs.Prelude.{Result}
use Rattle.refusal.specs.declared.Refusal.{Refusal}
use Rattle.room.specs.Room.{written}
use Rattle.state.specs.declared.State.{State}
use Rattle.state.specs.State.{shown_of, shown_words_of}
use Rattle.draw.specs.Call.{within}
use Rattle.opening.specs.Opening.{opened_as, opening_of}
use Rattle.opcodes.specs.Opcodes.{Step}
use Rattle.film.specs.Film.{Lent, after, step_of}
use Rattle.begin.specs.declared.Stopped.{Stopped}
use Rattle.begin.specs.Begin.{begun_as, came, begin_of}
use Rattle.mve_states.specs.State.{is_state, state_of}
use Rattle.mve_steps.specs.Step.{kind_in, of_step, of_no_state, of_opening, of_beginning, spare_of}
use Rattle.exports.specs.Calls.{exit, delivered, step_answer, mve_open, mve_step, mve_begin, mve_shown, mve_shown_words}

-- `out` is too short
pub short_out : {L : Type 0} (out : List ℕ) (before : L) (answer : List ℕ) (after : L) → length out < 26 → exit 4 out before ≡ delivered out before answer after
unfolding delivered
short_out out before answer after h = rw (lt-ltb _ _ h)

-- an answer a that is given: its kind k, and p in `out`
abbrev pub Given : List ℕ → ℕ → List ℕ → List ℕ → Type 0
Given out k p a = (k ≡ kind_in a) × (p ≡ written a out)

long_out : {L : Type 0} (out : List ℕ) (before : L) (answer : List ℕ) (after : L) (k : ℕ) (p : List ℕ) → 26 ≤ length out → Given out k p answer
    → exit k p after ≡ delivered out before answer after
unfolding delivered
long_out out before answer after k p h g = rw (le-ltb _ _ h, g.0, g.1)

module _ (out : List ℕ) (k : ℕ) (p : List ℕ) (h : 26 ≤ length out) where
  pub open_told : (film : List ℕ) (stream : ℕ) (o : Result State Refusal) → opened_as o ≡ opening_of film stream → Given out k p (of_opening (opened_as o)) → exit k p tt ≡ mve_open film stream out
  open_told film stream o e g = long_out out tt _ tt k p h (rw e at g)

  pub begin_told : (film : List ℕ) (stream : ℕ) (b : Result State Stopped) (palette q : List ℕ) (place i : ℕ) → came (begun_as b) q i ≡ begin_of film stream palette place
      → Given out k p (of_beginning (begun_as b)) → exit k p (q, i) ≡ mve_begin film stream out palette place
  begin_told film stream b palette q place i e g = rw (← e) (long_out out (palette, place) (of_beginning (begun_as b)) (q, i) k p h g)

  -- a step, by what the film's step left
  pub step_told : (film m : List ℕ) (st : State) (n spare form : ℕ) (l : Lent) (x : Step) (l' : Lent) → is_state m ≡ true → st ≡ state_of m → spare ≡ spare_of form
      → after x l' ≡ step_of film st (within n spare) l → Given out k p (of_step m x) → exit k p l' ≡ mve_step film m n form out l
  unfolding step_answer
  step_told film m st n spare form l x l' t e f q g = rw (t, ← e, ← f, ← q) (long_out out l (of_step m x) l' k p h g)

  pub unread_told : (film m : List ℕ) (n form : ℕ) (l : Lent) → is_state m ≡ false → Given out k p of_no_state → exit k p l ≡ mve_step film m n form out l
  unfolding step_answer
  unread_told film m n form l t g = rw t (long_out out l of_no_state l k p h g)

module _ (m a b : List ℕ) where
  pub shown_told : (st : State) (s : List ℕ) → is_state m ≡ true → st ≡ state_of m → s ≡ shown_of st a b → length s ≡ mve_shown m a b
  unfolding mve_shown
  shown_told st s t e q = rw (q, e, t)

  pub unread_shown : is_state m ≡ false → 0 ≡ mve_shown m a b
  unfolding mve_shown
  unread_shown t = rw t

module _ (m c d e : List ℕ) where
  pub words_told : (st : State) (s : List ℕ) → is_state m ≡ true → st ≡ state_of m → s ≡ shown_words_of st c d e → length s ≡ mve_shown_words m c d e
  unfolding mve_shown_words
  words_told st s t f q = rw (q, f, t)

  pub unread_words : is_state m ≡ false → 0 ≡ mve_shown_words m c d e
  unfolding mve_shown_words
  unread_words t = rw t
