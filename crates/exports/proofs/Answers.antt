-- An answer has 26 numbers: `open_count`, `begin_count`, `step_count`. And a call whose `out` holds so many leaves it there, and returns its kind: `answer_there`.
-- Assumes nothing.
use mathlib.Core.Path.{◌≡◌, refl, subst}
use mathlib.Core.Bool.{Bool, true, false, cond}
use mathlib.Core.List.{List}
use Prim.Native.Nat.{ℕ, suc, ◌≤◌}
use borrow.Author.Tests.{le-ltb}
use lib.ListN.{length, take}
use Rattle.std.specs.Prelude.{Option}
use Rattle.room.specs.Room.{written}
use Rattle.room.proofs.Written.{written_front}
use Rattle.packet.specs.declared.Rows.{Rows}
use Rattle.draw.specs.Call.{within}
use Rattle.opening.specs.Opening.{Opening, started, refuses, opening_of}
use Rattle.opcodes.specs.Opcodes.{Answer, taken, whole, unfinished, ended, refused}
use Rattle.film.specs.Film.{Lent, step_of}
use Rattle.begin.specs.Begin.{Beginning, sized, stopped, begin_of}
use Rattle.mve_states.specs.State.{is_state, state_of}
use Rattle.mve_states.proofs.States.{are_numbers, state_length, zeros_count}
use Rattle.mve_steps.specs.Step.{kind_in, of_answer, of_no_state, of_opening, of_beginning, spare_of}
use Rattle.exports.specs.Calls.{delivered, open_answer, exported, of_outcome, step_answer, begin_answer}

eight : (n : ℕ) → n ≡ 18 → suc (suc (suc (suc (suc (suc (suc (suc n))))))) ≡ 26
eight n e = rw e

opening_count : (o : Opening) → length (of_opening o) ≡ 26
unfolding of_opening
opening_count (started st) = eight _ (state_length st)
opening_count (refuses n k) = eight _ zeros_count

pub open_count : (film : List ℕ) (stream : ℕ) → length (open_answer film stream) ≡ 26
open_count film stream = opening_count (opening_of film stream)

beginning_count : (b : Beginning) → length (of_beginning b) ≡ 26
unfolding of_beginning
beginning_count (sized st) = eight _ (state_length st)
beginning_count (stopped n k st) = eight _ (state_length st)

pub begin_count : (film : List ℕ) (stream : ℕ) (palette : List ℕ) (place : ℕ) → length (begin_answer film stream palette place).answer ≡ 26
begin_count film stream palette place = beginning_count (begin_of film stream palette place).answer

answer_count : (m : List ℕ) → length m ≡ 18 → (a : Answer) (stores bytes : ℕ) (t : Option Rows) → length (of_answer m a stores bytes t) ≡ 26
unfolding of_answer
answer_count m n (taken st) stores bytes t = eight _ (state_length st)
answer_count m n (whole st) stores bytes t = eight _ (state_length st)
answer_count m n (unfinished st) stores bytes t = eight _ n
answer_count m n (ended st) stores bytes t = eight _ n
answer_count m n (refused i k) stores bytes t = eight _ n

pub step_count : (film m : List ℕ) (allowed form : ℕ) (l : Lent) → length (step_answer film m allowed form l).answer ≡ 26
unfolding step_answer
step_count film m allowed form l = by (is_state m) refl
  where
    by : (b : Bool) → is_state m ≡ b → length (cond b (of_outcome m (step_of film (state_of m) (within allowed (spare_of form)) l)) (exported of_no_state l)).answer ≡ 26
    by true e = let x = (step_of film (state_of m) (within allowed (spare_of form)) l).step in answer_count m (are_numbers m e).count x.answer x.stores x.bytes x.rows
    by false e = eight _ zeros_count

-- of each of the three calls
pub answer_there : {L : Type 0} (out : List ℕ) (before : L) (answer : List ℕ) (after : L) → length answer ≡ 26 → 26 ≤ length out
    → ((delivered out before answer after).returned ≡ kind_in answer) × (take 26 (delivered out before answer after).out ≡ answer)
unfolding delivered
answer_there out before answer after n h = rw (le-ltb _ _ h) (refl, subst (λ (k : ℕ). take k (written answer out) ≡ answer) n (written_front answer out))
