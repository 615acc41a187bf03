-- The calls over a film that the C interface offers, by what each returns and leaves. The contracts of `mve` cite these.
-- Assumes nothing.
use Rattle.std.specs.Prelude.{cond, List, ℕ, ltb, length}
use Rattle.room.specs.Room.{written}
use Rattle.draw.specs.Call.{within}
use Rattle.state.specs.State.{shown_of, shown_words_of}
use Rattle.opening.specs.Opening.{opening_of}
use Rattle.film.specs.Film.{Lent, Outcome, step_of}
use Rattle.begin.specs.Begin.{Came, begin_of}
use Rattle.mve_states.specs.State.{is_state, state_of}
use Rattle.mve_steps.specs.Step.{kind_in, of_step, of_no_state, of_opening, of_beginning, spare_of}

-- ---- `out`, the place for an answer

-- what a call returns, and `out` and what else is lent afterwards
pub record Exit (L : Type 0) : Type 0 where
  pub returned : ℕ
  pub out : List ℕ
  pub lent : L

abbrev pub exit : {L : Type 0} → ℕ → List ℕ → L → Exit L
exit returned out l = record { returned = returned; out = out; lent = l }

-- the call returns its answer's kind, and `out` has the answer's numbers, then what was behind them; what else is lent goes from before to after. Where `out` has fewer than
-- 26 numbers, the call returns 4 (refused), and nothing is touched
unfoldable pub delivered : {L : Type 0} → List ℕ → L → List ℕ → L → Exit L
delivered out before answer after = cond (ltb (length out) 26) (exit 4 out before) (exit (kind_in answer) (written answer out) after)

-- ---- mve_open

abbrev pub open_answer : List ℕ → ℕ → List ℕ
open_answer film stream = of_opening (opening_of film stream)

abbrev pub mve_open : List ℕ → ℕ → List ℕ → Exit Unit
mve_open film stream out = delivered out tt (open_answer film stream) tt

-- ---- mve_step

-- an answer's numbers, and what is lent afterwards
pub record Exported : Type 0 where
  pub answer : List ℕ
  pub lent : Lent

abbrev pub exported : List ℕ → Lent → Exported
exported x l = record { answer = x; lent = l }

abbrev pub of_outcome : List ℕ → Outcome → Exported
of_outcome m o = exported (of_step m o.step) o.lent

-- from the state whose numbers are m, with so many stores allowed, in the form that a number chooses. Numbers that are no state's are refused, and nothing is touched
unfoldable pub step_answer : List ℕ → List ℕ → ℕ → ℕ → Lent → Exported
step_answer film m allowed form l = cond (is_state m) (of_outcome m (step_of film (state_of m) (within allowed (spare_of form)) l)) (exported of_no_state l)

abbrev pub mve_step : List ℕ → List ℕ → ℕ → ℕ → List ℕ → Lent → Exit Lent
mve_step film m allowed form out l = delivered out l (step_answer film m allowed form l).answer (step_answer film m allowed form l).lent

-- ---- mve_begin

-- an answer's numbers, and the palette and the place afterwards
pub record Opens : Type 0 where
  pub answer : List ℕ
  pub palette : List ℕ
  pub place : ℕ

abbrev pub opening : List ℕ → List ℕ → ℕ → Opens
opening x palette place = record { answer = x; palette = palette; place = place }

abbrev pub of_came : Came → Opens
of_came c = opening (of_beginning c.answer) c.palette c.place

abbrev pub begin_answer : List ℕ → ℕ → List ℕ → ℕ → Opens
begin_answer film stream palette place = of_came (begin_of film stream palette place)

abbrev pub mve_begin : List ℕ → ℕ → List ℕ → List ℕ → ℕ → Exit (List ℕ × ℕ)
mve_begin film stream out palette place =
    delivered out (palette, place) (begin_answer film stream palette place).answer ((begin_answer film stream palette place).palette, (begin_answer film stream palette place).place)

-- ---- mve_shown, mve_shown_words

-- the bytes that are shown; none where m is no state's numbers
unfoldable pub mve_shown : List ℕ → List ℕ → List ℕ → ℕ
mve_shown m a b = cond (is_state m) (length (shown_of (state_of m) a b)) 0

-- the words that are shown
unfoldable pub mve_shown_words : List ℕ → List ℕ → List ℕ → List ℕ → ℕ
mve_shown_words m c d e = cond (is_state m) (length (shown_words_of (state_of m) c d e)) 0
