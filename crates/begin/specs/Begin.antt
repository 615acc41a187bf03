-- One opening call (document 02, W8): open a film, then step until a size appears. It is told by the definitions of opening and of a step.
-- Assumes nothing.
use Rattle.std.specs.Prelude.{◌≡◌, false, cond, List, [], ℕ, zero, suc, eqb, length, replicate, None, Result, Ok, Err}
use Rattle.refusal.specs.declared.Refusal.{Refusal}
use Rattle.refusal.specs.Number.{Verdict, accept, refuse, number, block}
use Rattle.packet.specs.Verdict.{default}
use Rattle.draw.specs.declared.Allowed.{Allowed}
use Rattle.draw.specs.Call.{within}
use Rattle.sound.specs.Step.{enough}
use Rattle.sound.specs.Format.{first_sound}
use Rattle.state.specs.declared.State.{State}
use Rattle.state.specs.Moves.{behind}
use Rattle.state.specs.State.{state_verdict}
use Rattle.opening.specs.Opening.{Opening, started, refuses, opening_of}
use Rattle.opcodes.specs.Opcodes.{Answer, taken, whole, unfinished, ended, refused}
use Rattle.film.specs.Film.{words, lent, Outcome, step_of}
use Rattle.walk.specs.Play.{most}
use Rattle.begin.specs.declared.Stopped.{Stopped}

-- ---- a step

unfoldable pub zeros : ℕ → List ℕ
zeros n = replicate n 0

-- the stores that a step may make: enough for every step, so none is unfinished
abbrev pub allowance : Allowed
allowance = within most default

-- a step that is lent a palette and a place, no pictures, since before a size nothing is drawn, and a room that is always enough. With other pictures, another such
-- room or more stores it does the same: `separate/specs/Separate`
abbrev pub step_before : List ℕ → State → List ℕ → ℕ → Outcome
step_before film st palette place = step_of film st allowance (lent palette [] [] place (zeros enough) (words [] [] []))

-- what a step leads to: on with a state, or the walk stops, by a refusal's number and block
pub data Course : Type 0 where
  goes : State → Course
  stops : ℕ → ℕ → Course

-- 21 at the film's end. (A step that is unfinished is called again; with the allowance none is.)
unfoldable pub course_of : Answer → Course
course_of (taken st) = goes st
course_of (whole st) = goes st
course_of (unfinished st) = goes st
course_of (ended st) = stops 21 0
course_of (refused n k) = stops n k

-- a state before a size, of a film this long: none that 16 refuses
pub record Early (film : ℕ) (st : State) : Type 0 where
  pub unsized : st.columns ≡ 0
  pub possible : state_verdict st film ≡ accept

-- 0B, 0C, 0D by their verdict
unfoldable pub judged : State → ℕ → Verdict → Answer
judged st p accept = taken (behind st p)
judged st p (refuse n k) = refused n k

-- document 01's values
abbrev pub turn_as : Result State Refusal → Course
turn_as (Ok st) = goes st
turn_as (Err r) = stops (number r) (block r)

-- ---- steps until a size appears

-- sized: the state that has the size. stopped: a refusal's number and block, and the state that the refused step was given
pub data Beginning : Type 0 where
  sized : State → Beginning
  stopped : ℕ → ℕ → State → Beginning

abbrev pub begun_as : Result State Stopped → Beginning
begun_as (Ok st) = sized st
begun_as (Err s) = stopped (number s.refusal) (block s.refusal) s.state

-- an answer, and the palette and the place that are left
pub record Came : Type 0 where
  pub answer : Beginning
  pub palette : List ℕ
  pub place : ℕ

abbrev pub came : Beginning → List ℕ → ℕ → Came
came answer palette place = record { answer = answer; palette = palette; place = place }

-- on from a step that was given this state, palette and place
unfoldable pub follow : (State → List ℕ → ℕ → Came) → State → List ℕ → ℕ → Course → Outcome → Came
follow on st palette place (goes t) o = on t o.lent.palette o.lent.place
follow on st palette place (stops n k) o = came (stopped n k st) palette place

-- at most so many steps
unfoldable pub until : List ℕ → ℕ → State → List ℕ → ℕ → Came
until film zero st palette place = came (stopped 21 0 st) palette place
until film (suc n) st palette place =
    cond (eqb st.columns 0)
    (follow (until film n) st palette place (course_of (step_before film st palette place).step.answer) (step_before film st palette place))
    (came (sized st) palette place)

-- one more than the film has bytes: every step that goes on passes four of them, so the steps never run out
abbrev pub to_size : List ℕ → State → List ℕ → ℕ → Came
to_size film st palette place = until film (suc (length film)) st palette place

-- ---- opening

-- a refusal leaves palette and place as they were
unfoldable pub kept_by : Beginning → List ℕ → ℕ → Came → Came
kept_by (sized st) palette place c = c
kept_by (stopped n k st) palette place c = came (stopped n k st) palette place

abbrev pub kept : List ℕ → ℕ → Came → Came
kept palette place c = kept_by c.answer palette place c

-- a state of zeros
unfoldable pub nowhere : State
nowhere =
    record { cursor = record { position = 0; chunk_end = 0 }; columns = 0; rows = 0; deep = false; front = 0; map = None; unsent = false; sound = first_sound 0 }

unfoldable pub begin_at : Opening → List ℕ → List ℕ → ℕ → Came
begin_at (started st) film palette place = kept palette place (to_size film st palette place)
begin_at (refuses n k) film palette place = came (stopped n k nowhere) palette place

abbrev pub begin_of : List ℕ → ℕ → List ℕ → ℕ → Came
begin_of film stream palette place = begin_at (opening_of film stream) film palette place
