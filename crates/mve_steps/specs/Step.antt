-- A step's answer and that of opening as 26 numbers, for hosts in other languages: kind, number, block, stores, bytes, touched, first_row, last_row, then the 18 of a state.
-- Assumes nothing.
use Rattle.std.specs.Prelude.{cond, List, ◌∷◌, ℕ, eqb, get_or, drop, Option, None}
use Rattle.packet.specs.declared.Rows.{Rows}
use Rattle.packet.specs.Verdict.{default, strict}
use Rattle.opening.specs.Opening.{Opening, started, refuses}
use Rattle.opcodes.specs.Opcodes.{Answer, Step, taken, whole, unfinished, ended, refused}
use Rattle.begin.specs.Begin.{Beginning, sized, stopped}
use Rattle.mve_answers.specs.declared.MveRows.{MveRows}
use Rattle.mve_answers.specs.Answer.{of_rows}
use Rattle.mve_states.specs.State.{of_state, no_state}

abbrev pub stepped : ℕ → ℕ → ℕ → ℕ → ℕ → MveRows → List ℕ → List ℕ
stepped kind number block stores bytes rows state = kind ∷ number ∷ block ∷ stores ∷ bytes ∷ rows.touched ∷ rows.first ∷ rows.last ∷ state

-- of such numbers: the kind, and the state's
abbrev pub kind_in : List ℕ → ℕ
kind_in x = get_or x 0 0

abbrev pub state_in : List ℕ → List ℕ
state_in x = drop 8 x

-- kinds: 0 taken, 1 whole, 2 unfinished, 3 ended, 4 refused. Where the state stays, m comes back number by number
unfoldable pub of_answer : List ℕ → Answer → ℕ → ℕ → Option Rows → List ℕ
of_answer m (taken st) stores bytes t = stepped 0 0 0 stores bytes (of_rows t) (of_state st)
of_answer m (whole st) stores bytes t = stepped 1 0 0 stores bytes (of_rows t) (of_state st)
of_answer m (unfinished st) stores bytes t = stepped 2 0 0 stores bytes (of_rows t) m
of_answer m (ended st) stores bytes t = stepped 3 0 0 stores bytes (of_rows t) m
of_answer m (refused number block) stores bytes t = stepped 4 number block stores bytes (of_rows t) m

abbrev pub of_step : List ℕ → Step → List ℕ
of_step m x = of_answer m x.answer x.stores x.bytes x.rows

-- a step that is given numbers that are no state's: refused by 16
abbrev pub of_no_state : List ℕ
of_no_state = stepped 4 16 0 0 0 (of_rows None) no_state

-- kinds: 0 opened, 4 refused, with a state of zeros
unfoldable pub of_opening : Opening → List ℕ
of_opening (started st) = stepped 0 0 0 0 0 (of_rows None) (of_state st)
of_opening (refuses number block) = stepped 4 number block 0 0 (of_rows None) no_state

-- kinds: 0 opened, with the state just after 05; 4 refused, with the state that the refused step was given
unfoldable pub of_beginning : Beginning → List ℕ
of_beginning (sized st) = stepped 0 0 0 0 0 (of_rows None) (of_state st)
of_beginning (stopped number block st) = stepped 4 number block 0 0 (of_rows None) (of_state st)

-- the bytes of a packet that may be left over, by a number that chooses the form: 0 the default, any other the strict one
unfoldable pub spare_of : ℕ → ℕ
spare_of form = cond (eqb form 0) default strict
