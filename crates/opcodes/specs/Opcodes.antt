-- What each opcode that is taken does to the state (document 01, "Film, chunks, opcodes"), and the answer of a step.
-- Assumes nothing.
use Rattle.std.specs.Prelude.{Bool, true, false, cond, List, ℕ, eqb, Result, Ok, Err, Option, None}
use Rattle.words.specs.Word.{word_at}
use Rattle.refusal.specs.declared.Refusal.{Refusal}
use Rattle.refusal.specs.Number.{number, block}
use Rattle.packet.specs.declared.Rows.{Rows}
use Rattle.packet.specs.Verdict.{legal_size}
use Rattle.stores.specs.Calls as drawing
use Rattle.draw.specs.Call.{Reason, Report}
use Rattle.sound.specs.Sound as sound
use Rattle.state.specs.declared.State.{State}
use Rattle.state.specs.Moves.{behind, at_end, sized, sent, heard, finished}
use Rattle.opcodes.specs.declared.Stepped.{Stepped}
use Rattle.opcodes.specs.declared.Stepped.TheVariants.{Taken, Heard, Whole, Unfinished, Ended}

-- ---- answers

-- with the state that is given back. taken: done, without drawing. whole: a drawing is done. unfinished: the stores allowed ran short. ended: the film is over.
-- refused: number and block
pub data Answer : Type 0 where
  taken whole unfinished ended : State → Answer
  refused : ℕ → ℕ → Answer

-- an answer, how many stores were made, those of sound not counted, how many bytes of sound were written, and the rows of blocks that the drawn packet touches
pub record Step : Type 0 where
  pub answer : Answer
  pub stores : ℕ
  pub bytes : ℕ
  pub rows : Option Rows

abbrev pub drew : Answer → ℕ → Option Rows → Step
drew x n t = record { answer = x; stores = n; bytes = 0; rows = t }

-- a step that does not draw tells no rows
abbrev pub stored : Answer → ℕ → Step
stored x n = drew x n None

-- and one that is no sound tells 0 bytes
abbrev pub quiet : Answer → Step
quiet x = stored x 0

abbrev pub wrote : Answer → ℕ → Step
wrote x n = record { answer = x; stores = 0; bytes = n; rows = None }

-- document 01's values of each answer
abbrev pub stepped_as : Result Stepped Refusal → Step
stepped_as (Ok (Taken st n)) = stored (taken st) n
stepped_as (Ok (Heard st n)) = wrote (taken st) n
stepped_as (Ok (Whole st n t)) = drew (whole st) n t
stepped_as (Ok (Unfinished st n t)) = drew (unfinished st) n t
stepped_as (Ok (Ended st)) = quiet (ended st)
stepped_as (Err r) = quiet (refused (number r) (block r))

-- ---- opcodes that change nothing lent

-- a true-colour word that is not 0 gives a film true colour
unfoldable pub is_deep : ℕ → Bool
is_deep colour = cond (eqb colour 0) false true

-- 05: words columns, rows and true colour; 6 for a size that is not legal, or a second 05
unfoldable pub size_answer : State → ℕ → ℕ → ℕ → ℕ → Answer
size_answer st p columns rows colour =
    cond (eqb st.columns 0) (cond (legal_size columns rows) (taken (sized st p columns rows (is_deep colour))) (refused 6 0)) (refused 6 0)

-- version 2 alone has a true-colour word, behind the count word, which is not read
unfoldable pub colour_of : List ℕ → ℕ → ℕ
colour_of body version = cond (eqb version 2) (word_at body 6) 0

-- 00 ends the film; 05 and 07; 01 and what is passed over. A film this long, type and version, and a body that ends at p
unfoldable pub quiet_answer : ℕ → State → ℕ → ℕ → List ℕ → ℕ → Answer
quiet_answer film st kind version body p =
    cond (eqb kind 0) (taken (at_end st film))
    (cond (eqb kind 5) (size_answer st p (word_at body 0) (word_at body 2) (colour_of body version))
    (cond (eqb kind 7) (taken (sent st p)) (taken (behind st p))))

-- ---- sound and the drawing, by what they came to

unfoldable pub heard_step : State → ℕ → sound.Answer → Step
heard_step st p (sound.heard s n) = wrote (taken (heard st p s)) n
heard_step st p (sound.refusal n k) = quiet (refused n k)

-- 11: "whole" uses the map up and marks the frame finished; "unfinished" keeps the state; a refused drawing makes no store
unfoldable pub drawn_as : State → ℕ → drawing.Answer Reason → ℕ → Option Rows → Step
drawn_as st p drawing.whole n t = drew (whole (finished st p)) n t
drawn_as st p drawing.unfinished n t = drew (unfinished st) n t
drawn_as st p (drawing.refusal r) n t = quiet (refused r.number r.block)

abbrev pub drawn_step : State → ℕ → Report → Step
drawn_step st p o = drawn_as st p o.answer o.count o.rows
