-- Answers as numbers, for hosts in other languages: the kind of the answer, document 01's number and block of a refusal, the count of stores, and the rows
-- of blocks that a packet touches as three numbers.
-- Assumes nothing.
use Rattle.std.specs.Prelude.{ℕ, Option, Some, None}
use Rattle.refusal.specs.Number.{Verdict, accept, refuse}
use Rattle.packet.specs.declared.Rows.{Rows}
use Rattle.packet.specs.Rows.{Found, accepted, refused}
use Rattle.stores.specs.Calls.{Answer, whole, unfinished, refusal}
use Rattle.draw.specs.Call.{Reason, Report}
use Rattle.mve_answers.specs.declared.MveRows.{MveRows}
use Rattle.mve_answers.specs.declared.MveAnswer.{MveAnswer}

-- touched or not, the first row and the last; 0 where there is none
unfoldable pub of_rows : Option Rows → MveRows
of_rows None = record { touched = 0; first = 0; last = 0 }
of_rows (Some r) = record { touched = 1; first = r.first; last = r.last }

abbrev pub answer : ℕ → ℕ → ℕ → ℕ → MveRows → MveAnswer
answer kind number block stores rows = record { kind = kind; number = number; block = block; stores = stores; rows = rows }

-- kinds: 0 accepted, 1 whole, 2 unfinished, 4 refused
unfoldable pub of_found : Found → MveAnswer
of_found (accepted t) = answer 0 0 0 0 (of_rows t)
of_found (refused number block) = answer 4 number block 0 (of_rows None)

unfoldable pub of_answer : Answer Reason → ℕ → Option Rows → MveAnswer
of_answer whole n t = answer 1 0 0 n (of_rows t)
of_answer unfinished n t = answer 2 0 0 n (of_rows t)
of_answer (refusal r) n t = answer 4 r.number r.block n (of_rows t)

abbrev pub of_report : Report → MveAnswer
of_report o = of_answer o.answer o.count o.rows

-- of a call that says no more: 0, or the number of the refusal
unfoldable pub of_verdict : Verdict → ℕ
of_verdict accept = 0
of_verdict (refuse number block) = number
