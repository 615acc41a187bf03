-- Demands 2 and 3 in one form (document 02, W6: "Demands 2 and 3 read the default"). `Demand2` and `Demand3` are of calls in any form; here all calls are
-- in one, the default or the strict one (`proofs/Forms`).
-- Assumes nothing.
use Rattle.std.specs.Prelude.{◌≡◌, List, ℕ}
use Rattle.refusal.specs.Number.{accept}
use Rattle.stores.specs.Stores.{Memory, memory}
use Rattle.stores.specs.Calls.{Event, call_of, Each}
use Rattle.draw.specs.Call.{Request, draw_verdict, calling}
use Rattle.draw.specs.Forms.{in_form}
use Rattle.book.specs.Demand.{Same, OnlyRefusedDiffer, CutsWithin, Given, Demand3}
use Rattle.book.specs.Picture.{Demand2}

-- each call of a list may leave over so many bytes
abbrev pub AllIn : ℕ → Memory → List (Event Request) → Type 0
AllIn spare m es = Each calling (λ m e. (call_of e).allowed.spare ≡ spare) m es

-- demand 2 of every call in this form
abbrev pub Demand2In : ℕ → Type 0
Demand2In spare = (c : Request) (first : List ℕ) → Demand2 (in_form spare c) first

-- what a list of calls in the form of c comes to: demand 3, and each call that brings what c brings is accepted
pub record InOneForm (c : Request) (first : List ℕ) (es : List (Event Request)) : Type 0 where
  pub demand : Demand3 c first es
  pub accepts : Each calling (λ m e. Same (call_of e) c → draw_verdict (call_of e) m ≡ accept) (memory first 0) es

-- demand 3 of every list of calls in this form
abbrev pub Demand3In : ℕ → Type 0
Demand3In spare =
    (c : Request) (first : List ℕ) → Given (in_form spare c) first → (es : List (Event Request)) → AllIn spare (memory first 0) es
    → OnlyRefusedDiffer (in_form spare c) (memory first 0) es → CutsWithin (memory first 0) es → InOneForm (in_form spare c) first es
