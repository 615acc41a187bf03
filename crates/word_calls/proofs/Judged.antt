-- What a call on words has that was judged and accepted.
-- Assumes nothing.
use mathlib.Core.Path.{◌≡◌}
use mathlib.Core.Bool.{true}
use mathlib.Core.List.{List}
use Prim.Native.Nat.{ℕ}
use Rattle.std.specs.Prelude.{Result, Ok, Option}
use Rattle.refusal.specs.declared.Refusal.{Refusal}
use Rattle.packet.specs.declared.Rows.{Rows}
use Rattle.packet.specs.Verdict.{legal_size}
use Rattle.packet.specs.Rows.{finding, found}
use Rattle.draw.specs.Call.{call_verdict_in}
use Rattle.draw.proofs.Judged.{judged_call}
use Rattle.word_calls.specs.Asked.{Judged}

-- by what the judge answers
pub judged_words : (spare columns rows : ℕ) (map bytes : List ℕ) (last oldest new place : ℕ) (t : Option Rows) (i : Result (Option Rows) Refusal)
    → found i ≡ finding (call_verdict_in true spare columns rows map bytes last oldest new place) t → (u : Option Rows) → i ≡ Ok u
    → (legal_size columns rows ≡ true) × Judged columns rows map bytes last oldest new place
judged_words spare columns rows map bytes last oldest new place t i e u q =
    let a = judged_call true spare columns rows map bytes last oldest new place t i e u q in
    (a.0, record { parts = a.2.accepted.parts; accepted = record { accepted = a.1; oldest_room = a.2.oldest_long } })
