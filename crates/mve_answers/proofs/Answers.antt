-- The answer of a drawing call as numbers is that of what the lower call said.
-- Assumes nothing.
use mathlib.Core.Path.{◌≡◌}
use Prim.Native.Nat.{ℕ}
use Rattle.std.specs.Prelude.{Result, Ok, Err, Option, None}
use Rattle.refusal.specs.declared.Refusal.{Refusal}
use Rattle.refusal.specs.Number.{number, block}
use Rattle.packet.specs.declared.Rows.{Rows}
use Rattle.draw.specs.declared.Drawn.{Drawn}
use Rattle.draw.specs.declared.Drawn.TheVariants.{Whole, Unfinished}
use Rattle.draw.specs.Call.{said}
use Rattle.mve_answers.specs.declared.MveAnswer.{MveAnswer}
use Rattle.mve_answers.specs.Answer.{of_rows, answer, of_answer, of_report}

module _ (d : Result Drawn Refusal) (a : MveAnswer) where
  pub whole_as : (n : ℕ) (t : Option Rows) → d ≡ Ok (Whole n t) → a ≡ answer 1 0 0 n (of_rows t) → a ≡ of_report (said d)
  unfolding of_answer
  whole_as n t q f = rw q f

  pub unfinished_as : (n : ℕ) (t : Option Rows) → d ≡ Ok (Unfinished n t) → a ≡ answer 2 0 0 n (of_rows t) → a ≡ of_report (said d)
  unfolding of_answer
  unfinished_as n t q f = rw q f

  pub denied_as : (r : Refusal) → d ≡ Err r → a ≡ answer 4 (number r) (block r) 0 (of_rows None) → a ≡ of_report (said d)
  unfolding of_answer
  denied_as r q f = rw q f
