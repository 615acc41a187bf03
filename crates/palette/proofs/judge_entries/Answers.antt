-- Each way out is a law of `Entries` or `Outcome`.
use native.Mathlib.Omega.{arith}
use mathlib.Core.Path.{sym, ◌∙◌}
use Rattle.palette.proofs.Outcome.{refuses_8}
use Rattle.palette.proofs.Entries.{wrong_length, past_the_last, too_large, takes_entries}
use Rattle.palette.proofs.judge_entries.Goals as goal

pub returns-then-n-ne768 : goal.returns-then-n-ne768
returns-then-n-ne768 c = refuses_8 _ _ c.if-n-ne768.true

pub returns-then-body-count : goal.returns-then-body-count
returns-then-body-count c = wrong_length _ _ c.if-n-ne768.false _ _ c.word_at-start.ensures.0 c.word_at-count.ensures.0 (λ e. omega (arith, c.if-body-count.true))

pub returns-then-start-count-gt256 : goal.returns-then-start-count-gt256
returns-then-start-count-gt256 c = past_the_last _ _ c.if-n-ne768.false _ _ c.word_at-start.ensures.0 c.word_at-count.ensures.0 c.if-body-count.false c.if-start-count-gt256.true

pub returns-then-not-are_components : goal.returns-then-not-are_components
returns-then-not-are_components c =
    too_large _ _ c.if-n-ne768.false _ _ c.word_at-start.ensures.0 c.word_at-count.ensures.0 c.if-body-count.false c.if-start-count-gt256.false (sym c.are_components.ensures ∙ c.if-not-are_components.true)

pub returns : goal.returns
returns c =
    takes_entries _ _ c.if-n-ne768.false _ _ c.word_at-start.ensures.0 c.word_at-count.ensures.0 c.if-body-count.false c.if-start-count-gt256.false (sym c.are_components.ensures ∙ c.if-not-are_components.false)
