use native.Mathlib.Omega.{arith}
use Rattle.opcodes.proofs.Steps.{ends_film, gives_size, sends, passes}
use Rattle.begin.specs.Begin.{allowance}
use Rattle.begin.proofs.Before.{ample, judges_gradient, judges_entries, judges_groups, judges_map, judges_draw, judges_quiet, judges_low}
use Rattle.begin.proofs.Possible.{early_flat}
use Rattle.begin.proofs.act.Goals as goal

pub returns-in-0 : goal.returns-in-0
returns-in-0 c = λ l g. judges_low _ _ _ _ _ _ _ allowance ample l (omega (arith, c.in-0.is)) _ (ends_film _ _ _ _ _ _ _ c.in-0.is c.at_end.ensures)

pub returns-in-5 : goal.returns-in-5
returns-in-5 c = λ l g. judges_low _ _ _ _ _ _ _ allowance ample l (omega (arith, c.in-5.is)) _ (gives_size _ _ _ _ _ _ _ _ _ _ c.in-5.is c.word_at.ensures.0 c.word_at-in-5.ensures.0 c.colour_of-colour.ensures c.size_step.ensures)

pub returns-in-7 : goal.returns-in-7
returns-in-7 c = λ l g. judges_low _ _ _ _ _ _ _ allowance ample l (omega (arith, c.in-7.is)) _ (sends _ _ _ _ _ _ _ c.in-7.is c.sent.ensures)

pub returns-in-11 : goal.returns-in-11
returns-in-11 c = λ l g. judges_gradient _ _ _ _ _ _ _ allowance ample l _ g c.judge_gradient.result _ c.judged_step.ensures c.in-11.is c.judge_gradient.ensures

pub returns-in-12 : goal.returns-in-12
returns-in-12 c = λ l g. judges_entries _ _ _ _ _ _ _ allowance ample l _ g c.judge_entries.result _ c.judged_step-in-12.ensures c.in-12.is c.judge_entries.ensures

pub returns-in-13 : goal.returns-in-13
returns-in-13 c = λ l g. judges_groups _ _ _ _ _ _ _ allowance ample l _ g c.judge_groups.result _ c.judged_step-in-13.ensures c.in-13.is c.judge_groups.ensures

pub returns-in-15 : goal.returns-in-15
returns-in-15 c = λ l g. judges_map _ _ _ _ _ _ _ allowance ample l _ c.in-15.is c.mapped.ensures

pub returns-in-17 : goal.returns-in-17
returns-in-17 c = λ l g. let y = c.requires.early in judges_draw _ _ _ _ _ _ _ allowance ample l c.in-17.is y.unsized (early_flat _ _ y)

pub returns-in_default : goal.returns-in_default
returns-in_default c = λ l g. judges_quiet _ _ _ _ _ _ _ allowance ample l _ c.in_default.in_default-own.rest.0.0.0.0.1 c.in_default.in_default-own.rest.0.0.0.1 c.in_default.in_default-own.rest.0.0.1 c.in_default.in_default-own.rest.0.1 c.in_default.in_default-own.rest.1 (passes _ _ _ _ _ _ _ c.in_default.in_default-own.rest.0.0.0.0.0.0.0.1 c.in_default.in_default-own.rest.0.0.0.0.0.0.1 c.in_default.in_default-own.rest.0.0.0.0.0.1 c.behind.ensures)
