-- Each way out is a law of `Outcome`.
use mathlib.Core.Path.{refl, sym, ◌∙◌}
use borrow.Author.Tests.{eq-eqb, ne_eqb}
use Rattle.palette.proofs.Outcome.{refuses_8, refuses_5, refuses_component, accepts}
use Rattle.palette.proofs.judge_groups.Goals as goal

pub returns-then-n-ne768 : goal.returns-then-n-ne768
returns-then-n-ne768 c = refuses_8 _ _ c.if-n-ne768.true

pub returns-then-groups_end-body : goal.returns-then-groups_end-body
returns-then-groups_end-body c = refuses_5 _ _ c.if-n-ne768.false (ne_eqb _ _ (λ e. c.if-groups_end-body.true (c.groups_end.ensures ∙ e)))

pub returns-then-not-are_group_components : goal.returns-then-not-are_group_components
returns-then-not-are_group_components c =
    refuses_component _ _ c.if-n-ne768.false (eq-eqb _ _ (sym c.groups_end.ensures ∙ c.if-groups_end-body.false)) refl (sym c.are_group_components.ensures ∙ c.if-not-are_group_components.true)

pub returns : goal.returns
returns c =
    accepts _ _ c.if-n-ne768.false (eq-eqb _ _ (sym c.groups_end.ensures ∙ c.if-groups_end-body.false)) refl (sym c.are_group_components.ensures ∙ c.if-not-are_group_components.false)
