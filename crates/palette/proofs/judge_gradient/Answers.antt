-- Each way out is a law of `Gradients` or `Outcome`.
use mathlib.Core.Path.{◌≡◌, sym, ◌∙◌}
use mathlib.Core.Bool.{Bool}
use borrow.Author.Tests.{ne_eqb}
use Rattle.palette.specs.declared.Gradient.{Gradient}
use Rattle.palette.specs.Gradient.{gradient_fits}
use Rattle.palette.proofs.Outcome.{refuses_8, refuses_5}
use Rattle.palette.proofs.Gradients.{refuses_first, refuses_second, takes_both}
use Rattle.palette.proofs.judge_gradient.Goals as goal
use Rattle.palette.proofs.judge_gradient.Goals.{then-fits, else-fits}

-- what a call has found of a gradient
found : (b t : Bool) (g h : Gradient) → b ≡ gradient_fits g → g ≡ h → b ≡ t → gradient_fits h ≡ t
found b t g h e f k = rw (← f) (sym e ∙ k)

pub returns-then-n-ne768 : goal.returns-then-n-ne768
returns-then-n-ne768 c = refuses_8 _ _ c.if-n-ne768.true

pub returns-then-body-ne6 : goal.returns-then-body-ne6
returns-then-body-ne6 c = refuses_5 _ _ c.if-n-ne768.false (ne_eqb _ _ c.if-body-ne6.true)

pub returns-then-not-fits : goal.returns-then-not-fits
returns-then-not-fits c =
    elim c.if-fits.branch [
      | then-fits w ↦
          refuses_second c.args.body.now _ c.if-n-ne768.false c.if-body-ne6.false (found _ _ _ _ c.fits.ensures c.at-red_blue.ensures.value w.if-fits.true)
          (found _ _ _ _ w.fits-then-fits.ensures c.at-red_green.ensures.value (sym w.value-is ∙ c.if-not-fits.true))
      | else-fits w ↦ refuses_first c.args.body.now _ c.if-n-ne768.false c.if-body-ne6.false (found _ _ _ _ c.fits.ensures c.at-red_blue.ensures.value w.if-fits.false)
    ]

pub returns : goal.returns
returns c =
    elim c.if-fits.branch [
      | then-fits w ↦
          takes_both c.args.body.now _ c.if-n-ne768.false c.if-body-ne6.false (found _ _ _ _ c.fits.ensures c.at-red_blue.ensures.value w.if-fits.true)
          (found _ _ _ _ w.fits-then-fits.ensures c.at-red_green.ensures.value (sym w.value-is ∙ c.if-not-fits.false))
      | else-fits w ↦ let h = w.value-is in let k = c.if-not-fits.false in cc
    ]
