use mathlib.Core.Path.{refl, ap, ◌∙◌}
use Prim.Native.Nat.{◌+◌, ◌-◌, ◌*◌}
use native.Mathlib.Omega.{arith}
use Rattle.choice.specs.Choice.{cell_first, marks}
use Rattle.choice.specs.Asked.{pixels_of}
use Rattle.encode.proofs.Parts.{marks_small, marked_one, marked_none}
use Rattle.encode.proofs.marked.Goals as goal

pub loop-c-init : goal.loop-c-init
unfolding marks
loop-c-init c = refl

pub overflow_mul-v : goal.overflow_mul-v
overflow_mul-v c = omega (arith, marks_small (λ d. pixels_of c.args.s.now (cell_first c.args.side (8 * c.args.r + d))) c.args.colour (8 - c.loop-c.c) c.loop-c.c 7 (omega arith))

pub overflow_add-v : goal.overflow_add-v
overflow_add-v c = omega (arith, marks_small (λ d. pixels_of c.args.s.now (cell_first c.args.side (8 * c.args.r + d))) c.args.colour (8 - c.loop-c.c) c.loop-c.c 7 (omega arith))

pub loop-c-preserved-then-pixel-colour : goal.loop-c-preserved-then-pixel-colour
loop-c-preserved-then-pixel-colour c = marked_one (λ d. pixels_of c.args.s.now (cell_first c.args.side (8 * c.args.r + d))) _ c.loop-c.c _ _ _ (omega arith) (omega arith) refl c.loop-c.invariant (c.pixel.ensures ∙ ap (pixels_of c.args.s.now) c.cell_first.ensures.0) c.if-pixel-colour.true

pub loop-c-preserved : goal.loop-c-preserved
loop-c-preserved c = marked_none (λ d. pixels_of c.args.s.now (cell_first c.args.side (8 * c.args.r + d))) _ c.loop-c.c _ _ _ (omega arith) (omega arith) refl c.loop-c.invariant (c.pixel.ensures ∙ ap (pixels_of c.args.s.now) c.cell_first.ensures.0) c.if-pixel-colour.false
