use Rattle.pattern.specs.declared.Form.TheVariants.{Four1x1}
use Rattle.word_fields.specs.Layout.{layout}
use Rattle.word_patterns.proofs.Bands.{Forming}
use Prim.Native.Nat.{◌*◌}
use Rattle.word_patterns.proofs.four_1x1.Given as goal

abbrev pub invariant-loop-b : goal.invariant-loop-b
invariant-loop-b g l = Forming Four1x1 (layout Four1x1) g.P.Drawing.plan l.w l.x l.y l.initial.new l.new l.to 0 (8 * l.b) (32 * l.b)
